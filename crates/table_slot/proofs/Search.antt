-- How a key stands to the key of a row, in the words that the code reads, and one more row of a search.
use Rattle.std.proofs.Common.{Some, None}
use mathlib.Core.Path.{◌≡◌, refl}
use mathlib.Core.Bool.{Bool, cond}
use Rattle.std.specs.Ordering.{is_gt}
use mathlib.Core.List.{List, [], ◌∷◌, map}
use native.Mathlib.Omega.{arith}
use native.Mathlib.Numerals.{add-one}
use lib.ListN.{length, drop, get_or, length-take, length-drop}
use Prim.Native.Nat.{ℕ, zero, suc, ◌+◌, ◌*◌, ◌/◌, ◌≤◌, ◌<◌, Ordering}
use borrow.Author.Tests.{lt-ltb, le-ltb, eq-eqb, ne_eqb}
use Rattle.tree.specs.Name.{Name, cmp, by_order}
use Rattle.tree.specs.declared.Profile.{Profile}
use Rattle.tree.specs.Key.{key}
use Rattle.table_row.specs.Table.{Row, row_at, rows, depth, name}
use Rattle.table_row.specs.Order.{ordered}
use Rattle.std.specs.declared.cmp.Ordering.{Ordering as Order}
use Rattle.std.specs.declared.cmp.Ordering.TheVariants.{Less, Equal, Greater}
use Rattle.table_row.specs.Keyed.{keyed_row, keyed}
use Rattle.table_row.proofs.Table.{rows-cons, rows-nil, depth-at}
use Rattle.table_row.proofs.Keyed.{HasKey, has_key, rows-keyed}
use Rattle.table_stands.proofs.Rows.{head}
use Rattle.table_slot.specs.Insert.{against, start_of, spot_in}

module _ (d : ℕ) (n : Name) (r : Row) where
  pub against-over : depth r ≤ d → against d n r ≡ Ordering.lt
  unfolding against
  against-over h = rw (le-ltb _ _ h)

  pub against-entry : depth r ≡ suc d → against d n r ≡ cmp n (name r)
  unfolding against
  against-entry e = let h : d < depth r = omega arith in rw (lt-ltb _ _ h, eq-eqb _ _ e)

  pub against-deep : d < depth r → (depth r ≡ suc d → ⊥) → against d n r ≡ Ordering.gt
  unfolding against
  against-deep h e = rw (lt-ltb _ _ h, ne_eqb _ _ e)

-- one of three, by an order as the code answers it
abbrev pub by_answer : {A : Type 0} → Order → A → A → A → A
by_answer Less x y z = x
by_answer Equal x y z = y
by_answer Greater x y z = z

by_answer-ordered : {A : Type 0} (o : Ordering) (x y z : A) → by_order o x y z ≡ by_answer (ordered o) x y z
by_answer-ordered Ordering.lt x y z = refl
by_answer-ordered Ordering.eq x y z = refl
by_answer-ordered Ordering.gt x y z = refl

drop-map : {A B : Type 0} (f : A → B) (i : ℕ) (l : List A) → drop i (map f l) ≡ map f (drop i l)
drop-map f zero l = refl
drop-map f (suc i) [] = refl
drop-map f (suc i) (x ∷ l) = drop-map f i l

-- the rows of a table of keys
module _ (p : Profile) (w : List ℕ) (i : ℕ) where
  pub keyed-end : length w / 20 ≤ i → drop i (rows (keyed p w)) ≡ []
  keyed-end h = rw (rows-keyed p w, drop-map, rows-nil w i h)

  pub keyed-cons : i < length w / 20 → drop i (rows (keyed p w)) ≡ keyed_row p (row_at w i) ∷ drop (suc i) (rows (keyed p w))
  keyed-cons h = rw (rows-keyed p w, drop-map (keyed_row p) i (rows w), drop-map (keyed_row p) (suc i) (rows w), rows-cons w i h)

  module _ (h : 20 * (i + 1) ≤ length w) where
    pub row-has-key : HasKey p (row_at w i)
    row-has-key = has_key p (row_at w i) (simp (length-take, length-drop) (omega arith))

    pub row-keyed : row_at (keyed p w) i ≡ keyed_row p (row_at w i)
    row-keyed = (head (keyed p w) i (keyed_row p (row_at w i)) (drop (suc i) (rows (keyed p w))) (keyed-cons (omega arith))).row

    pub name-keyed : name (row_at (keyed p w) i) ≡ key p (name (row_at w i))
    name-keyed = rw (row-keyed, row-has-key.name-is)

    pub depth-keyed : depth (row_at (keyed p w) i) ≡ get_or w (20 * i) 0
    depth-keyed = rw (row-keyed, row-has-key.depth_is, depth-at)

after-last : (o : Ordering) (x y : ℕ) → by_order o x x y ≡ cond (is_gt (ordered o)) y x
after-last Ordering.lt x y = refl
after-last Ordering.eq x y = refl
after-last Ordering.gt x y = refl

-- past the entry that was put in last, where there is one
pub start-past : (p : Profile) (w : List ℕ) (f last : ℕ) (n : Name) (after : Bool) → after ≡ is_gt (ordered (cmp (key p n) (key p (name (row_at w last))))) → f < last
    → 20 * (last + 1) ≤ length w → start_of (keyed p w) f last (key p n) ≡ cond after (last + 1) (f + 1)
start-past p w f last n after e h g = rw (lt-ltb f last h, after-last (cmp (key p n) (name (row_at (keyed p w) last))) (f + 1) (last + 1), e, name-keyed p w last g)

module _ (p : Profile) (w : List ℕ) (d : ℕ) (n : Name) (i : ℕ) where
  pub spot-end : length w / 20 ≤ i → spot_in n d i (drop i (rows (keyed p w))) ≡ Some i
  unfolding spot_in
  spot-end h = rw (keyed-end p w i h)

  pub spot-at : (o : Order) → o ≡ ordered (against d n (keyed_row p (row_at w i))) → i < length w / 20
      → spot_in n d i (drop i (rows (keyed p w))) ≡ by_answer o (Some i) None (spot_in n d (i + 1) (drop (i + 1) (rows (keyed p w))))
  unfolding spot_in
  spot-at o e h =
      rw (keyed-cons p w i h, add-one, by_answer-ordered (against d n (keyed_row p (row_at w i))) (Some i) None (spot_in n d (suc i) (drop (suc i) (rows (keyed p w)))), e)

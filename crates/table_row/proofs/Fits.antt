-- Rows that fit together are the rows of the tree that they are read as.
use mathlib.Core.Path.{◌≡◌, refl, sym, ap, ap₂, ◌∙◌}
use mathlib.Core.List.{List, [], ◌∷◌, ◌++◌, append_assoc, append-nil}
use mathlib.Core.Bool.{Bool, true, false, cond}
use native.Mathlib.Omega.{arith}
use lib.Dec.{eqb}
use lib.ListN.{length, drop, replicate, take-append-drop, length-drop}
use Prim.Native.Nat.{ℕ, suc, ◌+◌, ◌≤◌, ◌<◌, compare, Ordering}
use borrow.Author.Tests.{eqb-true}
use Rattle.tree.specs.Name.{by_order}
use Rattle.tree.specs.Forest.{Forest, Forest.end, Forest.leaf, Forest.dir}
use Rattle.tree.specs.Rules.{zeros}
use Rattle.tree.proofs.Order.{Cmp, Cmp.less, Cmp.same, Cmp.more, view, compare-below}
use Rattle.table_row.specs.Table.{Row, depth, kind, name, content}
use Rattle.table_row.specs.Tree.{file_row, folder_row, rows_of, entry_of, siblings}

-- words that are all zero
pub zeros-all : (w : List ℕ) → zeros w ≡ true → w ≡ replicate (length w) 0
unfolding zeros
zeros-all [] z = refl
zeros-all (x ∷ w) z = go (eqb x 0) refl z (zeros-all w)
  where
    go : (b : Bool) → eqb x 0 ≡ b → cond b (zeros w) false ≡ true → (zeros w ≡ true → w ≡ replicate (length w) 0) → x ∷ w ≡ 0 ∷ replicate (length w) 0
    go true e z ih = rw (eqb-true x 0 e, ← ih z)
    go false e z ih = cc

-- a row in the form of a tree's: twenty words, kind 0 or 1, a folder's zeros
pub record Formed (r : Row) : Type 0 where
  pub twenty : length r ≡ 20
  pub kinds : kind r ≤ 1
  pub zeroed : kind r ≡ 0 → zeros (drop 10 r) ≡ true

-- a row's words are its parts
parts : (r : Row) → length r ≡ 20 → r ≡ depth r ∷ kind r ∷ (name r ++ drop 10 r)
parts [] h = absurd (omega arith)
parts (d ∷ []) h = absurd (omega arith)
parts (d ∷ k ∷ r) h = ap (λ (x : Row). d ∷ k ∷ x) (sym (take-append-drop 8 r))

pub file-form : (r : Row) → Formed r → file_row (depth r) (name r) (content r) ≡ r
file-form r F = sym (parts r F.twenty)

pub folder-form : (r : Row) → Formed r → kind r ≡ 0 → folder_row (depth r) (name r) ≡ r
folder-form r F z =
    let t : length (drop 10 r) ≡ 10 = omega (arith, length-drop 10 r, F.twenty) in
    let q : drop 10 r ≡ replicate 10 0 = zeros-all (drop 10 r) (F.zeroed z) ∙ rw t in
    sym (parts r F.twenty ∙ ap₂ (λ (k : ℕ) (w : List ℕ). depth r ∷ k ∷ (name r ++ w)) z q)

-- the rows from the first that is less deep than d
unfoldable pub past : ℕ → List Row → List Row
past d [] = []
past d (r ∷ rs) = by_order (compare (depth r) d) (r ∷ rs) (past d rs) (past d rs)

-- each row has a depth from 1 up to m, and leaves to the next at most one more where it is a folder's, else its own
unfoldable pub Fits : ℕ → List Row → Type 0
Fits m [] = Unit {0}
Fits m (r ∷ rs) = (1 ≤ depth r) × (depth r ≤ m) × Formed r × Fits (cond (eqb (kind r) 0) (depth r + 1) (depth r)) rs

-- nothing is deeper than it may be
past-none : (rs : List Row) (m d : ℕ) → Fits m rs → m < d → past d rs ≡ rs
unfolding past Fits
past-none [] m d f h = refl
past-none (r ∷ rs) m d f h = rw (compare-below (depth r) d (omega (arith, f.1)))

past-deeper : (r : Row) (rs : List Row) (d : ℕ) → d ≤ depth r → past d (r ∷ rs) ≡ past d rs
unfolding past
past-deeper r rs d h = go (compare (depth r) d) (view (depth r) d)
  where
    go : (w : Ordering) → Cmp (depth r) d w → by_order {A = List Row} w (r ∷ rs) (past d rs) (past d rs) ≡ past d rs
    go Ordering.lt (less g) = absurd (omega arith)
    go Ordering.eq (same g) = refl
    go Ordering.gt (more g) = refl

-- the rows beneath an entry, if it is a folder's
abbrev beneath : Row → List Row → List Row
beneath r rs = cond (eqb (kind r) 0) rs []

-- an entry's row stands before the rows beneath it and those of its later siblings
back-entry : (r : Row) (k s : Forest) → Formed r → rows_of (depth r) (entry_of r k s) ≡ r ∷ (beneath r (rows_of (suc (depth r)) k) ++ rows_of (depth r) s)
unfolding rows_of
back-entry r k s F = go (eqb (kind r) 0) refl
  where
    go : (b : Bool) → eqb (kind r) 0 ≡ b → rows_of (depth r) (cond b (dir (name r) k s) (leaf (name r) (content r) s)) ≡ r ∷ (cond b (rows_of (suc (depth r)) k) [] ++ rows_of (depth r) s)
    go true e = rw (folder-form r F (eqb-true (kind r) 0 e))
    go false e = rw (file-form r F)

-- what is past a folder's entries is all the rest
back-rest : (r : Row) (rs ks : List Row) → Fits (cond (eqb (kind r) 0) (depth r + 1) (depth r)) rs → ks ++ past (suc (depth r)) rs ≡ past (suc (suc (depth r))) rs
    → beneath r ks ++ past (suc (depth r)) rs ≡ rs
back-rest r rs ks = go (eqb (kind r) 0)
  where
    go : (b : Bool) → Fits (cond b (depth r + 1) (depth r)) rs → ks ++ past (suc (depth r)) rs ≡ past (suc (suc (depth r))) rs → cond b ks [] ++ past (suc (depth r)) rs ≡ rs
    go true f a = a ∙ past-none rs (depth r + 1) (suc (suc (depth r))) f (omega arith)
    go false f a = past-none rs (depth r) (suc (depth r)) f (omega arith)

-- siblings read from rows and written back, and what is past them
pub back : (rs : List Row) (m d : ℕ) → Fits m rs → rows_of d (siblings d rs) ++ past d rs ≡ past (suc d) rs
unfolding past siblings Fits rows_of
back [] m d f = refl
back (r ∷ rs) m d f = go (compare (depth r) d) (view (depth r) d) (back rs next d f.3) (back rs next (suc d) f.3)
  where
    next : ℕ
    next = cond (eqb (kind r) 0) (depth r + 1) (depth r)

    go : (w : Ordering) → Cmp (depth r) d w → rows_of d (siblings d rs) ++ past d rs ≡ past (suc d) rs
        → rows_of (suc d) (siblings (suc d) rs) ++ past (suc d) rs ≡ past (suc (suc d)) rs
        → rows_of d (by_order w end (entry_of r (siblings (suc d) rs) (siblings d rs)) (siblings d rs)) ++ by_order {A = List Row} w (r ∷ rs) (past d rs) (past d rs) ≡ past (suc d) (r ∷ rs)
    go Ordering.lt (less h) a b = rw (compare-below (depth r) (suc d) (omega arith))
    go Ordering.eq (same h) a b =
        let k = rows_of (suc (depth r)) (siblings (suc (depth r)) rs) in
        let a' : rows_of (depth r) (siblings (depth r) rs) ++ past (depth r) rs ≡ past (suc (depth r)) rs = rw h a in
        let b' : k ++ past (suc (depth r)) rs ≡ past (suc (suc (depth r))) rs = rw h b in
        rw (
          ← h,
          compare-below (depth r) (suc (depth r)) (omega arith),
          back-entry r (siblings (suc (depth r)) rs) (siblings (depth r) rs) f.2,
          append_assoc (beneath r k) (rows_of (depth r) (siblings (depth r) rs)) (past (depth r) rs),
          a',
          back-rest r rs k f.3 b',
        )
    go Ordering.gt (more h) a b = a ∙ sym (past-deeper r rs (suc d) h)

-- no row is past the entries of the root
past_all : (rs : List Row) (m : ℕ) → Fits m rs → past 1 rs ≡ []
unfolding past Fits
past_all [] m f = refl
past_all (r ∷ rs) m f = past-deeper r rs 1 f.0 ∙ past_all rs (cond (eqb (kind r) 0) (depth r + 1) (depth r)) f.3

-- rows that fit are the rows of their siblings
pub rows-siblings : (rs : List Row) → Fits 1 rs → rows_of 1 (siblings 1 rs) ≡ rs
rows-siblings rs f =
    sym (append-nil (rows_of 1 (siblings 1 rs))) ∙ rw (← past_all rs 1 f) (back rs 1 1 f ∙ past-none rs 1 2 f (omega arith))

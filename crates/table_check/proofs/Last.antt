-- The last row of each depth: what is remembered after row 0, and after one row more.
use Rattle.std.proofs.Common.{Some}
use mathlib.Core.Path.{◌≡◌, refl, ◌∙◌}
use mathlib.Core.List.{List, [], ◌∷◌}
use mathlib.Core.Bool.{Bool, true, false, cond, ◌&&◌, false≢true}
use native.Mathlib.Decide.{dec_lt}
use native.Mathlib.Omega.{arith}
use native.Mathlib.Nat.{not-suc-le-zero}
use native.Mathlib.Numerals.{add-one, sub-one}
use lib.Dec.{leb, eqb}
use lib.ListN.{length, drop, get_or, set, replicate, length-set, length-drop}
use lib.Seq.{length-take-le, get_or-set_same, get_or-set_other}
use Prim.Native.Nat.{ℕ, zero, suc, ◌+◌, ◌*◌, ◌-◌, ◌≤◌, ◌<◌, compare, Ordering}
use Rattle.tree.specs.Name.{Name, cmp, by_order}
use Rattle.tree.specs.Rules.{zeros, good_name}
use Rattle.tree.specs.declared.Profile.{Profile}
use Rattle.tree.specs.declared.Profile.TheVariants.{Exact, Folded}
use Rattle.tree.specs.Key.{lower, lower_word, key}
use borrow.Author.Tests.{leb-true}
use Rattle.tree.proofs.Keys.{good-key}
use Rattle.tree.proofs.Same.{and-true}
use Rattle.tree.proofs.Order.{Cmp, Cmp.less, Cmp.same, Cmp.more, view, compare-below}
use Rattle.table_row.specs.Table.{Row, row_at, depth, kind, name}
use Rattle.table_row.specs.Order.{ordered}
use Rattle.std.specs.declared.cmp.Ordering.TheVariants.{Less}
use Rattle.table_row.proofs.Fits.{zeros-all}
use Rattle.table_rules.specs.Rules.{deepest, depth_rule, kind_rule, before}
use Rattle.table_rules.specs.Keyed.{sibling, ok_row_in, no_twin, lowest}
use Rattle.table_rules.proofs.Rows.{Passed, passed_none, passed-next, lowest-row}
use Rattle.table_check.specs.Last.{Lasts, lasts_after}

-- a name of zeros comes before every good one, by their keys too
zeros-first : (m : Name) → good_name m ≡ true → cmp (replicate 8 0) m ≡ Ordering.lt
unfolding good_name cmp
zeros-first [] g = absurd (false≢true g)
zeros-first (zero ∷ xs) g = absurd (false≢true g)
zeros-first (suc x ∷ xs) g = rw (compare-below 0 (suc x) (omega arith))

key-zeros : (p : Profile) → key p (replicate 8 0) ≡ replicate 8 0
unfolding key lower_word lower
key-zeros Exact = refl
key-zeros Folded = refl

name-zeros : (r : Row) → length r ≡ 20 → zeros r ≡ true → name r ≡ replicate 8 0
name-zeros r l z = let e : r ≡ replicate 20 0 = zeros-all r z ∙ rw l in rw e

-- one deeper at the most
deepest-most : (r : Row) → deepest r ≤ depth r + 1
deepest-most r = go (eqb (kind r) 0)
  where
    go : (b : Bool) → cond b (depth r + 1) (depth r) ≤ depth r + 1
    go true = omega arith
    go false = omega arith

-- zeros at every place
at-zeros : (n x : ℕ) → get_or (replicate {A = ℕ} n 0) x 0 ≡ 0
at-zeros zero x = refl
at-zeros (suc n) zero = refl
at-zeros (suc n) (suc x) = at-zeros n x

row-long : (w : List ℕ) (i : ℕ) → 20 * i + 20 ≤ length w → length (row_at w i) ≡ 20
row-long w i h = length-take-le 20 (drop (20 * i) w) (omega (arith, length-drop (20 * i) w))

-- what is remembered after row i, of depth d
module _ (d i : ℕ) (last : List ℕ) (l : length last ≡ 18) (h : d ≤ 16) where
  after-deeper : get_or (lasts_after d i last) (d + 1) 0 ≡ 0
  after-deeper = get_or-set_same (set last d i) (d + 1) 0 0 (omega (arith, length-set last d i))

  after_same : get_or (lasts_after d i last) d 0 ≡ i
  after_same = get_or-set_other (set last d i) (d + 1) d 0 0 (λ (e : d ≡ d + 1). omega arith) ∙ get_or-set_same last d i 0 (omega arith)

  after-other : (x : ℕ) → (x ≡ d → ⊥) → (x ≡ d + 1 → ⊥) → get_or (lasts_after d i last) x 0 ≡ get_or last x 0
  after-other x a b = get_or-set_other (set last d i) (d + 1) x 0 0 b ∙ get_or-set_other last d x i 0 a

-- a row is at most 16 deep, and no deeper than the row before it lets it be
pub depth-most : (q r : Row) → depth_rule q r ≡ true → (depth r ≤ 16) × (depth r ≤ deepest q)
unfolding depth_rule
depth-most q r e =
    let t = and-true (leb 1 (depth r) && leb (depth r) 16) (leb (depth r) (deepest q)) e in
    (leb-true (depth r) 16 (and-true (leb 1 (depth r)) (leb (depth r) 16) t.0).1, leb-true (depth r) (deepest q) t.1)

module _ (p : Profile) (w : List ℕ) where
  -- where there is no sibling, row 0 stands for it
  none_before : length (row_at w 0) ≡ 20 → zeros (row_at w 0) ≡ true → (n : Name) → good_name n ≡ true → Less ≡ ordered (cmp (key p (name (row_at w 0))) (key p n))
  none_before l z n g = rw (name-zeros (row_at w 0) l z, key-zeros p, zeros-first (key p n) (good-key p n ∙ g))

  -- before all but row 0 there is no row but it
  by-root : 20 ≤ length w → zeros (row_at w 0) ≡ true → (x : ℕ) (n : Name) → good_name n ≡ true
      → sibling p x n (before w 1) ≡ ordered (cmp (key p (name (row_at w 0))) (key p n))
  unfolding before sibling
  by-root h z x n g = go (compare (depth (row_at w 0)) x)
    where
      first : Less ≡ ordered (cmp (key p (name (row_at w 0))) (key p n))
      first = none_before (row-long w 0 h) z n g

      go : (o : Ordering) → by_order o Less (ordered (cmp (key p (name (row_at w 0))) (key p n))) Less ≡ ordered (cmp (key p (name (row_at w 0))) (key p n))
      go Ordering.lt = first
      go Ordering.eq = refl
      go Ordering.gt = first

  pub lasts-first : 20 ≤ length w → zeros (row_at w 0) ≡ true → Lasts p w 1 (replicate 18 0)
  unfolding before sibling
  lasts-first h z = record {
    long = refl;
    low = λ x. omega (arith, at-zeros 18 x);
    root = z;
    stands = λ x a n g. rw (at-zeros 18 x) (by-root h z x n g);
  }

  pub lasts-next : (i : ℕ) (last : List ℕ) → 20 ≤ length w → 0 < i → depth_rule (row_at w (i - 1)) (row_at w i) ≡ true → Lasts p w i last
      → Lasts p w (i + 1) (lasts_after (depth (row_at w i)) i last)
  unfolding before sibling
  lasts-next i last h o e L =
      record {
        long = length-set (set last d i) (d + 1) 0 ∙ length-set last d i ∙ L.long;
        low = λ x. below x (compare d x) (view d x);
        root = L.root;
        stands = λ x a n g. rw add-one (after x n g (rw back at a) (compare d x) (view d x));
      }
    where
      d : ℕ
      d = depth (row_at w i)

      t : (d ≤ 16) × (d ≤ deepest (row_at w (i - 1)))
      t = depth-most (row_at w (i - 1)) (row_at w i) e

      most : d ≤ 16
      most = t.0

      back : i + 1 - 1 ≡ i
      back = omega arith

      below : (x : ℕ) (o : Ordering) → Cmp d x o → get_or (lasts_after d i last) x 0 < i + 1
      below x Ordering.lt (less k) =
          elim (dec_lt (d + 1) x) [
            | yes b ↦ rw (after-other d i last L.long most x (omega arith) (omega arith)) (omega (arith, L.low x))
            | no b ↦ let u : x ≡ d + 1 = omega arith in rw (u, after-deeper d i last L.long most) (omega arith)
          ]
      below x Ordering.eq (same k) = rw (← k, after_same d i last L.long most) (omega arith)
      below x Ordering.gt (more k) = rw (after-other d i last L.long most x (omega arith) (omega arith)) (omega (arith, L.low x))

      after : (x : ℕ) (n : Name) → good_name n ≡ true → x ≤ deepest (row_at w i) → (o : Ordering) → Cmp d x o
          → by_order o Less (ordered (cmp (key p (name (row_at w i))) (key p n))) (sibling p x n (before w i))
          ≡ ordered (cmp (key p (name (row_at w (get_or (lasts_after d i last) x 0)))) (key p n))
      after x n g a Ordering.lt (less k) =
          let u : x ≡ d + 1 = omega (arith, deepest-most (row_at w i)) in
          rw (u, after-deeper d i last L.long most) (none_before (row-long w 0 h) L.root n g)
      after x n g a Ordering.eq (same k) = rw (← k, after_same d i last L.long most)
      after x n g a Ordering.gt (more k) =
          rw (after-other d i last L.long most x (omega arith) (omega arith)) (L.stands x (omega (arith, t.1)) n g)

  -- row 0 of zeros passes both tests
  pub root-passes : 20 ≤ length w → zeros (row_at w 0) ≡ true → Passed (ok_row_in p) w 1 × Passed (no_twin p) w 1
  unfolding ok_row_in before sibling
  root-passes h z = (passed-next (ok_row_in p) w 0 (omega arith) z (passed_none (ok_row_in p) w), passed-next (no_twin p) w 0 (omega arith) refl (passed_none (no_twin p) w))

  -- and any other is bad
  pub root-fails : 20 ≤ length w → zeros (row_at w 0) ≡ false → lowest (ok_row_in p) w ≡ Some 0
  unfolding ok_row_in before
  root-fails h z = lowest-row (ok_row_in p) w 0 (omega arith) z (passed_none (ok_row_in p) w)

  -- a row that may follow is no deeper than it may be
  pub ok-depth : (i : ℕ) → 0 < i → ok_row_in p (before w i) (row_at w i) ≡ true → depth_rule (row_at w (i - 1)) (row_at w i) ≡ true
  unfolding ok_row_in before
  ok-depth zero h e = absurd (not-suc-le-zero h)
  ok-depth (suc j) h e =
      let r = row_at w (suc j) in
      let a = and-true (depth_rule (row_at w j) r && good_name (name r) && kind_rule r) _ e in
      let b = and-true (depth_rule (row_at w j) r && good_name (name r)) (kind_rule r) a.0 in
      rw sub-one (and-true (depth_rule (row_at w j) r) (good_name (name r)) b.0).0

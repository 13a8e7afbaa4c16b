-- Rows and words: some rows of a table are so many of its words, and the words of rows have just those rows.
use mathlib.Core.Path.{◌≡◌, refl, sym, ap, ◌∙◌}
use mathlib.Core.List.{List, [], ◌∷◌, ◌++◌, append_assoc}
use native.Mathlib.Omega.{arith}
use native.Mathlib.Numerals.{add-one}
use native.Mathlib.Nat.{le_of_suc-le-suc, not-suc-le-zero}
use lib.ListN.{length, take, drop, length-append, length-drop}
use lib.Seq.{take_at, drop_at, take-add, drop-drop}
use Prim.Native.Nat.{ℕ, zero, suc, ◌+◌, ◌*◌, ◌-◌, ◌/◌, ◌≤◌, ◌<◌}
use Rattle.table_row.specs.Table.{Row, row_at, rows_n, rows, flat}
use Rattle.table_row.proofs.Table.{length-rows_n, rows-cons}
use Rattle.table_row.proofs.Flat.{Whole}

take-rows_n : (m k : ℕ) (w : List ℕ) → m ≤ k → take m (rows_n k w) ≡ rows_n m w
unfolding rows_n
take-rows_n zero k w h = refl
take-rows_n (suc m) zero w h = absurd (not-suc-le-zero h)
take-rows_n (suc m) (suc k) w h = ap (λ (rs : List Row). take 20 w ∷ rs) (take-rows_n m k (drop 20 w) (le_of_suc-le-suc h))

drop-rows_n : (i k : ℕ) (w : List ℕ) → i ≤ k → drop i (rows_n k w) ≡ rows_n (k - i) (drop (20 * i) w)
unfolding rows_n
drop-rows_n zero k w h = let e : k - 0 ≡ k = omega arith in rw e
drop-rows_n (suc i) zero w h = absurd (not-suc-le-zero h)
drop-rows_n (suc i) (suc k) w h =
    let e : 20 + 20 * i ≡ 20 * suc i = omega arith in
    let z : suc k - suc i ≡ k - i = omega arith in
    drop-rows_n i k (drop 20 w) (le_of_suc-le-suc h) ∙ rw (drop-drop (20 * i) 20 w, e, z)

flat-rows_n : (n : ℕ) (w : List ℕ) → flat (rows_n n w) ≡ take (20 * n) w
unfolding rows_n flat
flat-rows_n zero w = refl
flat-rows_n (suc n) w =
    let e : 20 * suc n ≡ 20 + 20 * n = omega arith in
    ap (λ (l : List ℕ). take 20 w ++ l) (flat-rows_n n (drop 20 w)) ∙ rw e (sym (take-add 20 (20 * n) w))

-- the words of m rows from row i on
pub words-rows : (w : List ℕ) (i m : ℕ) → i + m ≤ length w / 20 → take (20 * m) (drop (20 * i) w) ≡ flat (take m (drop i (rows w)))
words-rows w i m h =
    let e = drop-rows_n i (length w / 20) w (omega arith) in
    let f = take-rows_n m (length w / 20 - i) (drop (20 * i) w) (omega arith) in
    sym (rw (e, f) (flat-rows_n m (drop (20 * i) w)))

pub length-rows-from : (w : List ℕ) (i : ℕ) → length (drop i (rows w)) ≡ length w / 20 - i
length-rows-from w i = rw (length-drop, length-rows_n)

-- the rows from row i on start with r
pub record Head (w : List ℕ) (i : ℕ) (r : Row) (rs : List Row) : Type 0 where
  pub is : i < length w / 20
  pub row : row_at w i ≡ r
  pub next : drop (i + 1) (rows w) ≡ rs

pub head : (w : List ℕ) (i : ℕ) (r : Row) (rs : List Row) → drop i (rows w) ≡ r ∷ rs → Head w i r rs
head w i r rs e =
    let h : i < length w / 20 = omega (arith, length-rows-from w i, ap length e) in
    let c : row_at w i ∷ drop (suc i) (rows w) ≡ r ∷ rs = sym (rows-cons w i h) ∙ e in
    record { is = h; row = cc; next = rw add-one (cc) }

-- rows of twenty words, in two parts
pub whole-front : (a b : List Row) → Whole (a ++ b) → Whole a
unfolding Whole
whole-front [] b h = tt
whole-front (r ∷ a) b h = (h.0, whole-front a b h.1)

pub whole_back : (a b : List Row) → Whole (a ++ b) → Whole b
unfolding Whole
whole_back [] b h = h
whole_back (r ∷ a) b h = whole_back a b h.1

-- a list in three pieces, cut at the ends of the first and the second
pub cut : {A : Type 0} (l a b c : List A) (i k : ℕ) → l ≡ a ++ (b ++ c) → length a ≡ i → length a + length b ≡ k → (take i l ≡ a) × (drop k l ≡ c)
cut l a b c i k e h g =
    (ap (take i) e ∙ take_at a (b ++ c) i h, ap (drop k) (e ∙ sym (append_assoc a b c)) ∙ drop_at (a ++ b) c k (length-append a b ∙ g))

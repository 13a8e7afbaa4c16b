-- Rows of a table, in the words that the code reads.
use mathlib.Core.Path.{◌≡◌, refl, sym, ap, ◌∙◌}
use mathlib.Core.List.{List, [], ◌∷◌}
use native.Mathlib.Omega.{arith}
use native.Mathlib.Nat.{add-zero, zero-add, suc-add, le_of_suc-le-suc, not-suc-le-zero}
use lib.ListN.{drop_of_length-le, length, take, drop, get_or, length-take, length-drop}
use lib.Seq.{take-nil, drop-cons, get_or-drop, get_or-take, drop-drop, take-take}
use Prim.Native.Nat.{ℕ, zero, suc, ◌+◌, ◌*◌, ◌-◌, ◌/◌, ◌%◌, ◌≤◌, ◌<◌}
use Rattle.table_row.specs.Table.{row_at, rows_n, rows, name}

-- word j of row i
pub word_at : (w : List ℕ) (i j : ℕ) → j < 20 → get_or (row_at w i) j 0 ≡ get_or w (20 * i + j) 0
word_at w i j h = rw (get_or-take, get_or-drop)

pub depth-at : (w : List ℕ) (i : ℕ) → get_or (row_at w i) 0 0 ≡ get_or w (20 * i) 0
depth-at w i = word_at w i 0 (omega arith) ∙ rw add-zero

pub drop-take : {A : Type 0} (n m : ℕ) (l : List A) → drop n (take (n + m) l) ≡ take m (drop n l)
drop-take zero m l = rw zero-add
drop-take (suc n) m [] = rw suc-add (sym (take-nil m))
drop-take (suc n) m (x ∷ l) = rw suc-add (drop-take n m l)

pub name-at : (w : List ℕ) (i : ℕ) → name (row_at w i) ≡ take 8 (drop (20 * i + 2) w)
name-at w i = let h : 8 ≤ 18 = omega arith in rw (drop-take 2 18, take-take 8 18, drop-drop)

-- the name of row i, as the part that code lends
pub name-part : (w : List ℕ) (i : ℕ) → take (20 * i + 2 + 8 - (20 * i + 2)) (drop (20 * i + 2) w) ≡ name (row_at w i)
name-part w i = let e : 20 * i + 2 + 8 - (20 * i + 2) ≡ 8 = omega arith in rw e (sym (name-at w i))

pub name-word : (w : List ℕ) (i k : ℕ) → k < 8 → get_or (name (row_at w i)) k 0 ≡ get_or w (20 * i + 2 + k) 0
name-word w i k h = ap (λ (l : List ℕ). get_or l k 0) (name-at w i) ∙ rw (get_or-take, get_or-drop)

pub name-length : (w : List ℕ) (i : ℕ) → 20 * i + 20 ≤ length w → length (name (row_at w i)) ≡ 8
name-length w i h = ap length (name-at w i) ∙ simp (length-take, length-drop) (omega arith)

pub length-rows_n : (n : ℕ) (w : List ℕ) → length (rows_n n w) ≡ n
unfolding rows_n
length-rows_n zero w = refl
length-rows_n (suc n) w = ap suc (length-rows_n n (drop 20 w))

get_or-rows_n : (n : ℕ) (w : List ℕ) (i : ℕ) → i < n → get_or (rows_n n w) i [] ≡ row_at w i
unfolding rows_n
get_or-rows_n zero w i h = absurd (not-suc-le-zero h)
get_or-rows_n (suc n) w zero h = refl
get_or-rows_n (suc n) w (suc i) h =
    let e : 20 + 20 * i ≡ 20 * suc i = omega arith in
    get_or-rows_n n (drop 20 w) i (le_of_suc-le-suc h) ∙ ap (take 20) (drop-drop (20 * i) 20 w ∙ ap (λ (k : ℕ). drop k w) e)

-- the rows from row i on are row i and the rows from the next on
pub rows-cons : (w : List ℕ) (i : ℕ) → i < length w / 20 → drop i (rows w) ≡ row_at w i ∷ drop (suc i) (rows w)
rows-cons w i h = let g : i < length (rows w) = rw length-rows_n h in rw (drop-cons (rows w) i [], get_or-rows_n)

-- past the last row there is none
pub rows-nil : (w : List ℕ) (i : ℕ) → length w / 20 ≤ i → drop i (rows w) ≡ []
rows-nil w i h = drop_of_length-le (rows w) {i = i} (rw length-rows_n h)

pub row-none : (w : List ℕ) (i : ℕ) → length w % 20 ≡ 0 → length w / 20 ≤ i → row_at w i ≡ []
row-none w i m h = ap (take 20) (drop_of_length-le w {i = 20 * i} (omega arith))

-- row i, as the part that code lends
pub row-part : (w : List ℕ) (i : ℕ) → take (20 * i + 20 - 20 * i) (drop (20 * i) w) ≡ row_at w i
row-part w i = let e : 20 * i + 20 - 20 * i ≡ 20 = omega arith in rw e

-- the words 10 to 19 of row i, as the part that code lends
pub tail-part : (w : List ℕ) (i : ℕ) → take (20 * i + 20 - (20 * i + 10)) (drop (20 * i + 10) w) ≡ drop 10 (row_at w i)
tail-part w i =
    let e : 20 * i + 20 - (20 * i + 10) ≡ 10 = omega arith in
    rw (e, ← drop-drop 10 (20 * i) w) (sym (drop-take 10 10 (drop (20 * i) w)))

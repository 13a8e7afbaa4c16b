-- Rows and their words are one to one.
use mathlib.Core.Path.{◌≡◌, refl}
use mathlib.Core.List.{List, [], ◌∷◌, ◌++◌, append_assoc}
use native.Mathlib.Omega.{arith}
use lib.ListN.{length, drop, length-append, length-take, length-drop, take-append-drop}
use lib.Seq.{take_at, drop_at}
use Prim.Native.Nat.{ℕ, zero, suc, ◌*◌, ◌/◌, ◌%◌}
use Rattle.table_row.specs.Table.{Row, rows_n, rows, flat}

-- every row has twenty words
unfoldable pub Whole : List Row → Type 0
Whole [] = Unit {0}
Whole (r ∷ rs) = (length r ≡ 20) × Whole rs

pub whole_append : (rs qs : List Row) → Whole rs → Whole qs → Whole (rs ++ qs)
unfolding Whole
whole_append [] qs h g = g
whole_append (r ∷ rs) qs h g = (h.0, whole_append rs qs h.1 g)

flat-rows_n : (n : ℕ) (w : List ℕ) → length w ≡ 20 * n → flat (rows_n n w) ≡ w
unfolding rows_n flat
flat-rows_n zero [] h = refl
flat-rows_n zero (x ∷ w) h = absurd (omega arith)
flat-rows_n (suc n) w h = rw (flat-rows_n n (drop 20 w) (simp length-drop (omega arith)), take-append-drop)

-- the words of a table's rows are the table
pub flat_rows : (w : List ℕ) → length w % 20 ≡ 0 → flat (rows w) ≡ w
flat_rows w h = flat-rows_n (length w / 20) w (omega arith)

pub flat_append : (rs qs : List Row) → flat (rs ++ qs) ≡ flat rs ++ flat qs
unfolding flat
flat_append [] qs = refl
flat_append (r ∷ rs) qs = rw (flat_append rs qs, append_assoc r (flat rs) (flat qs))

pub length-flat : (rs : List Row) → Whole rs → length (flat rs) ≡ 20 * length rs
unfolding flat Whole
length-flat [] h = refl
length-flat (r ∷ rs) h = omega (arith, length-append r (flat rs), length-flat rs h.1, h.0)

rows_n-flat : (rs : List Row) → Whole rs → rows_n (length rs) (flat rs) ≡ rs
unfolding flat Whole rows_n
rows_n-flat [] h = refl
rows_n-flat (r ∷ rs) h = rw (take_at r (flat rs) 20 h.0, drop_at r (flat rs) 20 h.0, rows_n-flat rs h.1)

-- the rows of the words of rows are those rows
pub rows-flat : (rs : List Row) → Whole rs → rows (flat rs) ≡ rs
rows-flat rs h =
    let e : length (flat rs) / 20 ≡ length rs = omega (arith, length-flat rs h) in
    rw e (rows_n-flat rs h)

whole-rows_n : (n : ℕ) (w : List ℕ) → length w ≡ 20 * n → Whole (rows_n n w)
unfolding rows_n Whole
whole-rows_n zero w h = tt
whole-rows_n (suc n) w h = (simp length-take (omega arith), whole-rows_n n (drop 20 w) (simp length-drop (omega arith)))

pub whole-rows : (w : List ℕ) → length w % 20 ≡ 0 → Whole (rows w)
whole-rows w h = whole-rows_n (length w / 20) w (omega arith)

-- Words of 32 bits, in a list's parts and in a slice.
use mathlib.Core.List.{List, [], ◌∷◌}
use native.Mathlib.Omega.{arith}
use lib.ListN.{length, take, drop, get_or}
use Prim.Native.Nat.{ℕ, zero, suc, ◌/◌, ◌<◌}
use Rattle.tree.specs.Rules.{Words32}
use Rattle.table_row.specs.Table.{Row, rows_n, rows}

pub small-take : (n : ℕ) (w : List ℕ) → Words32 w → Words32 (take n w)
unfolding Words32
small-take zero w h = tt
small-take (suc n) [] h = tt
small-take (suc n) (x ∷ w) h = (h.0, small-take n w h.1)

pub small-drop : (n : ℕ) (w : List ℕ) → Words32 w → Words32 (drop n w)
unfolding Words32
small-drop zero w h = h
small-drop (suc n) [] h = tt
small-drop (suc n) (x ∷ w) h = small-drop n w h.1

-- a word; past the end it reads 0
pub small_word : (w : List ℕ) (i : ℕ) → Words32 w → get_or w i 0 < 4294967296
unfolding Words32
small_word [] i h = omega arith
small_word (x ∷ w) zero h = h.0
small_word (x ∷ w) (suc i) h = small_word w i h.1

-- what is known of the elements of a slice
pub small_all : (w : List ℕ) → ((i : ℕ) → get_or w i 0 < 4294967296) → Words32 w
unfolding Words32
small_all [] h = tt
small_all (x ∷ w) h = (h 0, small_all w (λ i. h (suc i)))

-- every row's words
unfoldable pub Small : List Row → Type 0
Small [] = Unit {0}
Small (r ∷ rs) = Words32 r × Small rs

small-rows_n : (n : ℕ) (w : List ℕ) → Words32 w → Small (rows_n n w)
unfolding rows_n Small
small-rows_n zero w h = tt
small-rows_n (suc n) w h = (small-take 20 w h, small-rows_n n (drop 20 w) (small-drop 20 w h))

pub small-rows : (w : List ℕ) → Words32 w → Small (rows w)
small-rows w h = small-rows_n (length w / 20) w h

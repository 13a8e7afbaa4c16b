-- A table is a list of words, twenty to a row; what a row holds.
use Rattle.std.specs.Prelude.{List, [], ◌∷◌, ◌++◌, ℕ, zero, suc, ◌*◌, ◌/◌, length, take, drop, get_or}
use Rattle.tree.specs.Name.{Name}
use Rattle.tree.specs.Forest.{Content}

abbrev pub Row : Type 0
Row = List ℕ

-- row i of the words w
abbrev pub row_at : List ℕ → ℕ → Row
row_at w i = take 20 (drop (20 * i) w)

-- the first n rows of w
unfoldable pub rows_n : ℕ → List ℕ → List Row
rows_n zero w = []
rows_n (suc n) w = take 20 w ∷ rows_n n (drop 20 w)

-- the whole rows of w
abbrev pub rows : List ℕ → List Row
rows w = rows_n (length w / 20) w

-- the words of rows, one after the other
unfoldable pub flat : List Row → List ℕ
flat [] = []
flat (r ∷ rs) = r ++ flat rs

abbrev pub depth : Row → ℕ
depth r = get_or r 0 0

abbrev pub kind : Row → ℕ
kind r = get_or r 1 0

abbrev pub name : Row → Name
name r = take 8 (drop 2 r)

-- the words of some rows, the first of them called n
abbrev pub called : Name → List ℕ → List ℕ
called n w = take 2 w ++ (n ++ drop 10 w)

-- kind, size and digest
abbrev pub content : Row → Content
content r = kind r ∷ drop 10 r

-- The entries of a folder are the rows one deeper than its own, up to its subtree's end: the entry of a name, and the
-- place where it stands or would be put in.
use Rattle.std.specs.Prelude.{◌≡◌, List, [], ◌∷◌, Bool, true, false, cond, ltb, eqb, length, drop, ℕ, suc, ◌+◌, ◌*◌, ◌≤◌, Option, Some, None}
use Rattle.tree.specs.Name.{Name, cmp, by_order}
use Rattle.tree.specs.Same.{same_words}
use Rattle.table_row.specs.Table.{Row, row_at, rows, depth, name}

-- where a search among a folder's entries stops: at an entry, or at the folder's end
pub data Stop : Type 0 where
  entry : ℕ → Stop
  over : ℕ → Stop

-- the first entry that passes a test of its name, in a folder of depth d, among rows of which the first is row i
unfoldable pub seek : (Name → Bool) → ℕ → ℕ → List Row → Stop
seek p d i [] = over i
seek p d i (r ∷ rs) =
    cond (ltb d (depth r))
    (cond (eqb (depth r) (suc d)) (cond (p (name r)) (entry i) (seek p d (suc i) rs)) (seek p d (suc i) rs))
    (over i)

-- the same in the folder at row f of the words w
abbrev pub among : (Name → Bool) → List ℕ → ℕ → Stop
among p w f = seek p (depth (row_at w f)) (f + 1) (drop (f + 1) (rows w))

abbrev pub found : Stop → Option ℕ
found (entry i) = Some i
found (over i) = None

abbrev pub row : Stop → ℕ
row (entry i) = i
row (over i) = i

-- the entry called n of the folder at row f
unfoldable pub child : List ℕ → ℕ → Name → Option ℕ
child w f n = found (among (same_words n) w f)

-- n does not come after m
abbrev pub up_to : Name → Name → Bool
up_to n m = by_order (cmp n m) true true false

-- the first entry of the folder at row f whose name is not less than n, or the folder's end
unfoldable pub place : List ℕ → ℕ → Name → ℕ
place w f n = row (among (up_to n) w f)

-- a row that is found is one of the table's
abbrev pub Inside : List ℕ → Option ℕ → Type 0
Inside w (Some i) = 20 * (i + 1) ≤ length w
Inside w None = Unit {0}

-- r is what a search of the words w is to find
pub record Finds (w : List ℕ) (x r : Option ℕ) : Type 0 where
  pub answer : r ≡ x
  pub inside : Inside w r

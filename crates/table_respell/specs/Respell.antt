-- The rows of a part of one table, spelled as the entries of a folder of another table are: an entry that the folder has too takes its
-- name from there, at every depth.
use Rattle.std.specs.Prelude.{◌≡◌, List, [], ◌∷◌, ℕ, ◌+◌, ◌*◌, ◌-◌, ◌≤◌, ◌%◌, length, get_or, set, replicate, Option, Some, None}
use Rattle.tree.specs.Name.{Name}
use Rattle.tree.specs.declared.Profile.{Profile}
use Rattle.tree.specs.declared.Profile.TheVariants.{Exact, Folded}
use Rattle.tree.specs.Key.{key}
use Rattle.table_row.specs.Table.{Row, row_at, rows, flat, depth, name, called}
use Rattle.table_find.specs.Entry.{child}
use Rattle.table_follow.specs.Follow.{onward}

-- the entry called n, in the table of keys v, of a folder that there may be
abbrev pub counterpart : List ℕ → Option ℕ → Name → Option ℕ
counterpart v f n = onward f (λ (i : ℕ). child v i n)

-- row r, called as the row of the table w that was found
abbrev pub spelled : List ℕ → Option ℕ → Row → Row
spelled w (Some i) r = called (name (row_at w i)) r
spelled w None r = r

-- rows one after the other, w the table and v its table of keys; opened has, at each depth, the counterpart of the last row there
unfoldable pub spelled_rows : Profile → List ℕ → List ℕ → List (Option ℕ) → List Row → List Row
spelled_rows p w v opened [] = []
spelled_rows p w v opened (r ∷ rs) =
    let c : Option ℕ = counterpart v (get_or opened (depth r - 1) None) (key p (name r)) in
    spelled w c r ∷ spelled_rows p w v (set opened (depth r) c) rs

-- words as rows among the entries of the folder at row f; where every byte counts they are spelled as they must be
unfoldable pub respelled : Profile → List ℕ → List ℕ → ℕ → List ℕ → List ℕ
respelled Exact w v f words = words
respelled Folded w v f words = flat (spelled_rows Folded w v (replicate 17 (Some f)) (rows words))

-- every row is of depth 1 to 16
unfoldable pub Shallow : List Row → Type 0
Shallow [] = Unit {0}
Shallow (r ∷ rs) = (1 ≤ depth r) × (depth r ≤ 16) × Shallow rs

-- what the words of a part, the tables and the room must be
pub record Fit (w v : List ℕ) (f : ℕ) (words lent : List ℕ) (place : ℕ) : Type 0 where
  pub inside : 20 * (f + 1) ≤ length v
  pub keys : length v ≤ length w
  pub whole : length words % 20 ≡ 0
  pub shallow : Shallow (rows words)
  pub room : place + length words ≤ length lent

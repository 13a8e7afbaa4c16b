-- The text of a list by its words, whatever these are: an entry's path is that of its left row, or of its right row where
-- the left table has no such row.
use Rattle.std.specs.Prelude.{List, [], ◌++◌, cond, length, drop, get_or, ℕ, zero, suc, ◌/◌}
use Rattle.plan_cursor.specs.Cursor.{is_row}
use Rattle.plan_tally.specs.declared.Tally.{Tally}
use Rattle.table_route.specs.Route.{path_of}
use Rattle.plan_text.specs.Text.{marked, path_text, counts_text}

-- the path of row i of the table l, or of row j of r; nothing where neither is a row
unfoldable pub side_text : List ℕ → List ℕ → ℕ → ℕ → List ℕ
side_text l r i j = cond (is_row l i) (path_text (path_of l i)) (cond (is_row r j) (path_text (path_of r j)) [])

-- the first three words of e
unfoldable pub entry_text : List ℕ → List ℕ → List ℕ → List ℕ
entry_text l r e = marked (get_or e 0 0) (side_text l r (get_or e 1 0) (get_or e 2 0))

-- the first n entries
unfoldable pub entries_text : List ℕ → List ℕ → ℕ → List ℕ → List ℕ
entries_text l r zero e = []
entries_text l r (suc n) e = entry_text l r e ++ entries_text l r n (drop 3 e)

-- all entries, and the counts
unfoldable pub plan_bytes : List ℕ → List ℕ → List ℕ → Tally → List ℕ
plan_bytes l r e t = entries_text l r (length e / 3) e ++ counts_text t

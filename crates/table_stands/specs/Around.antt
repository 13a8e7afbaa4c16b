-- What stands around an entry, and around the node at a path.
use Rattle.std.specs.Prelude.{List, [], ◌∷◌, ◌++◌, ℕ, suc, ◌+◌, Option, Some, None}
use Rattle.tree.specs.Name.{Name, cmp, by_order}
use Rattle.tree.specs.Forest.{Forest, Forest.end, Forest.leaf, Forest.dir, Node, TreePath, find, kids, size}
use Rattle.table_row.specs.Table.{Row}
use Rattle.table_row.specs.Tree.{rows_of, folder_row}
use Rattle.table_find.specs.Subtree.{end_of}
use Rattle.table_find.specs.Entry.{child, place}

-- the siblings before n: up to the first whose name is not less
unfoldable pub before : Name → Forest → Forest
before n end = end
before n (leaf m c s) = by_order (cmp n m) end end (leaf m c (before n s))
before n (dir m k s) = by_order (cmp n m) end end (dir m k (before n s))

-- the siblings behind n: from there on, without the one called n
unfoldable pub behind : Name → Forest → Forest
behind n end = end
behind n (leaf m c s) = by_order (cmp n m) (leaf m c s) s (behind n s)
behind n (dir m k s) = by_order (cmp n m) (dir m k s) s (behind n s)

-- the end of a subtree that was found, else row j
abbrev pub ended_by : List ℕ → Option ℕ → ℕ → ℕ
ended_by w (Some i) j = end_of w i
ended_by w None j = j

-- the row after the entry called n of the folder at row f; its place where there is no such entry
abbrev pub entry_end : List ℕ → ℕ → Name → ℕ
entry_end w f n = ended_by w (child w f n) (place w f n)

-- the row of the node at a path, among the rows of x
unfoldable pub row_in : Node → TreePath → ℕ
row_in x [] = 0
row_in x (n ∷ p) = suc (size (before n (kids x)) + row_in (find n (kids x)) p)

-- the name of the node at a path from a node called m
unfoldable pub name_on : Name → TreePath → Name
name_on m [] = m
name_on m (n ∷ p) = name_on n p

-- the rows of x, called m and at depth d, before those of the node at a path
unfoldable pub front : ℕ → Name → Node → TreePath → List Row
front d m x [] = []
front d m x (n ∷ p) = folder_row d m ∷ (rows_of (suc d) (before n (kids x)) ++ front (suc d) n (find n (kids x)) p)

-- and those after them
unfoldable pub back : ℕ → Node → TreePath → List Row
back d x [] = []
back d x (n ∷ p) = back (suc d) (find n (kids x)) p ++ rows_of (suc d) (behind n (kids x))

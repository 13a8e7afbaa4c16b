-- The table of a tree and the tree of a table: rows in preorder, each with its depth.
use Rattle.std.specs.Prelude.{List, [], ◌∷◌, ◌++◌, cond, eqb, drop, get_or}
use Prim.Native.Nat.{ℕ, suc, compare}
use Rattle.tree.specs.Name.{Name, by_order}
use Rattle.tree.specs.Forest.{Content, Forest, Forest.end, Forest.leaf, Forest.dir, Node, Node.absent, Node.file, Node.folder}
use Rattle.table_row.specs.Table.{Row, rows, flat, depth, kind, name, content}

abbrev pub file_row : ℕ → Name → Content → Row
file_row d n c = d ∷ get_or c 0 0 ∷ (n ++ drop 1 c)

abbrev pub folder_row : ℕ → Name → Row
folder_row d n = d ∷ 0 ∷ (n ++ (0 ∷ 0 ∷ 0 ∷ 0 ∷ 0 ∷ 0 ∷ 0 ∷ 0 ∷ 0 ∷ 0 ∷ []))

-- the rows of siblings that stand at depth d
unfoldable pub rows_of : ℕ → Forest → List Row
rows_of d end = []
rows_of d (leaf n c s) = file_row d n c ∷ rows_of d s
rows_of d (dir n k s) = folder_row d n ∷ (rows_of (suc d) k ++ rows_of d s)

-- the rows of what stands at one place
unfoldable pub node_rows : ℕ → Name → Node → List Row
node_rows d n absent = []
node_rows d n (file c) = file_row d n c ∷ []
node_rows d n (folder k) = folder_row d n ∷ rows_of (suc d) k

-- the root's name is all zero
abbrev pub root_name : Name
root_name = 0 ∷ 0 ∷ 0 ∷ 0 ∷ 0 ∷ 0 ∷ 0 ∷ 0 ∷ []

unfoldable pub table : Forest → List ℕ
table f = flat (node_rows 0 root_name (folder f))

-- a row with the entries k beneath it, where it is a folder's, and its later siblings s
abbrev pub entry_of : Row → Forest → Forest → Forest
entry_of r k s = cond (eqb (kind r) 0) (dir (name r) k s) (leaf (name r) (content r) s)

-- the siblings at depth d at the front of some rows: a deeper row stands inside a sibling already taken, a row less
-- deep ends the folder
unfoldable pub siblings : ℕ → List Row → Forest
siblings d [] = end
siblings d (r ∷ rs) = by_order (compare (depth r) d) end (entry_of r (siblings (suc d) rs) (siblings d rs)) (siblings d rs)

unfoldable pub tree_of : List ℕ → Forest
tree_of w = siblings 1 (drop 1 (rows w))

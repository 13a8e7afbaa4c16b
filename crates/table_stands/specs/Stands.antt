-- A node stands at a row: its rows are there in one piece, and what follows is not deeper.
use Rattle.std.specs.Prelude.{◌≡◌, List, [], ◌∷◌, ◌++◌, length, drop, ℕ, ◌/◌, ◌≤◌, Option, Some, None}
use Rattle.tree.specs.Name.{Name}
use Rattle.tree.specs.Forest.{Forest, Forest.end, Forest.leaf, Forest.dir, Node, Node.absent, Node.file, Node.folder, SortedNode, TreePath, Present}
use Rattle.tree.specs.Rules.{NameRule, ContentRule}
use Rattle.table_row.specs.Table.{Row, rows, flat, depth}
use Rattle.table_row.specs.Tree.{node_rows}
use Rattle.table_find.specs.Subtree.{subtree}
use Rattle.table_follow.specs.Follow.{follow}

-- the rows, if there are any, start with one that is not deeper than d
abbrev pub Ended : ℕ → List Row → Type 0
Ended d [] = Unit {0}
Ended d (r ∷ rs) = depth r ≤ d

-- the node x, called n, stands at depth d at row i of the words w
pub record Stands (w : List ℕ) (i d : ℕ) (n : Name) (x : Node) : Type 0 where
  pub rest : List Row
  pub here : drop i (rows w) ≡ node_rows d n x ++ rest
  pub ended : Ended d rest

-- row i is where x stands, or no row where x is absent
abbrev pub StandsOr : List ℕ → ℕ → ℕ → Name → Node → Type 0
StandsOr w i d n absent = length w / 20 ≤ i
StandsOr w i d n (file c) = Stands w i d n (file c)
StandsOr w i d n (folder k) = Stands w i d n (folder k)

-- what a search that comes to row i finds, where x is to stand there
abbrev pub found_at : Node → ℕ → Option ℕ
found_at absent i = None
found_at (file c) i = Some i
found_at (folder k) i = Some i

-- every name and every content is as a table's rules have it
unfoldable pub Ruled : Forest → Type 0
Ruled end = Unit {0}
Ruled (leaf n c s) = NameRule n × ContentRule c × Ruled s
Ruled (dir n k s) = NameRule n × Ruled k × Ruled s

abbrev pub RuledNode : Node → Type 0
RuledNode absent = Unit {0}
RuledNode (file c) = ContentRule c
RuledNode (folder k) = Ruled k

-- w is the words of a node x called n at depth d, which is there, sorted, and as a table's rules have it
pub record Holds (w : List ℕ) (d : ℕ) (n : Name) (x : Node) : Type 0 where
  pub words : w ≡ flat (node_rows d n x)
  pub eight : length n ≡ 8
  pub ruled : RuledNode x
  pub sorted : SortedNode x
  pub present : Present x

-- the path p leads in w to row i, where x stands with its words
pub record Leads (w : List ℕ) (p : TreePath) (i d : ℕ) (n : Name) (x : Node) : Type 0 where
  pub found : follow p w ≡ Some i
  pub stands : Stands w i d n x
  pub words : subtree w i ≡ flat (node_rows d n x)

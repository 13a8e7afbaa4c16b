-- A tree as TR 507 sees one (its section 2): a function from every path to nothing, the mark of a folder, or a file.
use Rattle.std.specs.Prelude.{◌≡◌, [], ◌∷◌, ◌++◌, ℕ, ◌<◌, length}
use Rattle.tree.specs.Name.{Name}
use Rattle.tree.specs.Forest.{Content, TreePath, Forest, Node, Node.absent, Node.file, Node.folder, at}

pub data Value : Type 0 where
  none : Value
  is_folder : Value
  is_file : Content → Value

abbrev pub PathMap : Type 0
PathMap = TreePath → Value

-- only folders have entries, and the depth is finite
pub record Filesystem (S : PathMap) : Type 0 where
  pub only-folders : (p : TreePath) (x : Name) → ¬ (S (p ++ (x ∷ [])) ≡ none) → S p ≡ is_folder
  pub finite : (n : ℕ) × ((q : TreePath) → n < length q → S q ≡ none)

abbrev pub top : Node → Value
top absent = none
top (file c) = is_file c
top (folder f) = is_folder

unfoldable pub value : Node → PathMap
unfolding at
value x p = top (at x p)

-- the function of a whole tree, whose root is a folder
abbrev pub path_map : Forest → PathMap
path_map f = value (folder f)

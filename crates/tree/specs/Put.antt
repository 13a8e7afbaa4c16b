-- A move: the subtree at a path becomes another, absence included; where a path reaches, and where two paths part.
use Rattle.std.specs.Prelude.{[], ◌∷◌}
use Rattle.tree.specs.Name.{Name, cmp, by_order, if_same}
use Rattle.tree.specs.Forest.{TreePath, Forest, Forest.end, Forest.leaf, Forest.dir, Node, Node.absent, Node.file, Node.folder, find, add}

-- the entry called n becomes x
unfoldable pub update : Name → Node → Forest → Forest
update n x end = add n x end
update n x (leaf m c s) = by_order (cmp n m) (add n x (leaf m c s)) (add n x s) (leaf m c (update n x s))
update n x (dir m k s) = by_order (cmp n m) (add n x (dir m k s)) (add n x s) (dir m k (update n x s))

-- what stands at the path in t becomes x; where the path's parent is no folder, t stays
unfoldable pub put : TreePath → Node → Node → Node
put [] x t = x
put (n ∷ p) x absent = absent
put (n ∷ p) x (file c) = file c
put (n ∷ p) x (folder f) = folder (update n (put p x (find n f)) f)

-- every node on the path but the last is a folder
unfoldable pub Reaches : TreePath → Node → Type 0
Reaches [] t = Unit {0}
Reaches (n ∷ p) absent = ⊥
Reaches (n ∷ p) (file c) = ⊥
Reaches (n ∷ p) (folder f) = Reaches p (find n f)

-- two paths part where their names first differ
unfoldable pub Part : TreePath → TreePath → Type 0
Part [] q = ⊥
Part (n ∷ p) [] = ⊥
Part (n ∷ p) (m ∷ q) = if_same (cmp m n) (Part p q) (Unit {0})

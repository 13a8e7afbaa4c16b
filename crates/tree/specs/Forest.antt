-- Trees. A forest is a folder's entries: the first entry, and its later siblings. A node is what stands at one place.
use Rattle.std.specs.Prelude.{◌≡◌, List, [], ◌∷◌, ℕ, suc, ◌+◌}
use Prim.Native.Nat.{Ordering}
use Rattle.tree.specs.Name.{Name, cmp, if_same}

-- a file's row but for depth and name: words 1 and 10 to 19
abbrev pub Content : Type 0
Content = List ℕ

-- the names from the root down
abbrev pub TreePath : Type 0
TreePath = List Name

pub data Forest : Type 0 where
  end : Forest
  leaf : Name → Content → Forest → Forest
  dir : Name → Forest → Forest → Forest

pub data Node : Type 0 where
  absent : Node
  file : Content → Node
  folder : Forest → Node

abbrev pub Present : Node → Type 0
Present absent = ⊥
Present (file c) = Unit {0}
Present (folder f) = Unit {0}

-- the entry called n
unfoldable pub find : Name → Forest → Node
find n end = absent
find n (leaf m c s) = if_same (cmp n m) (file c) (find n s)
find n (dir m k s) = if_same (cmp n m) (folder k) (find n s)

-- only a folder has entries
abbrev pub kids : Node → Forest
kids absent = end
kids (file c) = end
kids (folder f) = f

-- what stands at a path
unfoldable pub at : Node → TreePath → Node
at x [] = x
at x (n ∷ p) = at (find n (kids x)) p

-- a node put before its later siblings; absence leaves them as they are
abbrev pub add : Name → Node → Forest → Forest
add n absent s = s
add n (file c) s = leaf n c s
add n (folder k) s = dir n k s

-- the entries at every depth
unfoldable pub size : Forest → ℕ
size end = 0
size (leaf n c s) = suc (size s)
size (dir n k s) = suc (size k + size s)

-- every sibling's name comes after n
unfoldable pub Above : Name → Forest → Type 0
Above n end = Unit {0}
Above n (leaf m c s) = (cmp n m ≡ Ordering.lt) × Above n s
Above n (dir m k s) = (cmp n m ≡ Ordering.lt) × Above n s

-- siblings ascend strictly by name, at every depth
unfoldable pub Sorted : Forest → Type 0
Sorted end = Unit {0}
Sorted (leaf n c s) = Above n s × Sorted s
Sorted (dir n k s) = Above n s × Sorted k × Sorted s

abbrev pub SortedNode : Node → Type 0
SortedNode absent = Unit {0}
SortedNode (file c) = Unit {0}
SortedNode (folder f) = Sorted f

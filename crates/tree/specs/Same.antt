-- Equality of trees as a test that computes; it is equality (proofs/Same).
use Rattle.std.specs.Prelude.{List, Bool, true, false, ◌&&◌, ℕ}
use Rattle.std.proofs.Math.Dec.{compare_is_eq}
use Rattle.tree.specs.Name.{cmp}
use Rattle.tree.specs.Forest.{Forest, Forest.end, Forest.leaf, Forest.dir, Node, Node.absent, Node.file, Node.folder}

-- of two names, or of two contents
unfoldable pub same_words : List ℕ → List ℕ → Bool
same_words a b = compare_is_eq (cmp a b)

unfoldable pub same_forest : Forest → Forest → Bool
same_forest end end = true
same_forest end (leaf m d t) = false
same_forest end (dir m k t) = false
same_forest (leaf n c s) end = false
same_forest (leaf n c s) (leaf m d t) = (same_words n m && same_words c d) && same_forest s t
same_forest (leaf n c s) (dir m k t) = false
same_forest (dir n k s) end = false
same_forest (dir n k s) (leaf m d t) = false
same_forest (dir n k s) (dir m j t) = (same_words n m && same_forest k j) && same_forest s t

unfoldable pub same_node : Node → Node → Bool
same_node absent absent = true
same_node absent (file d) = false
same_node absent (folder g) = false
same_node (file c) absent = false
same_node (file c) (file d) = same_words c d
same_node (file c) (folder g) = false
same_node (folder f) absent = false
same_node (folder f) (file d) = false
same_node (folder f) (folder g) = same_forest f g

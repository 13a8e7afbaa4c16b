-- A tree's path function is a filesystem, as TR 507 defines one.
use mathlib.Core.List.{[], ◌∷◌, ◌++◌, append_assoc}
use mathlib.Core.Path.{◌≡◌, refl, subst, sym}
use native.Mathlib.Omega.{arith}
use lib.ListN.{length}
use Prim.Native.Nat.{ℕ, suc, max, ◌≤◌, Ordering}
use Rattle.tree.specs.Name.{Name, cmp, if_same}
use Rattle.tree.specs.Forest.{TreePath, Forest, Forest.end, Forest.leaf, Forest.dir, Node, Node.absent, Node.file, Node.folder, find, kids, at}
use Rattle.tree.specs.Value.{Value, Value.none, Value.is_folder, PathMap, Filesystem, value, path_map}
use Rattle.tree.proofs.Never.{never}

-- only folders have anything beneath them
abbrev pub Up : PathMap → Type 0
Up S = (p : TreePath) (x : Name) (q : TreePath) → ¬ (S (p ++ (x ∷ q)) ≡ none) → S p ≡ is_folder

abbrev pub OnlyFolders : PathMap → Type 0
OnlyFolders S = (p : TreePath) (x : Name) → ¬ (S (p ++ (x ∷ [])) ≡ none) → S p ≡ is_folder

pub is_folder-some : (v : Value) → v ≡ is_folder → ¬ (v ≡ none)
is_folder-some v e h = never (cc)

pub up : (S : PathMap) → OnlyFolders S → Up S
up S od p x [] h = od p x h
up S od p x (y ∷ q) h =
    od p x (is_folder-some (S (p ++ (x ∷ []))) (up S od (p ++ (x ∷ [])) y q
    (subst (λ (w : TreePath). ¬ (S w ≡ none)) (sym (append_assoc p (x ∷ []) (y ∷ q))) h)))

pub value-absent : (q : TreePath) → value absent q ≡ none
unfolding value at find
value-absent [] = refl
value-absent (n ∷ q) = value-absent q

pub value-only-folders : (x : Node) → OnlyFolders (value x)
unfolding value at find
value-only-folders absent [] n h = absurd (h refl)
value-only-folders (file c) [] n h = absurd (h refl)
value-only-folders (folder f) [] n h = refl
value-only-folders x (m ∷ p) n h = value-only-folders (find m (kids x)) p n h

unfoldable pub depth : Forest → ℕ
depth end = 0
depth (leaf n c s) = max 1 (depth s)
depth (dir n k s) = max (suc (depth k)) (depth s)

abbrev pub depth_node : Node → ℕ
depth_node absent = 0
depth_node (file c) = 1
depth_node (folder k) = suc (depth k)

deeper : (n m : Name) (x : Node) (s : Forest) → depth_node (find n s) ≤ depth s
    → depth_node (if_same (cmp n m) x (find n s)) ≤ max (depth_node x) (depth s)
deeper n m x s h = go (cmp n m)
  where
    go : (w : Ordering) → depth_node (if_same w x (find n s)) ≤ max (depth_node x) (depth s)
    go Ordering.lt = omega arith
    go Ordering.eq = omega arith
    go Ordering.gt = omega arith

pub find-depth : (n : Name) (f : Forest) → depth_node (find n f) ≤ depth f
unfolding find depth
find-depth n end = omega arith
find-depth n (leaf m c s) = deeper n m (file c) s (find-depth n s)
find-depth n (dir m k s) = deeper n m (folder k) s (find-depth n s)

too-deep : (q : TreePath) (x : Node) → depth_node x ≤ length q → value x q ≡ none
unfolding value at find
too-deep [] absent h = refl
too-deep [] (file c) h = absurd (omega arith)
too-deep [] (folder k) h = absurd (omega arith)
too-deep (m ∷ q) absent h = value-absent q
too-deep (m ∷ q) (file c) h = value-absent q
too-deep (m ∷ q) (folder k) h = too-deep q (find m k) (let d = find-depth m k in omega arith)

pub filesystem : (f : Forest) → Filesystem (path_map f)
filesystem f = record { only-folders = value-only-folders (folder f); finite = (depth f, λ q h. too-deep q (folder f) h) }

-- The rows that the struct names are in use, and an entry put into the folder last opened leaves the open folders' rows.
use mathlib.Core.Path.{◌≡◌, refl, sym, ap, ◌∙◌}
use mathlib.Core.List.{[], ◌∷◌, ◌++◌}
use native.Mathlib.Omega.{arith}
use lib.ListN.{take}
use Prim.Native.Nat.{ℕ, zero, suc, ◌+◌, ◌≤◌, ◌<◌, Ordering}
use Rattle.tree.specs.Name.{Name, cmp, by_order, if_same}
use Rattle.tree.specs.Forest.{TreePath, Forest, Forest.end, Forest.leaf, Forest.dir, Node, Node.absent, Node.file, Node.folder, Present, SortedNode, at, find, size}
use Rattle.tree.specs.Put.{put, update, Reaches}
use Rattle.table_stands.specs.Around.{before, row_in}
use Rattle.table_slot.specs.Insert.{Last, Last.none, Last.entry}
use Rattle.tree.proofs.Forest.{sorted-find, at-absent}
use Rattle.tree.proofs.Put.{find-update-same}
use Rattle.tree.proofs.Never.{never}
use Rattle.tree.proofs.Size.{some-rows, row_count}
use Rattle.table_slot.proofs.Grown.{before-update}

pub before-size : (n : Name) (f : Forest) → size (before n f) + row_count (find n f) ≤ size f
unfolding before find size
before-size n end = omega arith
before-size n (leaf m c s) = go (cmp n m) (before-size n s)
  where
    go : (o : Ordering) → size (before n s) + row_count (find n s) ≤ size s
        → size (by_order o end end (leaf m c (before n s))) + row_count (if_same o (file c) (find n s)) ≤ suc (size s)
    go Ordering.lt h = omega arith
    go Ordering.eq h = omega arith
    go Ordering.gt h = omega arith
before-size n (dir m k s) = go (cmp n m) (before-size n s)
  where
    go : (o : Ordering) → size (before n s) + row_count (find n s) ≤ size s
        → size (by_order o end end (dir m k (before n s))) + row_count (if_same o (folder k) (find n s)) ≤ suc (size k + size s)
    go Ordering.lt h = omega arith
    go Ordering.eq h = omega arith
    go Ordering.gt h = omega arith

pub rows-within : (p : TreePath) (x : Node) → Present (at x p) → row_in x p + row_count (at x p) ≤ row_count x
unfolding at row_in find
rows-within [] x h = omega arith
rows-within (n ∷ p) absent h = absurd (rw (at-absent p) at h)
rows-within (n ∷ p) (file c) h = absurd (rw (at-absent p) at h)
rows-within (n ∷ p) (folder f) h = omega (arith, before-size n f, rows-within p (find n f) h)

pub last_within : (f : ℕ) (k : Forest) (last : ℕ) → Last f k last → last < f + suc (size k)
last_within f k last none = omega arith
last_within f k last (entry a h) = omega (arith, before-size a k, some-rows (find a k) h)

-- the rows of a path and of what is above it stay where something is put at the path
present-put : (p : TreePath) (y x : Node) → Present y → Reaches p x → Present (put p y x)
unfolding put Reaches
present-put [] y x h o = h
present-put (n ∷ p) y absent h o = absurd o
present-put (n ∷ p) y (file c) h o = absurd o
present-put (n ∷ p) y (folder f) h o = tt

pub row_stays : (p : TreePath) (k : ℕ) (y x : Node) → Present y → SortedNode x → Reaches p x → row_in (put p y x) (take k p) ≡ row_in x (take k p)
unfolding put Reaches row_in
row_stays [] zero y x h s o = refl
row_stays [] (suc k) y x h s o = refl
row_stays (n ∷ p) zero y x h s o = refl
row_stays (n ∷ p) (suc k) y absent h s o = absurd o
row_stays (n ∷ p) (suc k) y (file c) h s o = absurd o
row_stays (n ∷ p) (suc k) y (folder f) h s o =
    let z = put p y (find n f) in
    rw (before-update n z (present-put p y (find n f) h o) f, find-update-same n z f s)
    (ap (λ (i : ℕ). suc (size (before n f) + i)) (row_stays p k y (find n f) h (sorted-find n f s) o))

-- the folder that something was put into
pub at-parent : (p : TreePath) (n : Name) (y x : Node) (k : Forest) → SortedNode x → at x p ≡ folder k → at (put (p ++ (n ∷ [])) y x) p ≡ folder (update n y k)
unfolding put at find
at-parent [] n y x k s e = rw e
at-parent (m ∷ p) n y absent k s e = never (let z = sym (at-absent p) ∙ e in cc)
at-parent (m ∷ p) n y (file c) k s e = never (let z = sym (at-absent p) ∙ e in cc)
at-parent (m ∷ p) n y (folder f) k s e =
    ap (λ (z : Node). at z p) (find-update-same m (put (p ++ (n ∷ [])) y (find m f)) f s) ∙ at-parent p n y (find m f) k (sorted-find m f s) e

-- How many entries a tree has, after an entry was put in and beneath a path.
use mathlib.Core.Path.{◌≡◌, refl, ap}
use mathlib.Core.List.{[], ◌∷◌}
use native.Mathlib.Omega.{arith}
use Prim.Native.Nat.{ℕ, suc, ◌+◌, ◌≤◌, ◌<◌, Ordering}
use Rattle.tree.specs.Name.{Name, cmp, by_order, if_same}
use Rattle.tree.specs.Forest.{TreePath, Forest, Forest.end, Node, Node.absent, Node.file, Node.folder, find, at, add, size, Above, Sorted, SortedNode, Present}
use Rattle.tree.specs.Put.{update, put, Reaches}
use Rattle.tree.proofs.Forest.{siblings-ind, find-add, sorted-parts, above-trans, find-above, sorted-find}
use Rattle.tree.proofs.Put.{update-add}

-- a node, and the entries beneath it
abbrev pub row_count : Node → ℕ
row_count absent = 0
row_count (file c) = 1
row_count (folder k) = suc (size k)

pub size-add : (n : Name) (x : Node) (s : Forest) → size (add n x s) ≡ row_count x + size s
unfolding size
size-add n absent s = omega arith
size-add n (file c) s = omega arith
size-add n (folder k) s = omega arith

pub some-rows : (x : Node) → Present x → 0 < row_count x
some-rows absent h = absurd h
some-rows (file c) h = omega arith
some-rows (folder k) h = omega arith

size-update : (n : Name) (x : Node) (f : Forest) → Sorted f → size (update n x f) + row_count (find n f) ≡ size f + row_count x
unfolding update find
size-update n x = siblings-ind (λ (f : Forest). Sorted f → size (update n x f) + row_count (find n f) ≡ size f + row_count x) (λ h. omega (arith, size-add n x end)) more
  where
    more : (m : Name) (y : Node) (s : Forest) → Present y → (Sorted s → size (update n x s) + row_count (find n s) ≡ size s + row_count x) → Sorted (add m y s)
        → size (update n x (add m y s)) + row_count (find n (add m y s)) ≡ size (add m y s) + row_count x
    more m y s p ih h = rw (update-add n m x y s p, find-add n m y s p) (go (cmp n m) refl (sorted-parts m y s p h))
      where
        go : (w : Ordering) → cmp n m ≡ w → Above m s × SortedNode y × Sorted s
            → size (by_order w (add n x (add m y s)) (add n x s) (add m y (update n x s))) + row_count (if_same w y (find n s)) ≡ size (add m y s) + row_count x
        go Ordering.lt e q = omega (arith, size-add n x (add m y s), ap row_count (find-above n s (above-trans n m e s q.0)))
        go Ordering.eq e q = omega (arith, size-add n x s, size-add m y s)
        go Ordering.gt e q = omega (arith, size-add m y (update n x s), size-add m y s, ih q.2)

pub size-put : (p : TreePath) (x t : Node) → SortedNode t → Reaches p t → row_count (put p x t) + row_count (at t p) ≡ row_count t + row_count x
unfolding put at Reaches
size-put [] x t h q = omega arith
size-put (n ∷ p) x absent h q = absurd q
size-put (n ∷ p) x (file c) h q = absurd q
size-put (n ∷ p) x (folder f) h q =
    omega (arith, size-update n (put p x (find n f)) f h, size-put p x (find n f) (sorted-find n f h) q)

-- beneath the root a tree has no more rows than it has entries
rows-find : (n : Name) (f : Forest) → row_count (find n f) ≤ size f
unfolding find
rows-find n = siblings-ind (λ (f : Forest). row_count (find n f) ≤ size f) (omega arith) more
  where
    more : (m : Name) (y : Node) (s : Forest) → Present y → row_count (find n s) ≤ size s → row_count (find n (add m y s)) ≤ size (add m y s)
    more m y s h ih = rw (find-add n m y s h, size-add m y s) (go (cmp n m))
      where
        go : (w : Ordering) → row_count (if_same w y (find n s)) ≤ row_count y + size s
        go Ordering.lt = omega arith
        go Ordering.eq = omega arith
        go Ordering.gt = omega arith

rows_at : (p : TreePath) (x : Node) → row_count (at x p) ≤ row_count x
unfolding at find
rows_at [] x = omega arith
rows_at (n ∷ p) absent = rows_at p absent
rows_at (n ∷ p) (file c) = omega (arith, rows_at p absent)
rows_at (n ∷ p) (folder f) = omega (arith, rows_at p (find n f), rows-find n f)

pub rows-beneath : (n : Name) (p : TreePath) (f : Forest) → row_count (at (folder f) (n ∷ p)) ≤ size f
unfolding at
rows-beneath n p f = omega (arith, rows_at p (find n f), rows-find n f)

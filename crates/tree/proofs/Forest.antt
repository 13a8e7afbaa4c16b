-- Finding an entry among siblings, and what keeps siblings in order. A forest is taken as `end` or as `add m y s` with a
-- node y that is there, so that files and folders share each argument.
use mathlib.Core.Path.{◌≡◌, refl}
use mathlib.Core.List.{[], ◌∷◌}
use Prim.Native.Nat.{Ordering}
use Rattle.tree.specs.Name.{Name, cmp, if_same}
use Rattle.tree.specs.Forest.{TreePath, Forest, Forest.end, Forest.leaf, Forest.dir, Node, Node.absent, Node.file, Node.folder, find, kids, at, add, Above, Sorted, SortedNode, Present}
use Rattle.tree.proofs.Order.{cmp-refl, cmp-trans}

module _ (P : Forest → Type 0) (none : P end) (more : (m : Name) (y : Node) (s : Forest) → Present y → P s → P (add m y s)) where
  pub siblings-ind : (f : Forest) → P f
  siblings-ind end = none
  siblings-ind (leaf m c s) = more m (file c) s tt (siblings-ind s)
  siblings-ind (dir m k s) = more m (folder k) s tt (siblings-ind s)

pub find-add : (n m : Name) (y : Node) (s : Forest) → Present y → find n (add m y s) ≡ if_same (cmp n m) y (find n s)
unfolding find
find-add n m absent s h = absurd h
find-add n m (file c) s h = refl
find-add n m (folder k) s h = refl

pub above-parts : (n m : Name) (y : Node) (s : Forest) → Present y → Above n (add m y s) → (cmp n m ≡ Ordering.lt) × Above n s
unfolding Above
above-parts n m absent s h a = absurd h
above-parts n m (file c) s h a = a
above-parts n m (folder k) s h a = a

pub above-add : (n m : Name) (x : Node) (s : Forest) → cmp n m ≡ Ordering.lt → Above n s → Above n (add m x s)
unfolding Above
above-add n m absent s e a = a
above-add n m (file c) s e a = (e, a)
above-add n m (folder k) s e a = (e, a)

pub sorted-parts : (m : Name) (y : Node) (s : Forest) → Present y → Sorted (add m y s) → Above m s × SortedNode y × Sorted s
unfolding Sorted
sorted-parts m absent s h a = absurd h
sorted-parts m (file c) s h a = (a.0, tt, a.1)
sorted-parts m (folder k) s h a = a

pub sorted-add : (n : Name) (x : Node) (s : Forest) → Above n s → SortedNode x → Sorted s → Sorted (add n x s)
unfolding Sorted
sorted-add n absent s a h k = k
sorted-add n (file c) s a h k = (a, k)
sorted-add n (folder f) s a h k = (a, h, k)

pub above-trans : (n m : Name) → cmp n m ≡ Ordering.lt → (f : Forest) → Above m f → Above n f
unfolding Above
above-trans n m e = siblings-ind (λ (f : Forest). Above m f → Above n f) (λ a. tt) more
  where
    more : (k : Name) (y : Node) (s : Forest) → Present y → (Above m s → Above n s) → Above m (add k y s) → Above n (add k y s)
    more k y s h ih a = let p = above-parts m k y s h a in above-add n k y s (cmp-trans n m k e p.0) (ih p.1)

pub find-above : (n : Name) (f : Forest) → Above n f → find n f ≡ absent
unfolding find
find-above n = siblings-ind (λ (f : Forest). Above n f → find n f ≡ absent) (λ a. refl) more
  where
    more : (m : Name) (y : Node) (s : Forest) → Present y → (Above n s → find n s ≡ absent) → Above n (add m y s) → find n (add m y s) ≡ absent
    more m y s h ih a = let p = above-parts n m y s h a in rw (find-add n m y s h, p.0) (ih p.1)

-- an entry put at the front is found, and no other is changed
pub find-add-same : (n : Name) (x : Node) (s : Forest) → find n s ≡ absent → find n (add n x s) ≡ x
find-add-same n absent s e = e
find-add-same n (file c) s e = rw (find-add n n (file c) s tt, cmp-refl)
find-add-same n (folder k) s e = rw (find-add n n (folder k) s tt, cmp-refl)

abbrev pub Differ : Name → Name → Type 0
Differ k n = ¬ (cmp k n ≡ Ordering.eq)

pub find-add-other : (n m : Name) (x : Node) (s : Forest) → Differ n m → find n (add m x s) ≡ find n s
unfolding find
find-add-other n m x s d = go (cmp n m) refl x
  where
    skip : (y : Node) → Present y → (w : Ordering) → cmp n m ≡ w → if_same w y (find n s) ≡ find n s
    skip y h Ordering.lt e = refl
    skip y h Ordering.eq e = absurd (d e)
    skip y h Ordering.gt e = refl

    go : (w : Ordering) → cmp n m ≡ w → (x : Node) → find n (add m x s) ≡ find n s
    go w e absent = refl
    go w e (file c) = skip (file c) tt (cmp n m) refl
    go w e (folder k) = skip (folder k) tt (cmp n m) refl

pub sorted-find : (n : Name) (f : Forest) → Sorted f → SortedNode (find n f)
unfolding find
sorted-find n = siblings-ind (λ (f : Forest). Sorted f → SortedNode (find n f)) (λ a. tt) more
  where
    more : (m : Name) (y : Node) (s : Forest) → Present y → (Sorted s → SortedNode (find n s)) → Sorted (add m y s) → SortedNode (find n (add m y s))
    more m y s h ih a = let p = sorted-parts m y s h a in rw (find-add n m y s h) (go (cmp n m) p.1 (ih p.2))
      where
        go : (w : Ordering) → SortedNode y → SortedNode (find n s) → SortedNode (if_same w y (find n s))
        go Ordering.lt a b = b
        go Ordering.eq a b = a
        go Ordering.gt a b = b

pub sorted-kids : (x : Node) → SortedNode x → Sorted (kids x)
unfolding Sorted
sorted-kids absent h = tt
sorted-kids (file c) h = tt
sorted-kids (folder f) h = h

pub sorted-child : (n : Name) (x : Node) → SortedNode x → SortedNode (find n (kids x))
sorted-child n x h = sorted-find n (kids x) (sorted-kids x h)

pub sorted-at : (p : TreePath) (x : Node) → SortedNode x → SortedNode (at x p)
unfolding at
sorted-at [] x h = h
sorted-at (n ∷ p) x h = sorted-at p (find n (kids x)) (sorted-child n x h)

-- beneath nothing there is nothing
pub at-absent : (p : TreePath) → at absent p ≡ absent
unfolding at find
at-absent [] = refl
at-absent (n ∷ p) = at-absent p

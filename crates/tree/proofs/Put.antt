-- A subtree put at a path: what stands there then, what stands elsewhere, and that the order stays.
use mathlib.Core.Path.{◌≡◌, refl, ap, ◌∙◌, sym}
use mathlib.Core.List.{[], ◌∷◌, ◌++◌}
use Prim.Native.Nat.{Ordering}
use Rattle.tree.specs.Name.{Name, cmp, by_order, if_same}
use Rattle.tree.specs.Forest.{TreePath, Forest, Forest.end, Node, Node.absent, Node.file, Node.folder, find, kids, at, add, Above, Sorted, SortedNode, Present}
use Rattle.tree.specs.Put.{update, put, Reaches, Part}
use Rattle.tree.proofs.Never.{never}
use Rattle.tree.proofs.Order.{flip, cmp-eq, cmp-flip}
use Rattle.tree.proofs.Forest.{siblings-ind, find-add, above-parts, above-add, sorted-parts, sorted-add, above-trans, find-above, find-add-same, Differ, find-add-other, sorted-find, at-absent}

pub update-add : (n m : Name) (x y : Node) (s : Forest) → Present y
    → update n x (add m y s) ≡ by_order (cmp n m) (add n x (add m y s)) (add n x s) (add m y (update n x s))
unfolding update
update-add n m x absent s h = absurd h
update-add n m x (file c) s h = refl
update-add n m x (folder k) s h = refl

module _ (n : Name) (x : Node) where
  above-update : (k : Name) → cmp k n ≡ Ordering.lt → (f : Forest) → Above k f → Above k (update n x f)
  unfolding update
  above-update k e = siblings-ind (λ (f : Forest). Above k f → Above k (update n x f)) (λ a. above-add k n x end e a) more
    where
      more : (m : Name) (y : Node) (s : Forest) → Present y → (Above k s → Above k (update n x s)) → Above k (add m y s)
          → Above k (update n x (add m y s))
      more m y s h ih a = rw (update-add n m x y s h) (go (cmp n m) (above-parts k m y s h a))
        where
          go : (w : Ordering) → (cmp k m ≡ Ordering.lt) × Above k s → Above k (by_order w (add n x (add m y s)) (add n x s) (add m y (update n x s)))
          go Ordering.lt p = above-add k n x (add m y s) e a
          go Ordering.eq p = above-add k n x s e p.1
          go Ordering.gt p = above-add k m y (update n x s) p.0 (ih p.1)

  pub sorted-update : SortedNode x → (f : Forest) → Sorted f → Sorted (update n x f)
  unfolding update Above Sorted
  sorted-update sx = siblings-ind (λ (f : Forest). Sorted f → Sorted (update n x f)) (λ a. sorted-add n x end tt sx tt) more
    where
      more : (m : Name) (y : Node) (s : Forest) → Present y → (Sorted s → Sorted (update n x s)) → Sorted (add m y s)
          → Sorted (update n x (add m y s))
      more m y s h ih a = rw (update-add n m x y s h) (go (cmp n m) refl (sorted-parts m y s h a))
        where
          go : (w : Ordering) → cmp n m ≡ w → Above m s × SortedNode y × Sorted s
              → Sorted (by_order w (add n x (add m y s)) (add n x s) (add m y (update n x s)))
          go Ordering.lt e p = sorted-add n x (add m y s) (above-add n m y s e (above-trans n m e s p.0)) sx a
          go Ordering.eq e p = sorted-add n x s (rw (cmp-eq n m e) p.0) sx p.2
          go Ordering.gt e p = sorted-add m y (update n x s) (above-update m (cmp-flip n m ∙ ap flip e) s p.0) p.1 (ih p.2)

  pub find-update-same : (f : Forest) → Sorted f → find n (update n x f) ≡ x
  unfolding update find
  find-update-same = siblings-ind (λ (f : Forest). Sorted f → find n (update n x f) ≡ x) (λ a. find-add-same n x end refl) more
    where
      more : (m : Name) (y : Node) (s : Forest) → Present y → (Sorted s → find n (update n x s) ≡ x) → Sorted (add m y s)
          → find n (update n x (add m y s)) ≡ x
      more m y s h ih a = rw (update-add n m x y s h) (go (cmp n m) refl (sorted-parts m y s h a))
        where
          go : (w : Ordering) → cmp n m ≡ w → Above m s × SortedNode y × Sorted s
              → find n (by_order w (add n x (add m y s)) (add n x s) (add m y (update n x s))) ≡ x
          go Ordering.lt e p = find-add-same n x (add m y s) (find-above n (add m y s) (above-add n m y s e (above-trans n m e s p.0)))
          go Ordering.eq e p = find-add-same n x s (find-above n s (rw (cmp-eq n m e) p.0))
          go Ordering.gt e p = rw (find-add n m y (update n x s) h, e) (ih p.2)

  pub find-update-other : (k : Name) → Differ k n → (f : Forest) → find k (update n x f) ≡ find k f
  unfolding update
  find-update-other k d = siblings-ind (λ (f : Forest). find k (update n x f) ≡ find k f) (find-add-other k n x end d) more
    where
      more : (m : Name) (y : Node) (s : Forest) → Present y → find k (update n x s) ≡ find k s → find k (update n x (add m y s)) ≡ find k (add m y s)
      more m y s h ih = rw (update-add n m x y s h) (go (cmp n m) refl)
        where
          go : (w : Ordering) → cmp n m ≡ w → find k (by_order w (add n x (add m y s)) (add n x s) (add m y (update n x s))) ≡ find k (add m y s)
          go Ordering.lt e = find-add-other k n x (add m y s) d
          go Ordering.eq e = find-add-other k n x s d ∙ sym (find-add-other k m y s (rw (cmp-eq n m e) at d))
          go Ordering.gt e = rw (find-add k m y (update n x s) h, find-add k m y s h, ih)

pub put-here : (p : TreePath) (x t : Node) → SortedNode t → Reaches p t → at (put p x t) p ≡ x
unfolding put at Reaches
put-here [] x t st h = refl
put-here (n ∷ p) x absent st h = absurd h
put-here (n ∷ p) x (file c) st h = absurd h
put-here (n ∷ p) x (folder f) st h =
    rw (find-update-same n (put p x (find n f)) f st) (put-here p x (find n f) (sorted-find n f st) h)

pub put-elsewhere : (p q : TreePath) (x t : Node) → SortedNode t → Part p q → at (put p x t) q ≡ at t q
unfolding put at Part
put-elsewhere [] q x t st h = absurd h
put-elsewhere (n ∷ p) [] x t st h = absurd h
put-elsewhere (n ∷ p) (m ∷ q) x absent st h = refl
put-elsewhere (n ∷ p) (m ∷ q) x (file c) st h = refl
put-elsewhere (n ∷ p) (m ∷ q) x (folder f) st h = go (cmp m n) refl h (put-elsewhere p q x (find n f) (sorted-find n f st))
  where
    y : Node
    y = put p x (find n f)

    go : (w : Ordering) → cmp m n ≡ w → if_same w (Part p q) (Unit {0}) → (Part p q → at y q ≡ at (find n f) q)
        → at (find m (update n y f)) q ≡ at (find m f) q
    go Ordering.lt e h ih = rw (find-update-other n y m (λ d. never (cc)) f)
    go Ordering.eq e h ih = rw (cmp-eq m n e, find-update-same n y f st) (ih h)
    go Ordering.gt e h ih = rw (find-update-other n y m (λ d. never (cc)) f)

pub sorted-put : (p : TreePath) (x t : Node) → SortedNode x → SortedNode t → SortedNode (put p x t)
unfolding put
sorted-put [] x t sx st = sx
sorted-put (n ∷ p) x absent sx st = tt
sorted-put (n ∷ p) x (file c) sx st = tt
sorted-put (n ∷ p) x (folder f) sx st = sorted-update n (put p x (find n f)) (sorted-put p x (find n f) sx (sorted-find n f st)) f st

-- an entry changed to itself
pub update-find : (n : Name) (f : Forest) → Sorted f → update n (find n f) f ≡ f
unfolding update find
update-find n = siblings-ind (λ (f : Forest). Sorted f → update n (find n f) f ≡ f) (λ h. refl) more
  where
    more : (m : Name) (y : Node) (s : Forest) → Present y → (Sorted s → update n (find n s) s ≡ s) → Sorted (add m y s)
        → update n (find n (add m y s)) (add m y s) ≡ add m y s
    more m y s p ih h = rw (find-add n m y s p) (update-add n m (if_same (cmp n m) y (find n s)) y s p ∙ go (cmp n m) refl)
      where
        go : (w : Ordering) → cmp n m ≡ w
            → by_order w (add n (if_same w y (find n s)) (add m y s)) (add n (if_same w y (find n s)) s) (add m y (update n (if_same w y (find n s)) s)) ≡ add m y s
        go Ordering.lt e = rw (find-above n s (above-trans n m e s (sorted-parts m y s p h).0))
        go Ordering.eq e = rw (cmp-eq n m e)
        go Ordering.gt e = ap (add m y) (ih (sorted-parts m y s p h).2)

-- what stands there already, put there
pub put-at : (p : TreePath) (x : Node) → SortedNode x → put p (at x p) x ≡ x
unfolding put at
put-at [] x h = refl
put-at (n ∷ p) absent h = refl
put-at (n ∷ p) (file c) h = refl
put-at (n ∷ p) (folder k) h = ap folder (rw (put-at p (find n k) (sorted-find n k h)) (update-find n k h))

-- what is put below a folder leaves it a folder
pub put-folder : (p : TreePath) (n : Name) (x : Node) (f : Forest) → folder (kids (put (p ++ (n ∷ [])) x (folder f))) ≡ put (p ++ (n ∷ [])) x (folder f)
unfolding put
put-folder [] n x f = refl
put-folder (m ∷ p) n x f = refl

-- an entry of a folder that stands at a path
pub reaches-entry : (n : Name) (k : Forest) (p : TreePath) (x : Node) → at x p ≡ folder k → Reaches (p ++ (n ∷ [])) x
unfolding at Reaches find
reaches-entry n k [] x e = rw e tt
reaches-entry n k (m ∷ p) absent e = let z = at-absent p in never (cc)
reaches-entry n k (m ∷ p) (file c) e = let z = at-absent p in never (cc)
reaches-entry n k (m ∷ p) (folder j) e = reaches-entry n k p (find m j) e

-- A sorted tree is known by its path function.
use mathlib.Core.List.{[], ◌∷◌}
use mathlib.Core.Path.{◌∙◌, ◌≡◌, ap, refl, subst, sym}
use Prim.Native.Nat.{Ordering}
use Rattle.tree.specs.Name.{Name, cmp}
use Rattle.tree.specs.Forest.{TreePath, Forest, Forest.end, Forest.leaf, Forest.dir, Node, Node.absent, Node.file, Node.folder, find, at, add, Above, Sorted, SortedNode, Present}
use Rattle.tree.specs.Value.{Value.none, top, value}
use Rattle.tree.proofs.Never.{never}
use Rattle.tree.proofs.Order.{flip, cmp-eq, cmp-flip}
use Rattle.tree.proofs.Forest.{above-trans, find-above, find-add-same, Differ, find-add-other}

present-top : {P : Type 0} (x : Node) → Present x → top x ≡ none → P
present-top absent h e = absurd h
present-top (file c) h e = never (cc)
present-top (folder f) h e = never (cc)

-- two runs of siblings that hold the same at every path: the names at their heads, what stands there, and the rest
module _ (n : Name) (x y : Node) (s t : Forest) (a : Above n s) (b : Above n t)
    (E : (k : Name) (p : TreePath) → value (find k (add n x s)) p ≡ value (find k (add n y t)) p) where
  same_head : (p : TreePath) → value x p ≡ value y p
  same_head p = rw (find-add-same n x s (find-above n s a), find-add-same n y t (find-above n t b)) at (E n p)

  same_rest : (k : Name) (p : TreePath) → value (find k s) p ≡ value (find k t) p
  same_rest k p = go (cmp k n) refl
    where
      other : Differ k n → value (find k s) p ≡ value (find k t) p
      other d = rw (find-add-other k n x s d, find-add-other k n y t d) at (E k p)

      go : (o : Ordering) → cmp k n ≡ o → value (find k s) p ≡ value (find k t) p
      go Ordering.lt e = other (λ h. never (cc))
      go Ordering.eq e = rw (cmp-eq k n e, find-above n s a, find-above n t b)
      go Ordering.gt e = other (λ h. never (cc))

record Heads (n m : Name) (x y : Node) (s t : Forest) : Type 0 where
  pub name : n ≡ m
  pub node : (p : TreePath) → value x p ≡ value y p
  pub rest : (k : Name) (p : TreePath) → value (find k s) p ≡ value (find k t) p

not-lt : (n m : Name) (x y : Node) (s t : Forest) → Present x → Above n s → Above m t
    → ((k : Name) (p : TreePath) → value (find k (add n x s)) p ≡ value (find k (add m y t)) p) → cmp n m ≡ Ordering.lt → ⊥
unfolding value at
not-lt n m x y s t h a b E e =
    present-top x h (rw (
      find-add-same n x s (find-above n s a),
      find-add-other n m y t (λ d. never (cc)),
      find-above n t
          (above-trans n m e t b),
    ) at (E n []))

heads : (n m : Name) (x y : Node) (s t : Forest) → Present x → Present y → Above n s → Above m t
    → ((k : Name) (p : TreePath) → value (find k (add n x s)) p ≡ value (find k (add m y t)) p) → Heads n m x y s t
heads n m x y s t h j a b E = go (cmp n m) refl
  where
    go : (o : Ordering) → cmp n m ≡ o → Heads n m x y s t
    go Ordering.lt e = absurd (not-lt n m x y s t h a b E e)
    go Ordering.gt e = absurd (not-lt m n y x t s j b a (λ k p. sym (E k p)) (cmp-flip n m ∙ ap flip e))
    go Ordering.eq e =
        let q = cmp-eq n m e in
        let b' : Above n t = rw q b in
        let E' : (k : Name) (p : TreePath) → value (find k (add n x s)) p ≡ value (find k (add n y t)) p
        = subst (λ (w : Name). (k : Name) (p : TreePath) → value (find k (add n x s)) p ≡ value (find k (add w y t)) p) (sym q) E in
        record { name = q; node = same_head n x y s t a b' E'; rest = same_rest n x y s t a b' E' }

ext-end : (m : Name) (y : Node) (t : Forest) → Present y → Above m t
    → ((k : Name) (p : TreePath) → value (find k end) p ≡ value (find k (add m y t)) p) → ⊥
unfolding value at find
ext-end m y t h b E = present-top y h (sym (rw (find-add-same m y t (find-above m t b)) at (E m [])))

pub forest-ext : (f g : Forest) → Sorted f → Sorted g → ((k : Name) (p : TreePath) → value (find k f) p ≡ value (find k g) p) → f ≡ g
unfolding Sorted value at find
forest-ext end end a b E = refl
forest-ext end (leaf m d t) a b E = absurd (ext-end m (file d) t tt b.0 E)
forest-ext end (dir m l t) a b E = absurd (ext-end m (folder l) t tt b.0 E)
forest-ext (leaf n c s) end a b E = absurd (ext-end n (file c) s tt a.0 (λ k p. sym (E k p)))
forest-ext (dir n l s) end a b E = absurd (ext-end n (folder l) s tt a.0 (λ k p. sym (E k p)))
forest-ext (leaf n c s) (leaf m d t) a b E =
    let H = heads n m (file c) (file d) s t tt tt a.0 b.0 E in
    let i = H.name in let j = H.node [] in let w = forest-ext s t a.1 b.1 H.rest in cc
forest-ext (leaf n c s) (dir m l t) a b E = let e = ((heads n m (file c) (folder l) s t tt tt a.0 b.0 E).node []) in never (cc)
forest-ext (dir n k s) (leaf m d t) a b E = let e = (sym ((heads n m (folder k) (file d) s t tt tt a.0 b.0 E).node [])) in never (cc)
forest-ext (dir n k s) (dir m l t) a b E =
    let H = heads n m (folder k) (folder l) s t tt tt a.0 b.0 E in
    let i = H.name in let j = forest-ext k l a.1 b.1 (λ x p. H.node (x ∷ p)) in
    let w = forest-ext s t a.2 b.2 H.rest in cc

pub node-ext : (x y : Node) → SortedNode x → SortedNode y → ((p : TreePath) → value x p ≡ value y p) → x ≡ y
unfolding value at
node-ext absent absent a b E = refl
node-ext absent (file d) a b E = let e = (E []) in never (cc)
node-ext absent (folder g) a b E = let e = (E []) in never (cc)
node-ext (file c) absent a b E = let e = (sym (E [])) in never (cc)
node-ext (file c) (file d) a b E = let e = E [] in cc
node-ext (file c) (folder g) a b E = let e = (E []) in never (cc)
node-ext (folder f) absent a b E = let e = (sym (E [])) in never (cc)
node-ext (folder f) (file d) a b E = let e = (sym (E [])) in never (cc)
node-ext (folder f) (folder g) a b E = ap folder (forest-ext f g a b (λ k p. E (k ∷ p)))

pub find-ext : (f g : Forest) → Sorted f → Sorted g → ((n : Name) → find n f ≡ find n g) → f ≡ g
find-ext f g a b E = forest-ext f g a b (λ n p. ap (λ (x : Node). value x p) (E n))

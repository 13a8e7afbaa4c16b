-- A tree spelled as another: what stands at a key, and its name; and where the two are equal after folding it is the other.
use mathlib.Core.Path.{◌≡◌, refl, ap, subst, ◌∙◌}
use Prim.Native.Nat.{ℕ, zero, suc, Ordering}
use Rattle.tree.specs.Name.{Name, cmp, if_same}
use Rattle.tree.specs.Forest.{Forest, Forest.end, Forest.leaf, Forest.dir, Node, Node.absent, Node.file, Node.folder, find, kids, at, add, Above, Sorted, SortedNode, Present}
use Rattle.tree.specs.Rules.{Within}
use Rattle.tree.specs.declared.Profile.{Profile}
use Rattle.tree.specs.Key.{key, fold, fold_node, entry, spelling, respell}
use Rattle.tree.proofs.Never.{never}
use Rattle.tree.proofs.Order.{cmp-refl, cmp-eq}
use Rattle.tree.proofs.Forest.{siblings-ind, find-above}
use Rattle.tree.proofs.Folds.{respell_node, fold-absent, entry-add, spelling-add, respell-add, entry-fold, key-spelling, fold-respell, fold-idem, respell-end, IsKey, Any}

-- a tree spelled as one that is equal after folding is that one, where no two siblings are equal after folding
abbrev pub Sees : Profile → Forest → Forest → Type 0
Sees p t s = (k n : Name) → Present (entry p k s) → (spelling p k t n ≡ spelling p k s n) × (entry p k t ≡ entry p k s)

module _ (p : Profile) where
  pub sees-rest : (t : Forest) (m : Name) (y : Node) (s : Forest) → Present y → Above (key p m) (fold p s) → Sees p t (add m y s) → Sees p t s
  sees-rest t m y s h a e k n i = go (cmp k (key p m)) refl (rw (entry-add p k m y s h, spelling-add p k m y s n h) at (e k n))
    where
      gone : k ≡ key p m → entry p k s ≡ absent
      gone q = fold-absent p (entry p k s) (entry-fold p k s ∙ ap (λ (x : Name). find x (fold p s)) q ∙ find-above (key p m) (fold p s) a)

      go : (w : Ordering) → cmp k (key p m) ≡ w
          → (Present (if_same w y (entry p k s)) → (spelling p k t n ≡ if_same w m (spelling p k s n)) × (entry p k t ≡ if_same w y (entry p k s)))
          → (spelling p k t n ≡ spelling p k s n) × (entry p k t ≡ entry p k s)
      go Ordering.lt q f = f i
      go Ordering.eq q f = absurd (subst Present (gone (cmp-eq k (key p m) q)) i)
      go Ordering.gt q f = f i

  -- the first entry is seen under its key
  pub sees-head : (t : Forest) (m : Name) (y : Node) (s : Forest) → Present y → Sees p t (add m y s) → (k n : Name) → k ≡ key p m → (spelling p k t n ≡ m) × (entry p k t ≡ y)
  sees-head t m y s h e k n q =
      let c : cmp k (key p m) ≡ Ordering.eq = rw q (cmp-refl (key p m)) in
      (rw (entry-add p k m y s h, spelling-add p k m y s n h, c) at (e k n)) h

  pub respell-seen : (t s g : Forest) → Sees p t s → Sorted (fold p s) → fold p s ≡ fold p g → respell p t g ≡ s
  unfolding fold respell Sorted
  respell-seen t end end e a q = refl
  respell-seen t end (leaf n c g) e a q = never (cc)
  respell-seen t end (dir n j g) e a q = never (cc)
  respell-seen t (leaf m c s) end e a q = never (cc)
  respell-seen t (leaf m c s) (leaf n d g) e a q =
      let h = sees-head t m (file c) s tt e (key p n) n (cc) in let i = h.0 in
      let r = respell-seen t s g (sees-rest t m (file c) s tt a.0 e) a.1 (cc) in cc
  respell-seen t (leaf m c s) (dir n j g) e a q = never (cc)
  respell-seen t (dir m k s) end e a q = never (cc)
  respell-seen t (dir m k s) (leaf n d g) e a q = never (cc)
  respell-seen t (dir m k s) (dir n j g) e a q =
      let h = sees-head t m (folder k) s tt e (key p n) n (cc) in let i = h.0 in
      let r = respell-seen t s g (sees-rest t m (folder k) s tt a.0 e) a.2 (cc) in
      let b = respell-seen k k j (λ x y z. (refl, refl)) a.1 (cc) in
      rw h.1 (cc)

  pub respell-same : (f g : Forest) → Sorted (fold p f) → fold p f ≡ fold p g → respell p f g ≡ f
  respell-same f g a q = respell-seen f f g (λ k n h. (refl, refl)) a q

-- a respelled tree at a key: what stands there, respelled; and its name
module _ (p : Profile) where
  pub fold-respell_node : (x y : Node) → fold_node p (respell_node p x y) ≡ fold_node p y
  fold-respell_node x absent = refl
  fold-respell_node x (file c) = refl
  fold-respell_node x (folder k) = ap folder (fold-respell p (kids x) k)

  pub present-respell : (x y : Node) → Present y → Present (respell_node p x y)
  present-respell x absent h = h
  present-respell x (file c) h = h
  present-respell x (folder k) h = h

  pub entry-respell : (k : Name) (t f : Forest) → entry p k (respell p t f) ≡ respell_node p (entry p k t) (entry p k f)
  unfolding entry respell
  entry-respell k t = siblings-ind (λ (f : Forest). entry p k (respell p t f) ≡ respell_node p (entry p k t) (entry p k f)) refl more
    where
      more : (m : Name) (y : Node) (s : Forest) → Present y → entry p k (respell p t s) ≡ respell_node p (entry p k t) (entry p k s)
          → entry p k (respell p t (add m y s)) ≡ respell_node p (entry p k t) (entry p k (add m y s))
      more m y s h ih =
          rw (respell-add p t m y s, entry-add p k (spelling p (key p m) t m) (respell_node p (entry p (key p m) t) y) (respell p t s) (present-respell (entry p (key p m) t) y h), key-spelling p (key p m) t m refl, entry-add p k m y s h)
          (go (cmp k (key p m)) refl)
        where
          go : (w : Ordering) → cmp k (key p m) ≡ w
              → if_same w (respell_node p (entry p (key p m) t) y) (entry p k (respell p t s)) ≡ respell_node p (entry p k t) (if_same w y (entry p k s))
          go Ordering.lt e = ih
          go Ordering.eq e = rw (cmp-eq k (key p m) e)
          go Ordering.gt e = ih

  pub spelling-respell : (k : Name) (t f : Forest) (d : Name) → Present (entry p k f) → spelling p k (respell p t f) d ≡ spelling p k t (spelling p k f d)
  unfolding entry respell spelling
  spelling-respell k t f d = siblings-ind (λ (f : Forest). Present (entry p k f) → spelling p k (respell p t f) d ≡ spelling p k t (spelling p k f d)) (λ h. absurd h) more f
    where
      more : (m : Name) (y : Node) (s : Forest) → Present y → (Present (entry p k s) → spelling p k (respell p t s) d ≡ spelling p k t (spelling p k s d))
          → Present (entry p k (add m y s)) → spelling p k (respell p t (add m y s)) d ≡ spelling p k t (spelling p k (add m y s) d)
      more m y s h ih i =
          rw (respell-add p t m y s, spelling-add p k (spelling p (key p m) t m) (respell_node p (entry p (key p m) t) y) (respell p t s) d (present-respell (entry p (key p m) t) y h), key-spelling p (key p m) t m refl, spelling-add p k m y s d h)
          (go (cmp k (key p m)) refl (rw (entry-add p k m y s h) at i))
        where
          go : (w : Ordering) → cmp k (key p m) ≡ w → Present (if_same w y (entry p k s))
              → if_same w (spelling p (key p m) t m) (spelling p k (respell p t s) d) ≡ spelling p k t (if_same w m (spelling p k s d))
          go Ordering.lt e j = ih j
          go Ordering.eq e j = rw (cmp-eq k (key p m) e)
          go Ordering.gt e j = ih j

  -- where there is no such entry
  pub spelling-none : (k : Name) (f : Forest) (d : Name) → entry p k f ≡ absent → spelling p k f d ≡ d
  unfolding entry spelling
  spelling-none k f d = siblings-ind (λ (f : Forest). entry p k f ≡ absent → spelling p k f d ≡ d) (λ h. refl) more f
    where
      more : (m : Name) (y : Node) (s : Forest) → Present y → (entry p k s ≡ absent → spelling p k s d ≡ d) → entry p k (add m y s) ≡ absent → spelling p k (add m y s) d ≡ d
      more m y s h ih e = rw (spelling-add p k m y s d h) (go (cmp k (key p m)) (rw (entry-add p k m y s h) at e))
        where
          go : (w : Ordering) → if_same w y (entry p k s) ≡ absent → if_same w m (spelling p k s d) ≡ d
          go Ordering.lt j = ih j
          go Ordering.eq j = absurd (subst Present j h)
          go Ordering.gt j = ih j

  -- where there is, what is said of it for want of one does not matter
  pub spelling-some : (k : Name) (f : Forest) (d e : Name) → Present (entry p k f) → spelling p k f d ≡ spelling p k f e
  unfolding entry spelling
  spelling-some k f d e = siblings-ind (λ (f : Forest). Present (entry p k f) → spelling p k f d ≡ spelling p k f e) (λ h. absurd h) more f
    where
      more : (m : Name) (y : Node) (s : Forest) → Present y → (Present (entry p k s) → spelling p k s d ≡ spelling p k s e) → Present (entry p k (add m y s))
          → spelling p k (add m y s) d ≡ spelling p k (add m y s) e
      more m y s h ih i = rw (spelling-add p k m y s d h, spelling-add p k m y s e h) (go (cmp k (key p m)) (rw (entry-add p k m y s h) at i))
        where
          go : (w : Ordering) → Present (if_same w y (entry p k s)) → if_same w m (spelling p k s d) ≡ if_same w m (spelling p k s e)
          go Ordering.lt j = ih j
          go Ordering.eq j = refl
          go Ordering.gt j = ih j

  -- in a tree of keys an entry is found by its name
  pub entry-keys : (d : ℕ) (k : Name) (f : Forest) → Within (IsKey p) Any d f → entry p k f ≡ find k f
  unfolding entry find Within
  entry-keys d k end w = refl
  entry-keys zero k (leaf m c s) w = absurd w
  entry-keys (suc d) k (leaf m c s) w = rw (w.0, entry-keys (suc d) k s w.2)
  entry-keys zero k (dir m j s) w = absurd w
  entry-keys (suc d) k (dir m j s) w = rw (w.0, entry-keys (suc d) k s w.2)

  pub respell_node-same : (x y : Node) → SortedNode (fold_node p x) → fold_node p x ≡ fold_node p y → respell_node p x y ≡ x
  respell_node-same absent absent a q = refl
  respell_node-same absent (file d) a q = never (cc)
  respell_node-same absent (folder j) a q = never (cc)
  respell_node-same (file c) absent a q = never (cc)
  respell_node-same (file c) (file d) a q = cc
  respell_node-same (file c) (folder j) a q = never (cc)
  respell_node-same (folder k) absent a q = never (cc)
  respell_node-same (folder k) (file d) a q = never (cc)
  respell_node-same (folder k) (folder j) a q = ap folder (respell-same p k j a (cc))

  -- what is no folder says nothing of the names beneath
  pub respell_node-none : (x y : Node) → kids x ≡ end → respell_node p x y ≡ y
  respell_node-none x absent e = refl
  respell_node-none x (file c) e = refl
  respell_node-none x (folder k) e = rw e (ap folder (respell-end p k))

  pub fold_node-idem : (x : Node) → fold_node p (fold_node p x) ≡ fold_node p x
  fold_node-idem absent = refl
  fold_node-idem (file c) = refl
  fold_node-idem (folder k) = ap folder (fold-idem p k)

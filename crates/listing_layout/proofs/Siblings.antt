-- One folder's entries, put in by key: the entry put in is the one found, a second one takes its place, and of two entries either
-- may come first.
use mathlib.Core.Path.{◌≡◌, refl, ap, sym, ◌∙◌}
use Prim.Native.Nat.{Ordering}
use Rattle.tree.specs.Name.{Name, cmp, by_order, if_same}
use Rattle.tree.specs.Forest.{Forest, Forest.end, Node, Node.absent, Present, Above, Sorted, SortedNode, add}
use Rattle.tree.specs.Key.{key, fold, fold_node, entry, update_in}
use Rattle.tree.specs.declared.Profile.{Profile}
use Rattle.tree.proofs.Never.{never}
use Rattle.tree.proofs.Order.{flip, cmp-eq, cmp-flip, cmp-refl, cmp-trans}
use Rattle.tree.proofs.Forest.{Differ, siblings-ind, sorted-parts, above-trans, find-above}
use Rattle.tree.proofs.Put.{sorted-update}
use Rattle.tree.proofs.Folds.{entry-add, entry-fold, fold-absent, fold-add, present-fold}
use Rattle.tree.proofs.Spots.{update_in-add, fold-update_in}

-- two keys are one, or they differ
pub data Compared (k n : Name) : Type 0 where
  one : k ≡ n → Compared k n
  two : Differ k n → Compared k n

pub compared : (k n : Name) → Compared k n
compared k n = go (cmp k n) refl
  where
    go : (w : Ordering) → cmp k n ≡ w → Compared k n
    go Ordering.lt e = two (λ z. never (cc))
    go Ordering.eq e = one (cmp-eq k n e)
    go Ordering.gt e = two (λ z. never (cc))

pub add-other : (p : Profile) (k m : Name) (y : Node) (s : Forest) → Present y → Differ k (key p m) → entry p k (add m y s) ≡ entry p k s
add-other p k m y s h d = rw (entry-add p k m y s h) (go (cmp k (key p m)) refl)
  where
    go : (w : Ordering) → cmp k (key p m) ≡ w → if_same w y (entry p k s) ≡ entry p k s
    go Ordering.lt e = refl
    go Ordering.eq e = absurd (d e)
    go Ordering.gt e = refl

pub add_same : (p : Profile) (m : Name) (y : Node) (s : Forest) → Present y → entry p (key p m) (add m y s) ≡ y
add_same p m y s h = rw (entry-add p (key p m) m y s h, cmp-refl (key p m))

module _ (p : Profile) (n : Name) where
  pub sorted-update_in : (x : Node) → SortedNode (fold_node p x) → (f : Forest) → Sorted (fold p f) → Sorted (fold p (update_in p n x f))
  sorted-update_in x sx f sf = rw (fold-update_in p n x f) (sorted-update (key p n) (fold_node p x) sx (fold p f) sf)

  pub entry-same : (x : Node) → Present x → (f : Forest) → entry p (key p n) (update_in p n x f) ≡ x
  unfolding update_in
  entry-same x h = siblings-ind (λ (f : Forest). entry p (key p n) (update_in p n x f) ≡ x) (add_same p n x end h) more
    where
      more : (m : Name) (y : Node) (s : Forest) → Present y → entry p (key p n) (update_in p n x s) ≡ x → entry p (key p n) (update_in p n x (add m y s)) ≡ x
      more m y s hy ih = rw (update_in-add p n m x y s hy) (go (cmp (key p n) (key p m)) refl)
        where
          go : (w : Ordering) → cmp (key p n) (key p m) ≡ w
              → entry p (key p n) (by_order w (add n x (add m y s)) (add m x s) (add m y (update_in p n x s))) ≡ x
          go Ordering.lt e = add_same p n x (add m y s) h
          go Ordering.eq e = rw (entry-add p (key p n) m x s h, e)
          go Ordering.gt e = rw (entry-add p (key p n) m y (update_in p n x s) hy, e) ih

  pub entry_other : (k : Name) → Differ k (key p n) → (x : Node) → Present x → (f : Forest) → entry p k (update_in p n x f) ≡ entry p k f
  unfolding update_in
  entry_other k d x h = siblings-ind (λ (f : Forest). entry p k (update_in p n x f) ≡ entry p k f) (add-other p k n x end h d) more
    where
      more : (m : Name) (y : Node) (s : Forest) → Present y → entry p k (update_in p n x s) ≡ entry p k s → entry p k (update_in p n x (add m y s)) ≡ entry p k (add m y s)
      more m y s hy ih = rw (update_in-add p n m x y s hy) (go (cmp (key p n) (key p m)) refl)
        where
          go : (w : Ordering) → cmp (key p n) (key p m) ≡ w → entry p k (by_order w (add n x (add m y s)) (add m x s) (add m y (update_in p n x s))) ≡ entry p k (add m y s)
          go Ordering.lt e = add-other p k n x (add m y s) h d
          go Ordering.eq e =
              let apart : Differ k (key p m) = rw (cmp-eq (key p n) (key p m) e) at d in
              add-other p k m x s h apart ∙ sym (add-other p k m y s hy apart)
          go Ordering.gt e = rw (entry-add p k m y (update_in p n x s) hy, entry-add p k m y s hy, ih)

  -- an entry changed to itself
  pub update-entry : (f : Forest) → Sorted (fold p f) → update_in p n (entry p (key p n) f) f ≡ f
  unfolding update_in entry
  update-entry = siblings-ind (λ (f : Forest). Sorted (fold p f) → update_in p n (entry p (key p n) f) f ≡ f) (λ a. refl) more
    where
      more : (m : Name) (y : Node) (s : Forest) → Present y → (Sorted (fold p s) → update_in p n (entry p (key p n) s) s ≡ s) → Sorted (fold p (add m y s))
          → update_in p n (entry p (key p n) (add m y s)) (add m y s) ≡ add m y s
      more m y s h ih a =
          rw (entry-add p (key p n) m y s h)
          (update_in-add p n m (if_same (cmp (key p n) (key p m)) y (entry p (key p n) s)) y s h
          ∙ go (cmp (key p n) (key p m)) refl (sorted-parts (key p m) (fold_node p y) (fold p s) (present-fold p y h) (rw (fold-add p m y s) at a)))
        where
          gone : cmp (key p n) (key p m) ≡ Ordering.lt → Above (key p m) (fold p s) → entry p (key p n) s ≡ absent
          gone e b = fold-absent p (entry p (key p n) s) (entry-fold p (key p n) s ∙ find-above (key p n) (fold p s) (above-trans (key p n) (key p m) e (fold p s) b))

          go : (w : Ordering) → cmp (key p n) (key p m) ≡ w → Above (key p m) (fold p s) × SortedNode (fold_node p y) × Sorted (fold p s)
              → by_order w (add n (if_same w y (entry p (key p n) s)) (add m y s)) (add m (if_same w y (entry p (key p n) s)) s) (add m y (update_in p n (if_same w y (entry p (key p n) s)) s)) ≡ add m y s
          go Ordering.lt e b = rw (gone e b.0)
          go Ordering.eq e b = refl
          go Ordering.gt e b = ap (add m y) (ih b.2)

-- a second entry of one key, however it is spelled, takes the place of the first
pub update-over : (p : Profile) (n m : Name) (x y : Node) → cmp (key p n) (key p m) ≡ Ordering.eq → Present y → (f : Forest)
    → update_in p n x (update_in p m y f) ≡ update_in p m x f
unfolding update_in
update-over p n m x y same h =
    siblings-ind (λ (f : Forest). update_in p n x (update_in p m y f) ≡ update_in p m x f) (update_in-add p n m x y end h ∙ rw same) more
  where
    more : (k : Name) (z : Node) (s : Forest) → Present z → update_in p n x (update_in p m y s) ≡ update_in p m x s
        → update_in p n x (update_in p m y (add k z s)) ≡ update_in p m x (add k z s)
    more k z s hz ih = rw (update_in-add p m k y z s hz, update_in-add p m k x z s hz) (go (cmp (key p m) (key p k)) refl)
      where
        like : (w : Ordering) → cmp (key p m) (key p k) ≡ w → cmp (key p n) (key p k) ≡ w
        like w e = rw (cmp-eq (key p n) (key p m) same) e

        go : (w : Ordering) → cmp (key p m) (key p k) ≡ w
            → update_in p n x (by_order w (add m y (add k z s)) (add k y s) (add k z (update_in p m y s)))
            ≡ by_order w (add m x (add k z s)) (add k x s) (add k z (update_in p m x s))
        go Ordering.lt e = update_in-add p n m x y (add k z s) h ∙ rw same
        go Ordering.eq e = update_in-add p n k x y s h ∙ rw (like Ordering.eq e)
        go Ordering.gt e = update_in-add p n k x z (update_in p m y s) hz ∙ rw (like Ordering.gt e, ih)

-- m is put in behind an entry that comes before it
behind : (p : Profile) (n m : Name) (x y : Node) → Present x → cmp (key p m) (key p n) ≡ Ordering.gt → (t : Forest)
    → update_in p m y (add n x t) ≡ add n x (update_in p m y t)
behind p n m x y h e t = update_in-add p m n y x t h ∙ rw e

-- two entries before all of t
in-front : (p : Profile) (n m : Name) (x y : Node) → Present x → Present y → Differ (key p m) (key p n) → (t : Forest)
    → update_in p n x t ≡ add n x t → update_in p m y t ≡ add m y t → update_in p n x (add m y t) ≡ update_in p m y (add n x t)
in-front p n m x y hx hy d t en em =
    update_in-add p n m x y t hy ∙ go (cmp (key p n) (key p m)) refl ∙ sym (update_in-add p m n y x t hx)
  where
    go : (w : Ordering) → cmp (key p n) (key p m) ≡ w
        → by_order w (add n x (add m y t)) (add m x t) (add m y (update_in p n x t))
        ≡ by_order (cmp (key p m) (key p n)) (add m y (add n x t)) (add n y t) (add n x (update_in p m y t))
    go Ordering.lt e = rw (cmp-flip (key p n) (key p m), e, em)
    go Ordering.eq e = absurd (d (cmp-flip (key p n) (key p m) ∙ ap flip e))
    go Ordering.gt e = rw (cmp-flip (key p n) (key p m), e, en)

-- by the order of two names
by-order : (p : Profile) (n k : Name) (x z : Node) (s : Forest) → Present z → (w : Ordering) → cmp (key p n) (key p k) ≡ w
    → update_in p n x (add k z s) ≡ by_order w (add n x (add k z s)) (add k x s) (add k z (update_in p n x s))
by-order p n k x z s h w e = update_in-add p n k x z s h ∙ rw e

-- n comes before all of t, also once m is in
one-first : (p : Profile) (n m : Name) (x y : Node) (t u : Forest) → Present x → cmp (key p m) (key p n) ≡ Ordering.gt
    → update_in p n x t ≡ add n x t → update_in p m y t ≡ u → update_in p n x u ≡ add n x u
    → update_in p n x (update_in p m y t) ≡ update_in p m y (update_in p n x t)
one-first p n m x y t u h e et eu en =
    ap (update_in p n x) eu ∙ en ∙ sym (ap (update_in p m y) et ∙ behind p n m x y h e t ∙ ap (add n x) eu)

-- n comes before k, and m does not
after-eq : (n m k : Name) → cmp n k ≡ Ordering.lt → cmp m k ≡ Ordering.eq → cmp m n ≡ Ordering.gt
after-eq n m k v w = rw (cmp-eq m k w) (cmp-flip n k ∙ ap flip v)

after-gt : (n m k : Name) → cmp n k ≡ Ordering.lt → cmp m k ≡ Ordering.gt → cmp m n ≡ Ordering.gt
after-gt n m k v w = cmp-flip n m ∙ ap flip (cmp-trans n k m v (cmp-flip m k ∙ ap flip w))

pub update_swap : (p : Profile) (n m : Name) (x y : Node) → Present x → Present y → Differ (key p m) (key p n) → (f : Forest)
    → update_in p n x (update_in p m y f) ≡ update_in p m y (update_in p n x f)
unfolding update_in
update_swap p n m x y hx hy d =
    siblings-ind (λ (f : Forest). update_in p n x (update_in p m y f) ≡ update_in p m y (update_in p n x f)) (in-front p n m x y hx hy d end refl refl) more
  where
    more : (k : Name) (z : Node) (s : Forest) → Present z → update_in p n x (update_in p m y s) ≡ update_in p m y (update_in p n x s)
        → update_in p n x (update_in p m y (add k z s)) ≡ update_in p m y (update_in p n x (add k z s))
    more k z s h ih = go (cmp (key p n) (key p k)) (cmp (key p m) (key p k)) refl refl
      where
        put_n : (z : Node) (s : Forest) → Present z → (w : Ordering) → cmp (key p n) (key p k) ≡ w
            → update_in p n x (add k z s) ≡ by_order w (add n x (add k z s)) (add k x s) (add k z (update_in p n x s))
        put_n z s h = by-order p n k x z s h

        put_m : (z : Node) (s : Forest) → Present z → (w : Ordering) → cmp (key p m) (key p k) ≡ w
            → update_in p m y (add k z s) ≡ by_order w (add m y (add k z s)) (add k y s) (add k z (update_in p m y s))
        put_m z s h = by-order p m k y z s h

        go : (v w : Ordering) → cmp (key p n) (key p k) ≡ v → cmp (key p m) (key p k) ≡ w
            → update_in p n x (update_in p m y (add k z s)) ≡ update_in p m y (update_in p n x (add k z s))
        go Ordering.lt Ordering.lt v w =
            ap (update_in p n x) (put_m z s h Ordering.lt w)
            ∙ in-front p n m x y hx hy d (add k z s) (put_n z s h Ordering.lt v) (put_m z s h Ordering.lt w)
            ∙ sym (ap (update_in p m y) (put_n z s h Ordering.lt v))
        go Ordering.lt Ordering.eq v w =
            one-first p n m x y (add k z s) _ hx (after-eq (key p n) (key p m) (key p k) v w) (put_n z s h Ordering.lt v) (put_m z s h Ordering.eq w) (put_n y s hy Ordering.lt v)
        go Ordering.lt Ordering.gt v w =
            one-first p n m x y (add k z s) _ hx (after-gt (key p n) (key p m) (key p k) v w) (put_n z s h Ordering.lt v) (put_m z s h Ordering.gt w)
            (put_n z (update_in p m y s) h Ordering.lt v)
        go Ordering.eq Ordering.lt v w =
            sym (one-first p m n y x (add k z s) _ hy (after-eq (key p m) (key p n) (key p k) w v) (put_m z s h Ordering.lt w) (put_n z s h Ordering.eq v) (put_m x s hx Ordering.lt w))
        go Ordering.eq Ordering.eq v w = absurd (d (rw (cmp-eq (key p m) (key p k) w, cmp-eq (key p n) (key p k) v) (cmp-refl (key p k))))
        go Ordering.eq Ordering.gt v w =
            ap (update_in p n x) (put_m z s h Ordering.gt w) ∙ put_n z (update_in p m y s) h Ordering.eq v
            ∙ sym (ap (update_in p m y) (put_n z s h Ordering.eq v) ∙ put_m x s hx Ordering.gt w)
        go Ordering.gt Ordering.lt v w =
            sym (one-first p m n y x (add k z s) _ hy (after-gt (key p m) (key p n) (key p k) w v) (put_m z s h Ordering.lt w) (put_n z s h Ordering.gt v)
            (put_m z (update_in p n x s) h Ordering.lt w))
        go Ordering.gt Ordering.eq v w =
            ap (update_in p n x) (put_m z s h Ordering.eq w) ∙ put_n y s hy Ordering.gt v
            ∙ sym (ap (update_in p m y) (put_n z s h Ordering.gt v) ∙ put_m z (update_in p n x s) h Ordering.eq w)
        go Ordering.gt Ordering.gt v w =
            ap (update_in p n x) (put_m z s h Ordering.gt w) ∙ put_n z (update_in p m y s) h Ordering.gt v
            ∙ ap (add k z) ih
            ∙ sym (ap (update_in p m y) (put_n z s h Ordering.gt v) ∙ put_m z (update_in p n x s) h Ordering.gt w)

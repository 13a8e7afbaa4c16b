-- The entries of one folder put among those of another, by key: what is found there, how many rows they are, and that of two
-- folders with no key in common either may come first.
use mathlib.Core.Path.{◌≡◌, refl, ap, sym, subst, ◌∙◌}
use mathlib.Core.List.{[], ◌∷◌}
use native.Mathlib.Omega.{arith}
use Prim.Native.Nat.{suc, ◌+◌, Ordering}
use Rattle.tree.specs.Name.{Name, cmp, by_order}
use Rattle.tree.specs.Forest.{Forest, Forest.end, Forest.leaf, Forest.dir, Node, Node.absent, Node.file, Node.folder, Present, Above, Sorted, at, find, size, add}
use Rattle.tree.specs.Put.{put, Reaches}
use Rattle.tree.specs.Key.{key, fold, fold_node, entry, update_in}
use Rattle.tree.specs.declared.Profile.{Profile}
use Rattle.tree.proofs.Never.{never}
use Rattle.tree.proofs.Order.{flip, cmp-flip}
use Rattle.tree.proofs.Forest.{Differ, siblings-ind, sorted-parts, find-above}
use Rattle.tree.proofs.Size.{row_count, size-add, size-put}
use Rattle.tree.proofs.Folds.{entry-fold, fold-absent, fold-add, present-fold, size-fold}
use Rattle.tree.proofs.Spots.{update_in-add, fold-update_in}
use Rattle.listing_layout.proofs.Siblings.{Compared, Compared.one, Compared.two, add-other, add_same, compared, entry_other, entry-same, sorted-update_in, update-over, update_swap}

rows-fold : (p : Profile) (x : Node) → row_count (fold_node p x) ≡ row_count x
rows-fold p absent = refl
rows-fold p (file c) = refl
rows-fold p (folder k) = ap suc (size-fold p k)

pub size-new : (p : Profile) (n : Name) (x : Node) (k : Forest) → Sorted (fold p k) → entry p (key p n) k ≡ absent → size (update_in p n x k) ≡ size k + row_count x
unfolding put at Reaches
size-new p n x k sk e =
    let gone : find (key p n) (fold p k) ≡ absent = sym (entry-fold p (key p n) k) ∙ ap (fold_node p) e in
    omega (arith, size-put (key p n ∷ []) (fold_node p x) (folder (fold p k)) sk tt, ap row_count gone, rows-fold p x, ap size (fold-update_in p n x k), size-fold p k, size-fold p (update_in p n x k))

-- the one, or else the other
abbrev pub or_else : Node → Node → Node
or_else absent y = y
or_else (file c) y = file c
or_else (folder k) y = folder k

pub or-there : (x y : Node) → Present x → or_else x y ≡ x
or-there absent y h = absurd h
or-there (file c) y h = refl
or-there (folder k) y h = refl

module _ (p : Profile) where
  -- the entries of k among those of j
  unfoldable pub merge : Forest → Forest → Forest
  merge j end = j
  merge j (leaf n c s) = update_in p n (file c) (merge j s)
  merge j (dir n k s) = update_in p n (folder k) (merge j s)

  merge-add : (j : Forest) (m : Name) (y : Node) (s : Forest) → Present y → merge j (add m y s) ≡ update_in p m y (merge j s)
  unfolding merge
  merge-add j m absent s h = absurd h
  merge-add j m (file c) s h = refl
  merge-add j m (folder k) s h = refl

  not_same : (n m : Name) → Differ (key p n) (key p m) → Differ (key p m) (key p n)
  not_same n m d e = d (cmp-flip (key p m) (key p n) ∙ ap flip e)

  pub merge-update : (j : Forest) (n : Name) (x : Node) → Present x → (k : Forest) → merge j (update_in p n x k) ≡ update_in p n x (merge j k)
  unfolding update_in merge
  merge-update j n x h = siblings-ind (λ (k : Forest). merge j (update_in p n x k) ≡ update_in p n x (merge j k)) (merge-add j n x end h) more
    where
      more : (m : Name) (y : Node) (s : Forest) → Present y → merge j (update_in p n x s) ≡ update_in p n x (merge j s)
          → merge j (update_in p n x (add m y s)) ≡ update_in p n x (merge j (add m y s))
      more m y s hy ih = rw (update_in-add p n m x y s hy) (go (cmp (key p n) (key p m)) refl)
        where
          go : (w : Ordering) → cmp (key p n) (key p m) ≡ w
              → merge j (by_order w (add n x (add m y s)) (add m x s) (add m y (update_in p n x s))) ≡ update_in p n x (merge j (add m y s))
          go Ordering.lt e = merge-add j n x (add m y s) h
          go Ordering.eq e = merge-add j m x s h ∙ sym (ap (update_in p n x) (merge-add j m y s hy) ∙ update-over p n m x y e hy (merge j s))
          go Ordering.gt e =
              merge-add j m y (update_in p n x s) hy ∙ ap (update_in p m y) ih
              ∙ sym (ap (update_in p n x) (merge-add j m y s hy) ∙ update_swap p n m x y h hy (not_same n m (λ z. never (cc))) (merge j s))

  pub entry-merge : (c : Name) (j k : Forest) → entry p c (merge j k) ≡ or_else (entry p c k) (entry p c j)
  unfolding entry merge
  entry-merge c j = siblings-ind (λ (k : Forest). entry p c (merge j k) ≡ or_else (entry p c k) (entry p c j)) refl more
    where
      more : (m : Name) (y : Node) (s : Forest) → Present y → entry p c (merge j s) ≡ or_else (entry p c s) (entry p c j)
          → entry p c (merge j (add m y s)) ≡ or_else (entry p c (add m y s)) (entry p c j)
      more m y s hy ih = rw (merge-add j m y s hy) (go (compared c (key p m)))
        where
          go : Compared c (key p m) → entry p c (update_in p m y (merge j s)) ≡ or_else (entry p c (add m y s)) (entry p c j)
          go (one e) = rw (e, entry-same p m y hy (merge j s), add_same p m y s hy, or-there y (entry p (key p m) j) hy)
          go (two d) = rw (entry_other p m c d y hy (merge j s), add-other p c m y s hy d) ih

  pub entry-there : (c : Name) (j k : Forest) → Present (entry p c k) → entry p c (merge j k) ≡ entry p c k
  entry-there c j k h = entry-merge c j k ∙ or-there (entry p c k) (entry p c j) h

  -- no key of k is one of j
  abbrev pub Apart : Forest → Forest → Type 0
  Apart j k = (c : Name) → Present (entry p c k) → entry p c j ≡ absent

  or-absent : (x y : Node) → or_else x y ≡ absent → (x ≡ absent) × (y ≡ absent)
  or-absent absent y e = (refl, e)
  or-absent (file c) y e = never (cc)
  or-absent (folder k) y e = never (cc)

  -- a key that is free in both is free once they are merged, and the other way round
  pub merge_free : (c : Name) (j k : Forest) → entry p c k ≡ absent → entry p c j ≡ absent → entry p c (merge j k) ≡ absent
  merge_free c j k e h = entry-merge c j k ∙ rw (e, h)

  pub free-both : (c : Name) (j k : Forest) → entry p c (merge j k) ≡ absent → (entry p c k ≡ absent) × (entry p c j ≡ absent)
  free-both c j k e = or-absent (entry p c k) (entry p c j) (sym (entry-merge c j k) ∙ e)

  pub sorted_merge : (j : Forest) → Sorted (fold p j) → (k : Forest) → Sorted (fold p k) → Sorted (fold p (merge j k))
  unfolding merge
  sorted_merge j sj = siblings-ind (λ (k : Forest). Sorted (fold p k) → Sorted (fold p (merge j k))) (λ sk. sj) more
    where
      more : (m : Name) (y : Node) (s : Forest) → Present y → (Sorted (fold p s) → Sorted (fold p (merge j s))) → Sorted (fold p (add m y s)) → Sorted (fold p (merge j (add m y s)))
      more m y s hy ih sk =
          let parts = sorted-parts (key p m) (fold_node p y) (fold p s) (present-fold p y hy) (rw (fold-add p m y s) at sk) in
          rw (merge-add j m y s hy) (sorted-update_in p m y parts.1 (merge j s) (ih parts.2))

  -- an entry more than s
  apart-rest : (j : Forest) (m : Name) (y : Node) (s : Forest) → Present y → Apart j (add m y s) → Apart j s
  apart-rest j m y s hy a c h = a c (go (compared c (key p m)))
    where
      go : Compared c (key p m) → Present (entry p c (add m y s))
      go (one e) = rw (e, add_same p m y s hy) hy
      go (two d) = rw (add-other p c m y s hy d) h

  apart-first : (j : Forest) (m : Name) (y : Node) (s : Forest) → Present y → Apart j (add m y s) → entry p (key p m) j ≡ absent
  apart-first j m y s hy a = a (key p m) (rw (add_same p m y s hy) hy)

  first-gone : (m : Name) (s : Forest) → Above (key p m) (fold p s) → entry p (key p m) s ≡ absent
  first-gone m s a = fold-absent p (entry p (key p m) s) (entry-fold p (key p m) s ∙ find-above (key p m) (fold p s) a)

  pub size-merge : (j : Forest) → Sorted (fold p j) → (k : Forest) → Sorted (fold p k) → Apart j k → size (merge j k) ≡ size j + size k
  unfolding merge size
  size-merge j sj = siblings-ind (λ (k : Forest). Sorted (fold p k) → Apart j k → size (merge j k) ≡ size j + size k) (λ sk a. omega arith) more
    where
      more : (m : Name) (y : Node) (s : Forest) → Present y → (Sorted (fold p s) → Apart j s → size (merge j s) ≡ size j + size s) → Sorted (fold p (add m y s)) → Apart j (add m y s)
          → size (merge j (add m y s)) ≡ size j + size (add m y s)
      more m y s hy ih sk a =
          let parts = sorted-parts (key p m) (fold_node p y) (fold p s) (present-fold p y hy) (rw (fold-add p m y s) at sk) in
          let free = merge_free (key p m) j s (first-gone m s parts.0) (apart-first j m y s hy a) in
          rw (merge-add j m y s hy)
          (omega (arith, size-new p m y (merge j s) (sorted_merge j sj s parts.2) free, ih parts.2 (apart-rest j m y s hy a), size-add m y s))

  -- an entry of another key, put in before or after
  merge-past : (j : Forest) (n : Name) (x : Node) → Present x → (k : Forest) → entry p (key p n) k ≡ absent → merge (update_in p n x j) k ≡ update_in p n x (merge j k)
  unfolding merge
  merge-past j n x h = siblings-ind (λ (k : Forest). entry p (key p n) k ≡ absent → merge (update_in p n x j) k ≡ update_in p n x (merge j k)) (λ e. refl) more
    where
      more : (m : Name) (y : Node) (s : Forest) → Present y → (entry p (key p n) s ≡ absent → merge (update_in p n x j) s ≡ update_in p n x (merge j s))
          → entry p (key p n) (add m y s) ≡ absent → merge (update_in p n x j) (add m y s) ≡ update_in p n x (merge j (add m y s))
      more m y s hy ih e = rw (merge-add (update_in p n x j) m y s hy, merge-add j m y s hy) (go (compared (key p n) (key p m)))
        where
          go : Compared (key p n) (key p m) → update_in p m y (merge (update_in p n x j) s) ≡ update_in p n x (update_in p m y (merge j s))
          go (one v) = absurd (subst Present (sym (add_same p m y s hy) ∙ rw v at e) hy)
          go (two d) = ap (update_in p m y) (ih (sym (add-other p (key p n) m y s hy d) ∙ e)) ∙ sym (update_swap p n m x y h hy (not_same n m d) (merge j s))

  pub merge-swap : (j l : Forest) → (k : Forest) → Apart l k → merge (merge j k) l ≡ merge (merge j l) k
  unfolding merge
  merge-swap j l = siblings-ind (λ (k : Forest). Apart l k → merge (merge j k) l ≡ merge (merge j l) k) (λ a. refl) more
    where
      more : (m : Name) (y : Node) (s : Forest) → Present y → (Apart l s → merge (merge j s) l ≡ merge (merge j l) s) → Apart l (add m y s)
          → merge (merge j (add m y s)) l ≡ merge (merge j l) (add m y s)
      more m y s hy ih a =
          rw (merge-add j m y s hy, merge-add (merge j l) m y s hy)
          (merge-past (merge j s) m y hy l (apart-first l m y s hy a) ∙ ap (update_in p m y) (ih (apart-rest l m y s hy a)))

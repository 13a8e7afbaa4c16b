-- A folder of a tree that is filled anew, the folder found by key: what stands there then and what stands there still, the tree's
-- size, fillings one after the other and one below the other.
use mathlib.Core.Path.{◌≡◌, refl, ap, sym, ◌∙◌}
use mathlib.Core.List.{[], ◌∷◌, ◌++◌}
use native.Mathlib.Omega.{arith}
use Prim.Native.Nat.{◌+◌}
use Rattle.tree.specs.Name.{Name}
use Rattle.tree.specs.Forest.{Forest, Node, Node.absent, Node.file, Node.folder, TreePath, Present, Sorted, SortedNode, at, find, kids, size}
use Rattle.tree.specs.Put.{put, Reaches}
use Rattle.tree.specs.Key.{key, fold, fold_node, fold_path, entry, put_in, update_in}
use Rattle.tree.specs.declared.Profile.{Profile}
use Rattle.tree.proofs.Never.{never}
use Rattle.tree.proofs.Order.{cmp-refl}
use Rattle.tree.proofs.Forest.{sorted-at, sorted-find}
use Rattle.tree.proofs.Put.{sorted-put}
use Rattle.tree.proofs.Size.{size-put, row_count}
use Rattle.tree.proofs.Folds.{entry-fold, reach, reach-absent, reach-fold, size-fold}
use Rattle.tree.proofs.Spots.{fold-put_in, path-append}
use Rattle.listing.specs.Reading.{at_key}
use Rattle.listing.proofs.Parent.{parent-last}
use Rattle.listing_layout.proofs.Siblings.{Compared, Compared.one, Compared.two, compared, entry_other, entry-same, update-over, update-entry}

-- what is put where a folder stands
module _ (p : Profile) where
  no-folder : {P : Type 0} (q : TreePath) (k : Forest) → reach p absent q ≡ folder k → P
  no-folder q k e = let z = reach-absent p q in never (cc)

  pub put-present : (q : TreePath) (x t : Node) (k : Forest) → Present x → reach p t (fold_path p q) ≡ folder k → Present (put_in p q x t)
  unfolding put_in reach entry
  put-present [] x t k h e = h
  put-present (n ∷ q) x absent k h e = no-folder (fold_path p q) k e
  put-present (n ∷ q) x (file c) k h e = no-folder (fold_path p q) k e
  put-present (n ∷ q) x (folder f) k h e = tt

  put-here : (q : TreePath) (x t : Node) (k : Forest) → Present x → reach p t (fold_path p q) ≡ folder k → reach p (put_in p q x t) (fold_path p q) ≡ x
  unfolding put_in reach entry
  put-here [] x t k h e = refl
  put-here (n ∷ q) x absent k h e = no-folder (fold_path p q) k e
  put-here (n ∷ q) x (file c) k h e = no-folder (fold_path p q) k e
  put-here (n ∷ q) x (folder f) k h e =
      let z = entry p (key p n) f in
      ap (λ (y : Node). reach p y (fold_path p q)) (entry-same p n (put_in p q x z) (put-present q x z k h e) f) ∙ put-here q x z k h e

  put-twice : (q : TreePath) (x y t : Node) (k : Forest) → Present y → reach p t (fold_path p q) ≡ folder k → put_in p q x (put_in p q y t) ≡ put_in p q x t
  unfolding put_in reach entry
  put-twice [] x y t k h e = refl
  put-twice (n ∷ q) x y absent k h e = refl
  put-twice (n ∷ q) x y (file c) k h e = refl
  put-twice (n ∷ q) x y (folder f) k h e =
      let z = entry p (key p n) f in
      let there = put-present q y z k h e in
      rw (entry-same p n (put_in p q y z) there f, put-twice q x y z k h e) (ap folder (update-over p n n (put_in p q x z) (put_in p q y z) (cmp-refl (key p n)) there f))

  put-below : (q r : TreePath) (x t : Node) (k : Forest) → reach p t (fold_path p q) ≡ folder k → put_in p (q ++ r) x t ≡ put_in p q (put_in p r x (folder k)) t
  unfolding put_in reach
  put-below [] r x t k e = rw e
  put-below (m ∷ q) r x absent k e = refl
  put-below (m ∷ q) r x (file c) k e = refl
  put-below (m ∷ q) r x (folder f) k e = ap (λ (z : Node). folder (update_in p m z f)) (put-below q r x (entry p (key p m) f) k e)

  put_keeps : (q : TreePath) (x t : Node) (k : Forest) → Present x → reach p t (fold_path p q) ≡ folder k → ((c : TreePath) → Present (reach p (folder k) c) → Present (reach p x c))
      → (c : TreePath) → Present (reach p t c) → Present (reach p (put_in p q x t) c)
  unfolding put_in reach
  put_keeps [] x t k h e more c there = more c (rw e at there)
  put_keeps (n ∷ q) x absent k h e more c there = there
  put_keeps (n ∷ q) x (file b) k h e more c there = there
  put_keeps (n ∷ q) x (folder f) k h e more [] there = tt
  put_keeps (n ∷ q) x (folder f) k h e more (m ∷ c) there = go (compared m (key p n)) (put_keeps q x (entry p (key p n) f) k h e more c)
    where
      new : Present (put_in p q x (entry p (key p n) f))
      new = put-present q x (entry p (key p n) f) k h e

      go : Compared m (key p n) → (Present (reach p (entry p (key p n) f) c) → Present (reach p (put_in p q x (entry p (key p n) f)) c))
          → Present (reach p (entry p m (update_in p n (put_in p q x (entry p (key p n) f)) f)) c)
      go (one v) ih = rw (v, entry-same p n _ new f) (ih (rw v at there))
      go (two d) ih = rw (entry_other p n m d _ new f) there

  -- what stands there already, put there
  put-at : (q : TreePath) (t : Node) → SortedNode (fold_node p t) → put_in p q (reach p t (fold_path p q)) t ≡ t
  unfolding put_in reach
  put-at [] t h = refl
  put-at (n ∷ q) absent h = refl
  put-at (n ∷ q) (file c) h = refl
  put-at (n ∷ q) (folder f) h =
      let z = entry p (key p n) f in
      let sz : SortedNode (fold_node p z) = rw (entry-fold p (key p n) f) (sorted-find (key p n) (fold p f) h) in
      ap folder (rw (put-at q z sz) (update-entry p n f h))

pub reach-append : (p : Profile) (q r : TreePath) (t : Node) → reach p t (q ++ r) ≡ reach p (reach p t q) r
unfolding reach
reach-append p [] r t = refl
reach-append p (m ∷ q) r t = reach-append p q r (entry p m (kids t))

at-append : (q r : TreePath) (t : Node) → at t (q ++ r) ≡ at (at t q) r
unfolding at
at-append [] r t = refl
at-append (m ∷ q) r t = at-append q r (find m (kids t))

parent-front : (q : TreePath) (n : Name) (t : Node) → Reaches (q ++ (n ∷ [])) t → Reaches q t
unfolding Reaches
parent-front [] n t h = tt
parent-front (m ∷ q) n absent h = h
parent-front (m ∷ q) n (file c) h = h
parent-front (m ∷ q) n (folder f) h = parent-front q n (find m f) h

-- the tree f, with the entries k in its folder at q
abbrev pub fill : Profile → TreePath → Forest → Forest → Forest
fill p q k f = kids (put_in p q (folder k) (folder f))

folder-fill : (p : Profile) (q : TreePath) (k f : Forest) → folder (fill p q k f) ≡ put_in p q (folder k) (folder f)
unfolding put_in
folder-fill p [] k f = refl
folder-fill p (n ∷ q) k f = refl

fold-fill : (p : Profile) (q : TreePath) (k f : Forest) → folder (fold p (fill p q k f)) ≡ put (fold_path p q) (folder (fold p k)) (folder (fold p f))
fold-fill p q k f = ap (fold_node p) (folder-fill p q k f) ∙ fold-put_in p q (folder k) (folder f)

-- the folder at q has the entries k
pub record Has (p : Profile) (q : TreePath) (k f : Forest) : Type 0 where
  pub sorted : Sorted (fold p f)
  pub here : reach p (folder f) (fold_path p q) ≡ folder k

module _ {p : Profile} {q : TreePath} {k f : Forest} (h : Has p q k f) where
  here-key : at_key p f q ≡ folder (fold p k)
  here-key = sym (reach-fold p (fold_path p q) (folder f)) ∙ ap (fold_node p) h.here

  pub has-sorted : Sorted (fold p k)
  has-sorted = rw here-key at (sorted-at (fold_path p q) (folder (fold p f)) h.sorted)

  has-parent : Reaches (fold_path p q) (folder (fold p f))
  has-parent = parent-front (fold_path p q) [] (folder (fold p f)) (parent-last (fold_path p q) [] (folder (fold p f)) (rw here-key tt))

  pub fill-has : (j : Forest) → Sorted (fold p j) → Has p q j (fill p q j f)
  fill-has j sj =
      record {
        sorted = rw (← fold-fill p q j f) at (sorted-put (fold_path p q) (folder (fold p j)) (folder (fold p f)) sj h.sorted);
        here = rw (folder-fill p q j f) (put-here p q (folder j) (folder f) k tt h.here);
      }

  pub fill-fill : (i j : Forest) → fill p q j (fill p q i f) ≡ fill p q j f
  fill-fill i j =
      let e : put_in p q (folder j) (folder (fill p q i f)) ≡ put_in p q (folder j) (folder f) = rw (folder-fill p q i f) (put-twice p q (folder j) (folder i) (folder f) k tt h.here) in
      ap kids e

  pub fill-same : fill p q k f ≡ f
  fill-same = ap kids (rw h.here at (put-at p q (folder f) h.sorted))

  pub fill-last : (n : Name) (x : Node) → kids (put_in p (q ++ (n ∷ [])) x (folder f)) ≡ fill p q (update_in p n x k) f
  unfolding put_in
  fill-last n x = ap kids (put-below p q (n ∷ []) x (folder f) k h.here)

  pub has-entry : (n : Name) → at_key p f (q ++ (n ∷ [])) ≡ find (key p n) (fold p k)
  unfolding at
  has-entry n =
      ap (at (folder (fold p f))) (path-append p q (n ∷ [])) ∙ at-append (fold_path p q) (key p n ∷ []) (folder (fold p f)) ∙ rw here-key

  pub size-fill : (j : Forest) → size (fill p q j f) + size k ≡ size f + size j
  size-fill j =
      let e = size-put (fold_path p q) (folder (fold p j)) (folder (fold p f)) h.sorted has-parent in
      omega (arith, ap row_count (fold-fill p q j f), ap row_count here-key, size-fold p f, size-fold p j, size-fold p k, size-fold p (fill p q j f))

  pub fill-below : (r : TreePath) (j : Forest) → fill p (q ++ r) j f ≡ fill p q (fill p r j k) f
  fill-below r j =
      let e : put_in p (q ++ r) (folder j) (folder f) ≡ put_in p q (folder (fill p r j k)) (folder f) = rw (folder-fill p r j k) (put-below p q r (folder j) (folder f) k h.here) in
      ap kids e

  -- a folder further down
  pub has-below : {r : TreePath} {j : Forest} → Has p r j k → Has p (q ++ r) j f
  has-below {r} {j} g =
      record { sorted = h.sorted; here = rw (path-append p q r, reach-append p (fold_path p q) (fold_path p r) (folder f), h.here) g.here }

  -- whatever more it holds, what stood in the tree stands there still
  pub fill-keeps : (j : Forest) → ((c : TreePath) → Present (reach p (folder k) c) → Present (reach p (folder j) c)) → (c : TreePath) → Present (reach p (folder f) c)
      → Present (reach p (folder (fill p q j f)) c)
  fill-keeps j more c there = rw (folder-fill p q j f) (put_keeps p q (folder j) (folder f) k tt h.here more c there)

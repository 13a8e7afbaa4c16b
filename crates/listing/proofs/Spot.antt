-- The tree as it stands while a listing sorted by key is read: each open folder is the last entry of the folder that holds it.
use mathlib.Core.List.{List, [], ◌++◌, ◌∷◌}
use mathlib.Core.Path.{◌∙◌, ◌≡◌, ap, refl, sym}
use native.Mathlib.Omega.{arith}
use Prim.Native.Nat.{Ordering}
use Prim.Native.Nat.{ℕ, ◌+◌}
use Rattle.tree.specs.Name.{Name, cmp}
use Rattle.tree.specs.Forest.{Above, Forest, Forest.dir, Forest.end, Forest.leaf, Node, Node.folder, Sorted, TreePath, at, size}
use Rattle.tree.specs.Key.{entry, fold, fold_node, fold_path, key, put_in, update_in}
use Rattle.tree.specs.declared.Profile.{Profile}
use Rattle.tree.proofs.Order.{cmp-flip, cmp-refl, flip}
use Rattle.tree.proofs.Folds.{entry-fold}
use Rattle.listing.specs.Reading.{at_key}

-- the entries of the one, then those of the other
abbrev pub join : Forest → Forest → Forest
join end g = g
join (leaf n c s) g = leaf n c (join s g)
join (dir n k s) g = dir n k (join s g)

pub join-assoc : (f g h : Forest) → join (join f g) h ≡ join f (join g h)
join-assoc end g h = refl
join-assoc (leaf n c s) g h = ap (leaf n c) (join-assoc s g h)
join-assoc (dir n k s) g h = ap (dir n k) (join-assoc s g h)

pub join-end : (f : Forest) → join f end ≡ f
join-end end = refl
join-end (leaf n c s) = ap (leaf n c) (join-end s)
join-end (dir n k s) = ap (dir n k) (join-end s)

pub size-join : (f g : Forest) → size (join f g) ≡ size f + size g
unfolding size
size-join end g = omega arith
size-join (leaf n c s) g = omega (arith, size-join s g)
size-join (dir n k s) g = omega (arith, size-join s g)

-- names at the front of what comes after
pub data Leads (n : Name) : Forest → Type 0 where
  a-leaf : {c : List ℕ} {s : Forest} → Leads n (leaf n c s)
  a-dir : {k s : Forest} → Leads n (dir n k s)

module _ (p : Profile) where
  -- every entry comes before n by key
  unfoldable pub Below : Name → Forest → Type 0
  Below n end = Unit {0}
  Below n (leaf m c s) = (cmp (key p m) (key p n) ≡ Ordering.lt) × Below n s
  Below n (dir m k s) = (cmp (key p m) (key p n) ≡ Ordering.lt) × Below n s

  above_lead : (m n : Name) (f : Forest) {g : Forest} → Leads n g → Above m (fold p (join f g)) → cmp m (key p n) ≡ Ordering.lt
  unfolding Above fold
  above_lead m n end a-leaf h = h.0
  above_lead m n end a-dir h = h.0
  above_lead m n (leaf k c s) l h = above_lead m n s l h.1
  above_lead m n (dir k j s) l h = above_lead m n s l h.1

  pub sorted-below : (n : Name) (f : Forest) {g : Forest} → Leads n g → Sorted (fold p (join f g)) → Below n f
  unfolding Below Sorted fold
  sorted-below n end l h = tt
  sorted-below n (leaf m c s) l h = (above_lead (key p m) n s l h.0, sorted-below n s l h.1)
  sorted-below n (dir m k s) l h = (above_lead (key p m) n s l h.0, sorted-below n s l h.2)

  pub sorted_rest : (f g : Forest) → Sorted (fold p (join f g)) → Sorted (fold p g)
  unfolding Sorted fold
  sorted_rest end g h = h
  sorted_rest (leaf m c s) g h = sorted_rest s g h.1
  sorted_rest (dir m k s) g h = sorted_rest s g h.2

module _ (p : Profile) (n : Name) where
  after : (m : Name) → cmp (key p m) (key p n) ≡ Ordering.lt → cmp (key p n) (key p m) ≡ Ordering.gt
  after m e = cmp-flip (key p m) (key p n) ∙ ap flip e

  pub entry-join : (f g : Forest) → Below p n f → entry p (key p n) (join f g) ≡ entry p (key p n) g
  unfolding Below entry
  entry-join end g h = refl
  entry-join (leaf m c s) g h = rw (after m h.0) (entry-join s g h.1)
  entry-join (dir m k s) g h = rw (after m h.0) (entry-join s g h.1)

  pub update-join : (x : Node) (f g : Forest) → Below p n f → update_in p n x (join f g) ≡ join f (update_in p n x g)
  unfolding Below update_in
  update-join x end g h = refl
  update-join x (leaf m c s) g h = rw (after m h.0) (ap (leaf m c) (update-join x s g h.1))
  update-join x (dir m k s) g h = rw (after m h.0) (ap (dir m k) (update-join x s g h.1))

-- an open folder: its earlier siblings, and its name
pub record Open : Type 0 where
  pub earlier : Forest
  pub name : Name

abbrev pub names : List Open → TreePath
names [] = []
names (o ∷ os) = o.name ∷ names os

-- the tree, by the open folders and the entries of the one last opened
abbrev pub plug : List Open → Forest → Forest
plug [] f = f
plug (o ∷ os) f = join o.earlier (dir o.name (plug os f) end)

module _ (p : Profile) where
  unfoldable pub Fits : List Open → Type 0
  Fits [] = Unit {0}
  Fits (o ∷ os) = Below p o.name o.earlier × Fits os

  entry-open : (o : Open) (k : Forest) → Below p o.name o.earlier
      → entry p (key p o.name) (join o.earlier (dir o.name k end)) ≡ folder k
  unfolding entry
  entry-open o k h = entry-join p o.name o.earlier (dir o.name k end) h ∙ rw (cmp-refl (key p o.name))

  update-open : (o : Open) (k j : Forest) → Below p o.name o.earlier
      → update_in p o.name (folder j) (join o.earlier (dir o.name k end)) ≡ join o.earlier (dir o.name j end)
  unfolding update_in
  update-open o k j h = update-join p o.name (folder j) o.earlier (dir o.name k end) h ∙ rw (cmp-refl (key p o.name))

  pub at-plug : (os : List Open) (f : Forest) (q : TreePath) → Fits os → at_key p (plug os f) (names os ++ q) ≡ at_key p f q
  unfolding Fits at
  at-plug [] f q h = refl
  at-plug (o ∷ os) f q h =
      ap (λ (x : Node). at x (fold_path p (names os ++ q))) (sym (entry-fold p (key p o.name) _) ∙ ap (fold_node p) (entry-open o (plug os f) h.0))
      ∙ at-plug os f q h.1

  pub put-plug : (os : List Open) (f : Forest) (n : Name) (x : Node) → Fits os
      → put_in p (names os ++ (n ∷ [])) x (folder (plug os f)) ≡ folder (plug os (update_in p n x f))
  unfolding Fits put_in
  put-plug [] f n x h = refl
  put-plug (o ∷ os) f n x h =
      rw (entry-open o (plug os f) h.0, put-plug os f n x h.1, update-open o (plug os f) (plug os (update_in p n x f)) h.0)

  pub fits_more : (os : List Open) (o : Open) → Fits os → Below p o.name o.earlier → Fits (os ++ (o ∷ []))
  unfolding Fits
  fits_more [] o h b = (b, tt)
  fits_more (u ∷ os) o h b = (h.0, fits_more os o h.1 b)

pub size-plug : (os : List Open) (f g : Forest) → size (plug os (join f g)) ≡ size (plug os f) + size g
unfolding size
size-plug [] f g = size-join f g
size-plug (o ∷ os) f g =
    omega (arith, size-plug os f g, size-join o.earlier (dir o.name (plug os (join f g)) end), size-join o.earlier (dir o.name (plug os f) end))

-- one folder more is opened
pub names_more : (os : List Open) (o : Open) → names (os ++ (o ∷ [])) ≡ names os ++ (o.name ∷ [])
names_more [] o = refl
names_more (u ∷ os) o = ap (λ (l : TreePath). u.name ∷ l) (names_more os o)

pub plug-more : (os : List Open) (o : Open) (f : Forest) → plug (os ++ (o ∷ [])) f ≡ plug os (join o.earlier (dir o.name f end))
plug-more [] o f = refl
plug-more (u ∷ os) o f = ap (λ (g : Forest). join u.earlier (dir u.name g end)) (plug-more os o f)

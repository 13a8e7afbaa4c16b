-- Putting a node at a path by key: after folding it is putting it there by name, and where every byte counts it is that itself.
use mathlib.Core.Path.{◌≡◌, refl, ap, ◌∙◌}
use mathlib.Core.List.{[], ◌∷◌, ◌++◌}
use Prim.Native.Nat.{ℕ, suc, Ordering}
use Rattle.tree.specs.Name.{Name, cmp, by_order}
use Rattle.tree.specs.Forest.{Content, TreePath, Forest, Forest.end, Forest.leaf, Forest.dir, Node, Node.absent, Node.file, Node.folder, Present, find, kids, add}
use Rattle.tree.specs.Put.{update, put}
use Rattle.tree.specs.Rules.{AllNames, Within}
use Rattle.tree.specs.Key.{key, fold, fold_node, fold_path, entry, update_in, put_in}
use Rattle.tree.specs.declared.Profile.{Profile}
use Rattle.tree.specs.declared.Profile.TheVariants.{Exact}
use Rattle.tree.proofs.Order.{cmp-eq}
use Rattle.tree.proofs.Forest.{siblings-ind}
use Rattle.tree.proofs.Put.{update-add}
use Rattle.tree.proofs.Rules.{WithinNode, under, within-add, within-parts}
use Rattle.tree.proofs.Folds.{entry-fold, fold-add, fold-kids, present-fold, within-entry}

module _ (p : Profile) where
  pub update_in-add : (n m : Name) (x y : Node) (s : Forest) → Present y
      → update_in p n x (add m y s) ≡ by_order (cmp (key p n) (key p m)) (add n x (add m y s)) (add m x s) (add m y (update_in p n x s))
  unfolding update_in
  update_in-add n m x absent s h = absurd h
  update_in-add n m x (file c) s h = refl
  update_in-add n m x (folder k) s h = refl

  pub fold-update_in : (n : Name) (x : Node) (f : Forest) → fold p (update_in p n x f) ≡ update (key p n) (fold_node p x) (fold p f)
  unfolding update_in update fold
  fold-update_in n x = siblings-ind (λ (f : Forest). fold p (update_in p n x f) ≡ update (key p n) (fold_node p x) (fold p f)) (fold-add p n x end) more
    where
      more : (m : Name) (y : Node) (s : Forest) → Present y → fold p (update_in p n x s) ≡ update (key p n) (fold_node p x) (fold p s)
          → fold p (update_in p n x (add m y s)) ≡ update (key p n) (fold_node p x) (fold p (add m y s))
      more m y s h ih =
          rw (update_in-add n m x y s h, fold-add p m y s, update-add (key p n) (key p m) (fold_node p x) (fold_node p y) (fold p s) (present-fold p y h))
          (go (cmp (key p n) (key p m)) refl)
        where
          go : (w : Ordering) → cmp (key p n) (key p m) ≡ w
              → fold p (by_order w (add n x (add m y s)) (add m x s) (add m y (update_in p n x s)))
              ≡ by_order w (add (key p n) (fold_node p x) (add (key p m) (fold_node p y) (fold p s))) (add (key p n) (fold_node p x) (fold p s))
              (add (key p m) (fold_node p y) (update (key p n) (fold_node p x) (fold p s)))
          go Ordering.lt e = rw (fold-add p n x (add m y s), fold-add p m y s)
          go Ordering.eq e = rw (fold-add p m x s, cmp-eq (key p n) (key p m) e)
          go Ordering.gt e = rw (fold-add p m y (update_in p n x s), ih)

  pub fold-put_in : (q : TreePath) (x t : Node) → fold_node p (put_in p q x t) ≡ put (fold_path p q) (fold_node p x) (fold_node p t)
  unfolding put_in put
  fold-put_in [] x t = refl
  fold-put_in (n ∷ q) x absent = refl
  fold-put_in (n ∷ q) x (file c) = refl
  fold-put_in (n ∷ q) x (folder f) =
      ap folder (fold-update_in n (put_in p q x (entry p (key p n) f)) f
      ∙ rw (fold-put_in q x (entry p (key p n) f), entry-fold p (key p n) f))

  pub path-append : (q r : TreePath) → fold_path p (q ++ r) ≡ fold_path p q ++ fold_path p r
  path-append [] r = refl
  path-append (n ∷ q) r = ap (λ (x : TreePath). key p n ∷ x) (path-append q r)

  -- what is put below a folder leaves it a folder
  pub put_in-folder : (q : TreePath) (n : Name) (x : Node) (f : Forest) → folder (kids (put_in p (q ++ (n ∷ [])) x (folder f))) ≡ put_in p (q ++ (n ∷ [])) x (folder f)
  unfolding put_in
  put_in-folder [] n x f = refl
  put_in-folder (m ∷ q) n x f = refl

  pub fold-put-last : (q : TreePath) (n : Name) (x : Node) (f : Forest)
      → fold p (kids (put_in p (q ++ (n ∷ [])) x (folder f))) ≡ kids (put (fold_path p (q ++ (n ∷ []))) (fold_node p x) (folder (fold p f)))
  fold-put-last q n x f = fold-kids p (put_in p (q ++ (n ∷ [])) x (folder f)) ∙ ap kids (fold-put_in (q ++ (n ∷ [])) x (folder f))

-- the rules for names, contents and depth
module _ (p : Profile) (P : Name → Type 0) (Q : Content → Type 0) where
  within-update_in : (d : ℕ) (n : Name) (x : Node) → P n → WithinNode P Q d x → (f : Forest) → Within P Q (suc d) f
      → Within P Q (suc d) (update_in p n x f)
  unfolding update_in
  within-update_in d n x pn wx = siblings-ind (λ (f : Forest). Within P Q (suc d) f → Within P Q (suc d) (update_in p n x f))
      (λ w. within-add P Q d n x end pn wx w) more
    where
      more : (m : Name) (y : Node) (s : Forest) → Present y → (Within P Q (suc d) s → Within P Q (suc d) (update_in p n x s))
          → Within P Q (suc d) (add m y s) → Within P Q (suc d) (update_in p n x (add m y s))
      more m y s h ih w = rw (update_in-add p n m x y s h) (go (cmp (key p n) (key p m)) (within-parts P Q d m y s h w))
        where
          go : (o : Ordering) → P m × WithinNode P Q d y × Within P Q (suc d) s
              → Within P Q (suc d) (by_order o (add n x (add m y s)) (add m x s) (add m y (update_in p n x s)))
          go Ordering.lt q = within-add P Q d n x (add m y s) pn wx w
          go Ordering.eq q = within-add P Q d m x s q.0 wx q.2
          go Ordering.gt q = within-add P Q d m y (update_in p n x s) q.0 q.1 (ih q.2)

  pub within-put_in : (k : ℕ) (q : TreePath) (x t : Node) → AllNames P q → WithinNode P Q k x → WithinNode P Q (under q k) t
      → WithinNode P Q (under q k) (put_in p q x t)
  unfolding put_in AllNames under
  within-put_in k [] x t h wx wt = wx
  within-put_in k (n ∷ q) x absent h wx wt = tt
  within-put_in k (n ∷ q) x (file c) h wx wt = wt
  within-put_in k (n ∷ q) x (folder f) h wx wt =
      within-update_in (under q k) n (put_in p q x (entry p (key p n) f)) h.0
      (within-put_in k q x (entry p (key p n) f) h.1 wx (within-entry p P Q (under q k) (key p n) f wt)) f wt

-- where every byte counts
entry-exact : (n : Name) (f : Forest) → entry Exact n f ≡ find n f
unfolding entry find key
entry-exact n end = refl
entry-exact n (leaf m c s) = rw (entry-exact n s)
entry-exact n (dir m k s) = rw (entry-exact n s)

update-exact : (n : Name) (x : Node) (f : Forest) → update_in Exact n x f ≡ update n x f
unfolding update_in update key
update-exact n x = siblings-ind (λ (f : Forest). update_in Exact n x f ≡ update n x f) refl more
  where
    more : (m : Name) (y : Node) (s : Forest) → Present y → update_in Exact n x s ≡ update n x s → update_in Exact n x (add m y s) ≡ update n x (add m y s)
    more m y s h ih = update_in-add Exact n m x y s h ∙ rw (update-add n m x y s h) (go (cmp n m) refl)
      where
        go : (w : Ordering) → cmp n m ≡ w
            → by_order w (add n x (add m y s)) (add m x s) (add m y (update_in Exact n x s)) ≡ by_order w (add n x (add m y s)) (add n x s) (add m y (update n x s))
        go Ordering.lt e = refl
        go Ordering.eq e = rw (cmp-eq n m e)
        go Ordering.gt e = rw ih

pub put-exact : (q : TreePath) (x t : Node) → put_in Exact q x t ≡ put q x t
unfolding put_in put key
put-exact [] x t = refl
put-exact (n ∷ q) x absent = refl
put-exact (n ∷ q) x (file c) = refl
put-exact (n ∷ q) x (folder f) = ap folder (rw (entry-exact n f, put-exact q x (find n f)) (update-exact n (put q x (find n f)) f))

-- The rules for names, contents and depth, kept by finding, adding and putting.
use mathlib.Core.Path.{◌≡◌, refl}
use mathlib.Core.List.{List, [], ◌∷◌}
use native.Mathlib.Omega.{arith}
use lib.ListN.{length}
use Prim.Native.Nat.{ℕ, suc, ◌+◌, ◌*◌, Ordering}
use Rattle.tree.specs.Name.{Name, cmp, if_same, by_order}
use Rattle.tree.specs.Forest.{Content, TreePath, Forest, Forest.end, Node, Node.absent, Node.file, Node.folder, find, kids, at, add, Present}
use Rattle.tree.specs.Put.{update, put}
use Rattle.tree.specs.Rules.{Within, AllNames, bytes}
use Rattle.tree.proofs.Forest.{siblings-ind, find-add}
use Rattle.tree.proofs.Put.{update-add}

-- k levels under a path
unfoldable pub under : TreePath → ℕ → ℕ
under [] k = k
under (n ∷ p) k = suc (under p k)

pub under-length : (p : TreePath) (k : ℕ) → under p k ≡ length p + k
unfolding under
under-length [] k = omega arith
under-length (n ∷ p) k = let e = under-length p k in omega arith

pub length-bytes : (w : List ℕ) → length (bytes w) ≡ 4 * length w
unfolding bytes
length-bytes [] = refl
length-bytes (x ∷ xs) = omega (arith, length-bytes xs)

-- the rules of what stands at one place
abbrev pub WithinNode : (Name → Type 0) → (Content → Type 0) → ℕ → Node → Type 0
WithinNode P Q d absent = Unit {0}
WithinNode P Q d (file c) = Q c
WithinNode P Q d (folder k) = Within P Q d k

module _ (P : Name → Type 0) (Q : Content → Type 0) where
  pub within-parts : (d : ℕ) (m : Name) (y : Node) (s : Forest) → Present y → Within P Q (suc d) (add m y s)
      → P m × WithinNode P Q d y × Within P Q (suc d) s
  unfolding Within
  within-parts d m absent s h w = absurd h
  within-parts d m (file c) s h w = w
  within-parts d m (folder k) s h w = w

  pub within-add : (d : ℕ) (n : Name) (x : Node) (s : Forest) → P n → WithinNode P Q d x → Within P Q (suc d) s → Within P Q (suc d) (add n x s)
  unfolding Within
  within-add d n absent s h w v = v
  within-add d n (file c) s h w v = (h, w, v)
  within-add d n (folder k) s h w v = (h, w, v)

  pub within-find : (d : ℕ) (n : Name) (f : Forest) → Within P Q (suc d) f → WithinNode P Q d (find n f)
  unfolding find
  within-find d n = siblings-ind (λ (f : Forest). Within P Q (suc d) f → WithinNode P Q d (find n f)) (λ w. tt) more
    where
      more : (m : Name) (y : Node) (s : Forest) → Present y → (Within P Q (suc d) s → WithinNode P Q d (find n s))
          → Within P Q (suc d) (add m y s) → WithinNode P Q d (find n (add m y s))
      more m y s h ih w = let p = within-parts d m y s h w in rw (find-add n m y s h) (go (cmp n m) p.1 (ih p.2))
        where
          go : (o : Ordering) → WithinNode P Q d y → WithinNode P Q d (find n s) → WithinNode P Q d (if_same o y (find n s))
          go Ordering.lt a b = b
          go Ordering.eq a b = a
          go Ordering.gt a b = b

  pub within-kids : (d : ℕ) (x : Node) → WithinNode P Q d x → Within P Q d (kids x)
  unfolding Within
  within-kids d absent w = tt
  within-kids d (file c) w = tt
  within-kids d (folder k) w = w

  pub within-update : (d : ℕ) (n : Name) (x : Node) → P n → WithinNode P Q d x → (f : Forest) → Within P Q (suc d) f
      → Within P Q (suc d) (update n x f)
  unfolding update
  within-update d n x pn wx = siblings-ind (λ (f : Forest). Within P Q (suc d) f → Within P Q (suc d) (update n x f))
      (λ w. within-add d n x end pn wx w) more
    where
      more : (m : Name) (y : Node) (s : Forest) → Present y → (Within P Q (suc d) s → Within P Q (suc d) (update n x s))
          → Within P Q (suc d) (add m y s) → Within P Q (suc d) (update n x (add m y s))
      more m y s h ih w = rw (update-add n m x y s h) (go (cmp n m) (within-parts d m y s h w))
        where
          go : (o : Ordering) → P m × WithinNode P Q d y × Within P Q (suc d) s
              → Within P Q (suc d) (by_order o (add n x (add m y s)) (add n x s) (add m y (update n x s)))
          go Ordering.lt p = within-add d n x (add m y s) pn wx w
          go Ordering.eq p = within-add d n x s pn wx p.2
          go Ordering.gt p = within-add d m y (update n x s) p.0 p.1 (ih p.2)

  pub within-at : (k : ℕ) (p : TreePath) (t : Node) → WithinNode P Q (under p k) t → WithinNode P Q k (at t p)
  unfolding at under
  within-at k [] t w = w
  within-at k (n ∷ p) t w = within-at k p (find n (kids t)) (within-find (under p k) n (kids t) (within-kids (suc (under p k)) t w))

  pub within-put : (k : ℕ) (p : TreePath) (x t : Node) → AllNames P p → WithinNode P Q k x → WithinNode P Q (under p k) t
      → WithinNode P Q (under p k) (put p x t)
  unfolding put AllNames under
  within-put k [] x t h wx wt = wx
  within-put k (n ∷ p) x absent h wx wt = tt
  within-put k (n ∷ p) x (file c) h wx wt = wt
  within-put k (n ∷ p) x (folder f) h wx wt =
      within-update (under p k) n (put p x (find n f)) h.0 (within-put k p x (find n f) h.1 wx (within-find (under p k) n f wt)) f wt

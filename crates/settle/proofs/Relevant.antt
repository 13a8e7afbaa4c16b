-- Relevant paths, one name at a time from the root.
use mathlib.Core.Bool.{Bool, true, false}
use mathlib.Core.List.{[], ◌++◌, ◌∷◌}
use mathlib.Core.Logic.{inl, inr}
use mathlib.Core.Path.{◌∙◌, ◌≡◌, ap, refl, sym}
use Rattle.tree.specs.Forest.{Node, Node.absent, Node.file, Node.folder, SortedNode, TreePath, at, find}
use Rattle.tree.specs.Name.{Name}
use Rattle.tree.specs.Same.{same_node}
use Rattle.tree.specs.Value.{PathMap, Value, Value.is_file, Value.is_folder, Value.none, top, value}
use Rattle.tree.proofs.Never.{never}
use Rattle.tree.proofs.Same.{same_node-eq, same_node-true}
use Rattle.tree.proofs.Value.{node-ext}
use Rattle.tree.proofs.Filesystem.{Up, is_folder-some, value-absent}
use Rattle.settle.specs.Tr507.{Clean, Dirty, Relevant}
use Rattle.settle.proofs.Induct.{NotBoth}

-- S at the paths that begin with n
abbrev pub beneath : PathMap → Name → PathMap
beneath S n = λ q. S (n ∷ q)

unfoldable pub Rel : PathMap → PathMap → TreePath → Type 0
Rel A B [] = Unit {0}
Rel A B (n ∷ p) = (A [] ≡ is_folder) × (B [] ≡ is_folder) × Rel (beneath A n) (beneath B n) p

up-folder : (S : PathMap) → Up S → (n : Name) (q : TreePath) → S (n ∷ q) ≡ is_folder → S [] ≡ is_folder
up-folder S u n q e = u [] n q (is_folder-some (S (n ∷ q)) e)

pub relevant→rel : (p : TreePath) (A B : PathMap) → Up A → Up B → Relevant A B p → Rel A B p
unfolding Rel
relevant→rel [] A B ua ub h = tt
relevant→rel (n ∷ p) A B ua ub (inl e) = never (cc)
relevant→rel (n ∷ p) A B ua ub (inr (q, x, e, a, b)) = go q e a b (relevant→rel p (beneath A n) (beneath B n) (λ p. ua (n ∷ p)) (λ p. ub (n ∷ p)))
  where
    go : (q : TreePath) → n ∷ p ≡ q ++ (x ∷ []) → A q ≡ is_folder → B q ≡ is_folder
        → (Relevant (beneath A n) (beneath B n) p → Rel (beneath A n) (beneath B n) p)
        → (A [] ≡ is_folder) × (B [] ≡ is_folder) × Rel (beneath A n) (beneath B n) p
    go [] e a b ih = (a, b, ih (inl cc))
    go (y ∷ q) e a b ih =
        let i : n ≡ y = cc in
        (up-folder A ua y q a, up-folder B ub y q b, ih (inr (q, x, cc, rw i a, rw i b)))

pub rel→relevant : (p : TreePath) (A B : PathMap) → Rel A B p → Relevant A B p
unfolding Rel
rel→relevant [] A B h = inl refl
rel→relevant (n ∷ p) A B h = go (rel→relevant p (beneath A n) (beneath B n) h.2)
  where
    go : Relevant (beneath A n) (beneath B n) p → Relevant A B (n ∷ p)
    go (inl e) = inr ([], n, ap (λ (w : TreePath). n ∷ w) e, h.0, h.1)
    go (inr (q, x, e, a, b)) = inr (n ∷ q, x, ap (λ (w : TreePath). n ∷ w) e, a, b)

-- where not both are folders, equal values are equal nodes
pub top-same : (l r : Node) → NotBoth l r → top l ≡ top r → l ≡ r
top-same absent absent h e = refl
top-same absent (file d) h e = cc
top-same absent (folder g) h e = cc
top-same (file c) absent h e = cc
top-same (file c) (file d) h e = cc
top-same (file c) (folder g) h e = cc
top-same (folder f) absent h e = cc
top-same (folder f) (file d) h e = cc
top-same (folder f) (folder g) h e = absurd (h f g refl refl)

pub not-clean : (o x : Node) → SortedNode o → SortedNode x → same_node x o ≡ false → Clean (value o) (value x) [] → ⊥
not-clean o x so sx e h = let k = same_node-true x o (sym (node-ext o x so sx h)) in never (cc)

pub dirty-differs : (o x : Node) → Dirty (value o) (value x) [] → same_node x o ≡ false
dirty-differs o x d = go (same_node x o) refl
  where
    go : (a : Bool) → same_node x o ≡ a → a ≡ false
    go true e = absurd (d (λ q. ap (λ (y : Node). value y q) (sym (same_node-eq x o e))))
    go false e = refl

-- beneath a path that is no folder on both sides nothing is relevant
pub not-beneath : {P : Type 0} (l r : Node) → NotBoth l r → (n : Name) (p : TreePath) → Rel (value l) (value r) (n ∷ p) → P
unfolding Rel value at
not-beneath absent r nb n p h = let e = h.0 in never (cc)
not-beneath (file c) r nb n p h = let e = h.0 in never (cc)
not-beneath (folder l) absent nb n p h = let e = h.1 in never (cc)
not-beneath (folder l) (file c) nb n p h = let e = h.1 in never (cc)
not-beneath (folder l) (folder r) nb n p h = absurd (nb l r refl refl)

-- S holds at its root what a node x that is no folder holds; so it holds what x holds everywhere
no_kids : (S : PathMap) → Up S → (x : Value) → S [] ≡ x → (x ≡ is_folder → ⊥) → (n : Name) (q : TreePath) → S (n ∷ q) ≡ none
no_kids S u x e h n q = go (S (n ∷ q)) refl
  where
    some : (v : Value) → S (n ∷ q) ≡ v → (v ≡ none → ⊥) → ⊥
    some v i j = h (sym e ∙ u [] n q (λ k. j (sym i ∙ k)))

    go : (v : Value) → S (n ∷ q) ≡ v → S (n ∷ q) ≡ none
    go none i = i
    go is_folder i = absurd (some is_folder i (λ k. never (cc)))
    go (is_file c) i = absurd (some (is_file c) i (λ k. never (cc)))

pub flat : (S : PathMap) → Up S → (x : Node) → NotBoth x x → S [] ≡ top x → (p : TreePath) → S p ≡ value x p
unfolding value at find
flat S u x nb e [] = e
flat S u absent nb e (n ∷ q) = no_kids S u none e (λ k. never (cc)) n q ∙ sym (value-absent q)
flat S u (file c) nb e (n ∷ q) = no_kids S u (is_file c) e (λ k. never (cc)) n q ∙ sym (value-absent q)
flat S u (folder f) nb e (n ∷ q) = absurd (nb f f refl refl)

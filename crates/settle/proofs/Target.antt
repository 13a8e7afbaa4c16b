-- The requirements on the new left, the new right and the new archive, proved as one: a result meets them, and nothing
-- else does.
use mathlib.Core.Bool.{Bool, true, false}
use mathlib.Core.List.{[], ◌∷◌}
use mathlib.Core.Path.{◌∙◌, ◌≡◌, ap, refl, subst, subst₂, sym}
use Rattle.tree.specs.Name.{Name}
use Rattle.tree.specs.Forest.{TreePath, Forest, Node, Node.folder, find, kids, at, SortedNode}
use Rattle.tree.specs.Same.{same_node}
use Rattle.tree.specs.Value.{PathMap, top, value}
use Rattle.tree.proofs.Never.{never}
use Rattle.tree.proofs.Forest.{sorted-find, sorted-child}
use Rattle.tree.proofs.Same.{same_node-eq, same_node-refl, same_node-true}
use Rattle.tree.proofs.Value.{node-ext}
use Rattle.tree.proofs.Filesystem.{Up}
use Rattle.settle.specs.Decision.{rule, decide}
use Rattle.settle.specs.Plan.{plan, settle}
use Rattle.settle.specs.Results.{Pick, new}
use Rattle.settle.specs.Archive.{Target}
use Rattle.settle.proofs.Plan.{new_node, new-find}
use Rattle.settle.proofs.Induct.{NotBoth, settle-single, settle-ind}
use Rattle.settle.proofs.Picks.{Result, to, kept, settles, to_below, to-clash, kept-find}
use Rattle.settle.proofs.Clean.{Which.left_is, Which.right_is, gives}
use Rattle.settle.proofs.Relevant.{beneath, Rel, top-same, not-clean, dirty-differs, not-beneath, flat}

target-cons : (O A B K S : PathMap) (n : Name) (p : TreePath)
    → Target (beneath O n) (beneath A n) (beneath B n) (beneath K n) (beneath S n) p → Target O A B K S (n ∷ p)
target-cons O A B K S n p m = record { same = m.same; left-clean = m.left-clean; right-clean = m.right-clean; clashing = m.clashing }

target-uncons : (O A B K S : PathMap) (n : Name) (p : TreePath)
    → Target O A B K S (n ∷ p) → Target (beneath O n) (beneath A n) (beneath B n) (beneath K n) (beneath S n) p
target-uncons O A B K S n p m = record { same = m.same; left-clean = m.left-clean; right-clean = m.right-clean; clashing = m.clashing }

module _ (s : Result) where
  -- the result s of an entry, and the requirements on a path function S in its place
  abbrev result_of : Node → Node → Node → Node
  result_of o l r = new_node (to s) (settle o l r)

  abbrev At : Node → Node → Node → PathMap → TreePath → Type 0
  At o l r S p = Target (value o) (value l) (value r) (value (kept s o l r)) S p

  result-find : (o : Node) (l r : Forest) (n : Name) → find n (new (to s) (plan (kids o) l r)) ≡ result_of (find n (kids o)) (find n l) (find n r)
  result-find o l r n =
      new-find (to s) (settles s).agrees (kids o) l r n
      ∙ ap (λ (pk : Pick). new_node pk (settle (find n (kids o)) (find n l) (find n r))) (to_below s n)

  at-root : (o l r : Node) → SortedNode o → SortedNode l → SortedNode r → (top l ≡ top r → top (result_of o l r) ≡ top l)
      → (same_node l o ≡ false → same_node r o ≡ false → ¬ (top l ≡ top r) → result_of o l r ≡ kept s o l r) → At o l r (value (result_of o l r)) []
  unfolding value at
  at-root o l r so sl sr same clashes = record {
    same = same;
    left-clean = λ h q.
        subst (λ (x : Node). value (result_of x l r) q ≡ value r q) (sym (node-ext o l so sl h)) (gives left_is l r (to s) (settles s) q);
    right-clean = λ h q.
        subst (λ (x : Node). value (result_of x l r) q ≡ value l q) (sym (node-ext o r so sr h)) (gives right_is l r (to s) (settles s) q);
    clashing = λ h k n q. ap (λ (x : Node). value x q) (clashes (dirty-differs o l h) (dirty-differs o r k) n);
  }

  same-single : (o l r : Node) → NotBoth l r → top l ≡ top r → top (result_of o l r) ≡ top l
  unfolding decide
  same-single o l r nb e =
      rw (settle-single o l r nb, top-same l r nb e, same_node-refl r) (ap top ((settles s).agrees [] o r))

  clash-single : (o l r : Node) → NotBoth l r → same_node l o ≡ false → same_node r o ≡ false → ¬ (top l ≡ top r) → result_of o l r ≡ kept s o l r
  unfolding decide
  clash-single o l r nb eb ec n = rw (settle-single o l r nb, eb, ec) (go (same_node l r) refl)
    where
      go : (a : Bool) → same_node l r ≡ a → to s [] (rule a false false) o l r ≡ kept s o l r
      go true e = absurd (n (ap top (same_node-eq l r e)))
      go false e = to-clash s [] o l r

  -- SOUND
  abbrev Meets : Node → Node → Node → Type 0
  Meets o l r = SortedNode o → SortedNode l → SortedNode r → (p : TreePath) → Rel (value l) (value r) p → At o l r (value (result_of o l r)) p

  meets-single : (o l r : Node) → NotBoth l r → Meets o l r
  meets-single o l r nb so sl sr [] h = at-root o l r so sl sr (same-single o l r nb) (clash-single o l r nb)
  meets-single o l r nb so sl sr (n ∷ p) h = not-beneath l r nb n p h

  meets-pair : (o : Node) (l r : Forest) → ((n : Name) → Meets (find n (kids o)) (find n l) (find n r)) → Meets o (folder l) (folder r)
  unfolding Rel value at settle
  meets-pair o l r ih so sl sr [] h = at-root o (folder l) (folder r) so sl sr (λ e. refl) (λ a b n. absurd (n refl))
  meets-pair o l r ih so sl sr (n ∷ p) h =
      target-cons (value o) (value (folder l)) (value (folder r)) (value (kept s o (folder l) (folder r)))
      (value (folder (new (to s) (plan (kids o) l r)))) n p
      (subst₂ (λ (x y : Node). Target (value (find n (kids o))) (value (find n l)) (value (find n r)) (value x) (value y) p)
      (sym (kept-find s o (folder l) (folder r) n)) (sym (result-find o l r n))
      (ih n (sorted-child n o so) (sorted-find n l sl) (sorted-find n r sr) p h.2))

  pub meets : (o l r : Node) → Meets o l r
  meets = settle-ind Meets meets-single meets-pair

  -- UNIQUE
  abbrev Wanted : Node → Node → Node → PathMap → Type 0
  Wanted o l r S = (p : TreePath) → Rel (value l) (value r) p → At o l r S p

  abbrev Only : Node → Node → Node → Type 0
  Only o l r = SortedNode o → SortedNode l → SortedNode r → (S : PathMap) → Up S → Wanted o l r S → (p : TreePath) → S p ≡ value (result_of o l r) p

  only-single : (o l r : Node) → NotBoth l r → Only o l r
  unfolding decide value at Rel
  only-single o l r nb so sl sr S u W p = rw (settle-single o l r nb) (go (same_node l r) (same_node l o) (same_node r o) refl refl refl (W [] tt))
    where
      is : {x y : Node} → x ≡ y → value x p ≡ value y p
      is e = ap (λ (x : Node). value x p) e

      go : (a b c : Bool) → same_node l r ≡ a → same_node l o ≡ b → same_node r o ≡ c → At o l r S [] → S p ≡ value (to s [] (rule a b c) o l r) p
      go true b c ea eb ec m =
          let e = same_node-eq l r ea in
          flat S u l (rw (← e) at nb) (m.same (ap top e)) p ∙ is (rw (← e) (sym ((settles s).agrees [] o l)))
      go false true c ea eb ec m = m.left-clean (λ q. ap (λ (x : Node). value x q) (sym (same_node-eq l o eb))) p
          ∙ is (sym ((settles s).left [] o l r))
      go false false true ea eb ec m = m.right-clean (λ q. ap (λ (x : Node). value x q) (sym (same_node-eq r o ec))) p
          ∙ is (sym ((settles s).right [] o l r))
      go false false false ea eb ec m =
          m.clashing (not-clean o l so sl eb) (not-clean o r so sr ec) (λ h. let k = same_node-true l r (top-same l r nb h) in never (cc)) p
          ∙ is (sym (to-clash s [] o l r))

  wanted-child : (o : Node) (l r : Forest) (S : PathMap) (n : Name) → Wanted o (folder l) (folder r) S
      → Wanted (find n (kids o)) (find n l) (find n r) (beneath S n)
  unfolding Rel value at
  wanted-child o l r S n W p h =
      subst (λ (x : Node). Target (value (find n (kids o))) (value (find n l)) (value (find n r)) (value x) (beneath S n) p)
      (kept-find s o (folder l) (folder r) n)
      (target-uncons (value o) (value (folder l)) (value (folder r)) (value (kept s o (folder l) (folder r))) S n p (W (n ∷ p) (refl, refl, h)))

  only-pair : (o : Node) (l r : Forest) → ((n : Name) → Only (find n (kids o)) (find n l) (find n r)) → Only o (folder l) (folder r)
  unfolding Rel value at settle
  only-pair o l r ih so sl sr S u W [] = (W [] tt).same refl
  only-pair o l r ih so sl sr S u W (n ∷ p) =
      ih n (sorted-child n o so) (sorted-find n l sl) (sorted-find n r sr) (beneath S n) (λ q. u (n ∷ q)) (wanted-child o l r S n W) p
      ∙ ap (λ (x : Node). value x p) (sym (result-find o l r n))

  pub only : (o l r : Node) → Only o l r
  only = settle-ind Only only-single only-pair

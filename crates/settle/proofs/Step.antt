-- One listed move to the left: the rest of the list and the results stay.
use mathlib.Core.List.{[], ◌∷◌, map}
use mathlib.Core.Path.{◌∙◌, ◌≡◌, ap, refl, sym}
use Prim.Native.Nat.{Ordering}
use Rattle.tree.specs.Name.{Name, cmp}
use Rattle.tree.specs.Forest.{TreePath, Forest, Node, Node.folder, find, kids, at, Sorted, SortedNode}
use Rattle.tree.specs.Put.{update, put}
use Rattle.tree.proofs.Never.{never}
use Rattle.tree.proofs.Order.{cmp-eq, cmp-refl}
use Rattle.tree.proofs.Same.{same_words-false}
use Rattle.tree.proofs.Forest.{Differ, sorted-find, sorted-kids, sorted-child, sorted-at}
use Rattle.tree.proofs.Put.{find-update-same, find-update-other, sorted-update, sorted-put}
use Rattle.settle.specs.Decision.{Decision.left_gets, decide}
use Rattle.settle.specs.Plan.{plan, settle}
use Rattle.settle.specs.Results.{Pick, below, new, Line.line, list, under}
use Rattle.settle.specs.Resume.{In, keep, elsewhere, same_path}
use Rattle.settle.proofs.Plan.{new_node}
use Rattle.settle.proofs.Induct.{NotBoth, settle-single, settle-ind}
use Rattle.settle.proofs.Picks.{Settles, settles-below}
use Rattle.settle.proofs.Sorted.{new-ext, same_new}
use Rattle.settle.proofs.Lines.{lines_of, lines_at, list-hom, list_same, keep_append, keep-nil}
use Rattle.settle.proofs.Listed.{in-plan-cons, in-line_of, no-root, not-below, without, without-here, without-there}

pub record Stepped (p : TreePath) (o l l' r : Node) : Type 0 where
  pub trees : (pk : Pick) → Settles pk → new_node pk (settle o l' r) ≡ new_node pk (settle o l r)
  pub lines : lines_of (settle o l' r) ≡ without p (lines_of (settle o l r))

abbrev Steps : Node → Node → Node → Type 0
Steps o l r = (p : TreePath) → SortedNode o → SortedNode l → SortedNode r → In (line p left_gets) (lines_of (settle o l r))
    → Stepped p o l (put p (at r p) l) r

steps-single : (o l r : Node) → NotBoth l r → Steps o l r
unfolding keep same_path put at
steps-single o l r nb [] so sl sr h =
    let e = sym (in-line_of [] [] left_gets (decide o l r) (rw (settle-single o l r nb) at h)).1 in
    record {
      trees = λ pk f. same_new o r so sr pk f ∙ rw (settle-single o l r nb, e) (sym (f.left [] o l r));
      lines = list_same o r ∙ rw (settle-single o l r nb, e);
    }
steps-single o l r nb (n ∷ p) so sl sr h = not-below n p left_gets o l r nb h

-- the entry n of a folder on both sides has become x
module _ (n : Name) (p : TreePath) (o : Node) (l r : Forest) (x : Node) (so : SortedNode o) (sl : Sorted l) (sr : Sorted r) (sx : SortedNode x)
    (S : Stepped p (find n (kids o)) (find n l) x (find n r)) where
  beneath-trees : (pk : Pick) → Settles pk → new pk (plan (kids o) (update n x l) r) ≡ new pk (plan (kids o) l r)
  beneath-trees pk f =
      new-ext pk pk f f (kids o) (update n x l) r (kids o) l r (sorted-kids o so) (sorted-update n x sx l sl) sr (sorted-kids o so) sl sr
      (λ m. go m (cmp m n) refl)
    where
      go : (m : Name) (w : Ordering) → cmp m n ≡ w
          → new_node (below m pk) (settle (find m (kids o)) (find m (update n x l)) (find m r)) ≡ new_node (below m pk)
          (settle (find m (kids o)) (find m l) (find m r))
      go m Ordering.lt e = rw (find-update-other n x m (λ h. never (cc)) l)
      go m Ordering.gt e = rw (find-update-other n x m (λ h. never (cc)) l)
      go m Ordering.eq e = rw (cmp-eq m n e, find-update-same n x l sl) (S.trees (below n pk) (settles-below n pk f))

  beneath-lines : list (plan (kids o) (update n x l) r) ≡ without (n ∷ p) (list (plan (kids o) l r))
  beneath-lines =
      list-hom (without (n ∷ p)) (keep-nil (elsewhere (n ∷ p))) (keep_append (elsewhere (n ∷ p))) (kids o) l r (kids o) (update n x l) r
      (λ m. go m (cmp m n) refl)
    where
      other : (m : Name) → Differ m n → lines_at (kids o) (update n x l) r m ≡ without (n ∷ p) (lines_at (kids o) l r m)
      other m d =
          rw (find-update-other n x m d l)
          (sym (without-there n m p (lines_of (settle (find m (kids o)) (find m l) (find m r))) (same_words-false n m (λ e. d (rw e (cmp-refl m))))))

      go : (m : Name) (w : Ordering) → cmp m n ≡ w → lines_at (kids o) (update n x l) r m ≡ without (n ∷ p) (lines_at (kids o) l r m)
      go m Ordering.lt e = other m (λ h. never (cc))
      go m Ordering.gt e = other m (λ h. never (cc))
      go m Ordering.eq e =
          rw (cmp-eq m n e, find-update-same n x l sl)
          (ap (map (under n)) S.lines ∙ without-here n p (lines_of (settle (find n (kids o)) (find n l) (find n r))))

steps-pair : (o : Node) (l r : Forest) → ((n : Name) → Steps (find n (kids o)) (find n l) (find n r)) → Steps o (folder l) (folder r)
unfolding settle put at
steps-pair o l r ih [] so sl sr h = no-root left_gets (kids o) l r h
steps-pair o l r ih (n ∷ p) so sl sr h =
    let sn = sorted-find n l sl in let rn = sorted-find n r sr in
    let x = put p (at (find n r) p) (find n l) in
    let sx = sorted-put p (at (find n r) p) (find n l) (sorted-at p (find n r) rn) sn in
    let S = ih n p (sorted-child n o so) sn rn (in-plan-cons n p left_gets (kids o) l r h) in
    record { trees = λ pk f. ap folder (beneath-trees n p o l r x so sl sr sx S pk f); lines = beneath-lines n p o l r x so sl sr sx S }

pub step : (o l r : Node) → Steps o l r
step = settle-ind Steps steps-single steps-pair

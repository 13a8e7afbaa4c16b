-- Induction over settling: what holds of entries that are not folders on both sides, and of a folder pair where it holds
-- at all its names, holds everywhere.
use mathlib.Core.Path.{◌≡◌, refl}
use Prim.Native.Nat.{Ordering}
use Rattle.tree.specs.Name.{Name, cmp, if_same}
use Rattle.tree.specs.Forest.{Forest, Forest.end, Forest.leaf, Forest.dir, Node, Node.absent, Node.file, Node.folder, find, kids}
use Rattle.tree.proofs.Never.{never}
use Rattle.settle.specs.Plan.{Entry.single, settle}

abbrev pub NotBoth : Node → Node → Type 0
NotBoth l r = (f g : Forest) → l ≡ folder f → r ≡ folder g → ⊥

pub settle-single : (o l r : Node) → NotBoth l r → settle o l r ≡ single o l r
unfolding settle
settle-single o absent r h = refl
settle-single o (file c) r h = refl
settle-single o (folder f) absent h = refl
settle-single o (folder f) (file c) h = refl
settle-single o (folder f) (folder g) h = absurd (h f g refl refl)

module _ (P : Node → Node → Node → Type 0) (one : (o l r : Node) → NotBoth l r → P o l r)
    (two : (o : Node) (l r : Forest) → ((n : Name) → P (find n (kids o)) (find n l) (find n r)) → P o (folder l) (folder r)) where
  at-folder : (o r : Node) (l : Forest) → ((n : Name) (o r : Node) → P o (find n l) r) → P o (folder l) r
  at-folder o absent l ih = one o (folder l) absent (λ f g e h. never (cc))
  at-folder o (file c) l ih = one o (folder l) (file c) (λ f g e h. never (cc))
  at-folder o (folder r) l ih = two o l r (λ n. ih n (find n (kids o)) (find n r))

  at-forest : (l : Forest) (n : Name) (o r : Node) → P o (find n l) r
  unfolding find
  at-forest end n o r = one o absent r (λ f g e h. never (cc))
  at-forest (leaf m c s) n o r = go (cmp n m) (at-forest s n o r)
    where
      go : (w : Ordering) → P o (find n s) r → P o (if_same w (file c) (find n s)) r
      go Ordering.lt h = h
      go Ordering.eq h = one o (file c) r (λ f g e h. never (cc))
      go Ordering.gt h = h
  at-forest (dir m k s) n o r = go (cmp n m) (at-forest s n o r) (at-folder o r k (at-forest k))
    where
      go : (w : Ordering) → P o (find n s) r → P o (folder k) r → P o (if_same w (folder k) (find n s)) r
      go Ordering.lt h j = h
      go Ordering.eq h j = j
      go Ordering.gt h j = h

  pub settle-ind : (o l r : Node) → P o l r
  settle-ind o absent r = one o absent r (λ f g e h. never (cc))
  settle-ind o (file c) r = one o (file c) r (λ f g e h. never (cc))
  settle-ind o (folder l) r = at-folder o r l (at-forest l)

-- Where one side is as the archive, every result holds the other side.
use mathlib.Core.Bool.{Bool, true, false}
use mathlib.Core.List.{[], ◌∷◌}
use mathlib.Core.Path.{◌∙◌, ◌≡◌, ap, refl, sym}
use Rattle.tree.specs.Name.{Name}
use Rattle.tree.specs.Forest.{TreePath, Forest, Node, Node.folder, find, kids, at}
use Rattle.tree.specs.Same.{same_node}
use Rattle.tree.specs.Value.{Value.is_folder, value}
use Rattle.tree.proofs.Never.{never}
use Rattle.tree.proofs.Same.{same_node-refl, same_node-eq}
use Rattle.settle.specs.Decision.{rule, decide}
use Rattle.settle.specs.Plan.{settle}
use Rattle.settle.specs.Results.{Pick, below}
use Rattle.settle.proofs.Plan.{new_node, new-find}
use Rattle.settle.proofs.Induct.{NotBoth, settle-single, settle-ind}
use Rattle.settle.proofs.Picks.{Settles, settles-below}

-- the side that is as the archive, and the other one
pub data Which : Type 0 where
  left_is right_is : Which

abbrev pub this : Which → Node → Node → Node
this left_is l r = l
this right_is l r = r

abbrev pub other : Which → Node → Node → Node
other left_is l r = r
other right_is l r = l

decided : (w : Which) (pk : Pick) → Settles pk → (p : TreePath) (l r : Node) → pk p (decide (this w l r) l r) (this w l r) l r ≡ other w l r
unfolding decide
decided left_is pk f p l r = go (same_node l r) refl
  where
    go : (a : Bool) → same_node l r ≡ a → pk p (rule a (same_node l l) (same_node r l)) l l r ≡ r
    go true e = rw (same_node-eq l r e) (f.agrees p r r)
    go false e = rw (same_node-refl l) (f.left p l l r)
decided right_is pk f p l r = go (same_node l r) (same_node l r) refl refl
  where
    go : (a b : Bool) → same_node l r ≡ a → same_node l r ≡ b → pk p (rule a b (same_node r r)) r l r ≡ l
    go true b e h = rw (same_node-eq l r e) (f.agrees p r r)
    go false true e h = never (cc)
    go false false e h = rw (same_node-refl r) (f.right p r l r)

this-find : (w : Which) (l r : Forest) (n : Name) → find n (kids (this w (folder l) (folder r))) ≡ this w (find n l) (find n r)
this-find left_is l r n = refl
this-find right_is l r n = refl

other-folder : (w : Which) (l r : Forest) → value (other w (folder l) (folder r)) [] ≡ is_folder
unfolding value at
other-folder left_is l r = refl
other-folder right_is l r = refl

other-find : (w : Which) (l r : Forest) (n : Name) (q : TreePath)
    → value (other w (folder l) (folder r)) (n ∷ q) ≡ value (other w (find n l) (find n r)) q
unfolding value at
other-find left_is l r n q = refl
other-find right_is l r n q = refl

abbrev Gives : Which → Node → Node → Node → Type 0
Gives w o l r = o ≡ this w l r → (pk : Pick) → Settles pk → (q : TreePath) → value (new_node pk (settle o l r)) q ≡ value (other w l r) q

gives-single : (w : Which) (o l r : Node) → NotBoth l r → Gives w o l r
gives-single w o l r nb e pk f q = rw (settle-single o l r nb, e, decided w pk f [] l r)

gives-pair : (w : Which) (o : Node) (l r : Forest) → ((n : Name) → Gives w (find n (kids o)) (find n l) (find n r)) → Gives w o (folder l) (folder r)
unfolding settle value at
gives-pair w o l r ih e pk f [] = sym (other-folder w l r)
gives-pair w o l r ih e pk f (n ∷ q) =
    ap (λ (x : Node). value x q) (new-find pk f.agrees (kids o) l r n)
    ∙ ih n (ap (λ (x : Node). find n (kids x)) e ∙ this-find w l r n) (below n pk) (settles-below n pk f) q
    ∙ sym (other-find w l r n q)

pub gives : (w : Which) (l r : Node) (pk : Pick) → Settles pk → (q : TreePath)
    → value (new_node pk (settle (this w l r) l r)) q ≡ value (other w l r) q
gives w l r = settle-ind (Gives w) (gives-single w) (gives-pair w) (this w l r) l r refl

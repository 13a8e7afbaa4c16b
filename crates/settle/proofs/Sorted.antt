-- The new trees are sorted; where left and right hold the same, every new tree holds it.
use mathlib.Core.List.{[]}
use mathlib.Core.Path.{◌∙◌, ◌≡◌, ap, refl, sym}
use Rattle.tree.specs.Name.{Name}
use Rattle.tree.specs.Forest.{Forest, Node, Node.folder, find, kids, Sorted, SortedNode}
use Rattle.tree.proofs.Forest.{sorted-find, sorted-child, sorted-kids}
use Rattle.tree.proofs.Same.{same_node-refl}
use Rattle.tree.proofs.Value.{find-ext}
use Rattle.settle.specs.Decision.{Decision.agreed, decide}
use Rattle.settle.specs.Names.{names}
use Rattle.settle.specs.Plan.{settle_in, plan, settle}
use Rattle.settle.specs.Results.{Pick, below, new, new_left, new_right, new_archive}
use Rattle.settle.proofs.Names.{asc-names, sorted-build}
use Rattle.settle.proofs.Plan.{settle_in-settle, new_node, new-build, new-find}
use Rattle.settle.proofs.Induct.{NotBoth, settle-single, settle-ind}
use Rattle.settle.proofs.Picks.{Result.left, Result.right, Result.archive, one_of, Settles, settles-below, settles}

abbrev Keeps : Node → Node → Node → Type 0
Keeps o l r = (pk : Pick) → Settles pk → SortedNode o → SortedNode l → SortedNode r → SortedNode (new_node pk (settle o l r))

keeps-single : (o l r : Node) → NotBoth l r → Keeps o l r
keeps-single o l r nb pk f so sl sr =
    rw (settle-single o l r nb) (one_of SortedNode (pk [] (decide o l r) o l r) o l r (f.chooses [] (decide o l r) o l r) so sl sr)

keeps-pair : (o : Node) (l r : Forest) → ((n : Name) → Keeps (find n (kids o)) (find n l) (find n r)) → Keeps o (folder l) (folder r)
unfolding settle plan
keeps-pair o l r ih pk f so sl sr =
    rw (new-build pk (names (kids o) l r) (λ n. settle_in l n (find n (kids o)) (find n r)))
    (sorted-build (names (kids o) l r) (λ n. new_node (below n pk) (settle_in l n (find n (kids o)) (find n r))) (asc-names (kids o) l r)
    (λ n. rw (settle_in-settle l n (find n (kids o)) (find n r))
    (ih n (below n pk) (settles-below n pk f) (sorted-child n o so) (sorted-find n l sl) (sorted-find n r sr))))

pub sorted-new : (pk : Pick) → Settles pk → (o l r : Forest) → Sorted o → Sorted l → Sorted r → Sorted (new pk (plan o l r))
unfolding settle
sorted-new pk f o l r = settle-ind Keeps keeps-single keeps-pair (folder o) (folder l) (folder r) pk f

pub sorted-left : (o l r : Forest) → Sorted o → Sorted l → Sorted r → Sorted (new_left o l r)
unfolding new_left
sorted-left = sorted-new _ (settles left)

pub sorted-right : (o l r : Forest) → Sorted o → Sorted l → Sorted r → Sorted (new_right o l r)
unfolding new_right
sorted-right = sorted-new _ (settles right)

pub sorted-archive : (o l r : Forest) → Sorted o → Sorted l → Sorted r → Sorted (new_archive o l r)
unfolding new_archive
sorted-archive = sorted-new _ (settles archive)

-- two new trees are equal if they are at each name
pub new-ext : (pk qk : Pick) → Settles pk → Settles qk → (o l r o' l' r' : Forest) → Sorted o → Sorted l → Sorted r → Sorted o' → Sorted l'
    → Sorted r'
    → ((n : Name) → new_node (below n pk) (settle (find n o) (find n l) (find n r)) ≡ new_node (below n qk)
    (settle (find n o') (find n l') (find n r')))
    → new pk (plan o l r) ≡ new qk (plan o' l' r')
new-ext pk qk f g o l r o' l' r' so sl sr so' sl' sr' E =
    find-ext (new pk (plan o l r)) (new qk (plan o' l' r')) (sorted-new pk f o l r so sl sr) (sorted-new qk g o' l' r' so' sl' sr')
    (λ n. new-find pk f.agrees o l r n ∙ E n ∙ sym (new-find qk g.agrees o' l' r' n))

pub decide-same : (o x : Node) → decide o x x ≡ agreed
unfolding decide
decide-same o x = rw (same_node-refl x)

-- left and right the same: so is every new tree
abbrev Same : Node → Node → Node → Type 0
Same o l r = (pk : Pick) → Settles pk → SortedNode o → SortedNode l → SortedNode r → l ≡ r → new_node pk (settle o l r) ≡ r

same-single : (o l r : Node) → NotBoth l r → Same o l r
same-single o l r nb pk f so sl sr e = rw (settle-single o l r nb) (rw (e, decide-same o r) (f.agrees [] o r))

same-pair : (o : Node) (l r : Forest) → ((n : Name) → Same (find n (kids o)) (find n l) (find n r)) → Same o (folder l) (folder r)
unfolding settle
same-pair o l r ih pk f so sl sr e =
    let e' : l ≡ r = cc in
    ap folder (find-ext (new pk (plan (kids o) l r)) r (sorted-new pk f (kids o) l r (sorted-kids o so) sl sr) sr
    (λ n. new-find pk f.agrees (kids o) l r n
    ∙ ih n (below n pk) (settles-below n pk f) (sorted-child n o so) (sorted-find n l sl) (sorted-find n r sr) (ap (find n) e')))

pub same_new : (o r : Node) → SortedNode o → SortedNode r → (pk : Pick) → Settles pk → new_node pk (settle o r r) ≡ r
same_new o r so sr pk f = settle-ind Same same-single same-pair o r r pk f so sr sr refl

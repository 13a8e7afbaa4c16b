-- Demand 3: the run on the results lists the clashes, no moves, and alters no tree.
use mathlib.Core.Bool.{Bool, false, true}
use mathlib.Core.List.{[], map}
use mathlib.Core.Path.{◌∙◌, ◌≡◌, ap, refl, sym}
use Rattle.tree.specs.Forest.{Forest, Node, Node.folder, Sorted, SortedNode, find, kids}
use Rattle.tree.specs.Name.{Name}
use Rattle.tree.specs.Same.{same_node}
use Rattle.tree.proofs.Forest.{sorted-child, sorted-find, sorted-kids}
use Rattle.tree.proofs.Same.{same_node-eq}
use Rattle.settle.specs.Decision.{Decision.agreed, Decision.clash, Decision.left_gets, Decision.right_gets, decide, rule}
use Rattle.settle.specs.Plan.{Entry, plan, settle}
use Rattle.settle.specs.Results.{Line, Line.line, Pick, below, for_archive, for_left, for_right, line_of, new, new_archive, new_left, new_right, to_archive, to_left, to_right, under}
use Rattle.settle.specs.Resume.{Closes, is_clash, keep}
use Rattle.settle.proofs.Induct.{NotBoth, settle-ind, settle-single}
use Rattle.settle.proofs.Lines.{keep_append, keep-cong, keep-nil, keep-under, lines_of, list-hom, list_same}
use Rattle.settle.proofs.Picks.{Result.left, Result.right, Result.archive, Settles, settles-below, settles}
use Rattle.settle.proofs.Outcome.{outcome-ext, un-folder}
use Rattle.settle.proofs.Plan.{new-find, new_node}
use Rattle.settle.proofs.Sorted.{new-ext, same_new, sorted-new}

-- the three results at a name
abbrev archive-find : (o l r : Forest) (n : Name) → find n (new to_archive (plan o l r)) ≡ new_node to_archive (settle (find n o) (find n l) (find n r))
archive-find = new-find to_archive (settles archive).agrees

abbrev left-find : (o l r : Forest) (n : Name) → find n (new to_left (plan o l r)) ≡ new_node to_left (settle (find n o) (find n l) (find n r))
left-find = new-find to_left (settles left).agrees

abbrev right-find : (o l r : Forest) (n : Name) → find n (new to_right (plan o l r)) ≡ new_node to_right (settle (find n o) (find n l) (find n r))
right-find = new-find to_right (settles right).agrees

-- the entry settled again
abbrev again : Node → Node → Node → Entry
again o l r = settle (new_node to_archive (settle o l r)) (new_node to_left (settle o l r)) (new_node to_right (settle o l r))

abbrev Rests : Node → Node → Node → Type 0
Rests o l r = SortedNode o → SortedNode l → SortedNode r → (pk : Pick) → Settles pk → new_node pk (again o l r) ≡ new_node pk (settle o l r)

rests-single : (o l r : Node) → NotBoth l r → Rests o l r
unfolding decide
rests-single o l r nb so sl sr pk f = rw (settle-single o l r nb) (go (same_node l r) (same_node l o) (same_node r o) refl refl refl)
  where
    go : (a b c : Bool) → same_node l r ≡ a → same_node l o ≡ b → same_node r o ≡ c
        → new_node pk (settle (for_archive (rule a b c) o l r) (for_left (rule a b c) o l r) (for_right (rule a b c) o l r)) ≡ pk [] (rule a b c) o l r
    go true b c ea eb ec = rw (same_node-eq l r ea) (same_new r r sr sr pk f ∙ sym (f.agrees [] o r))
    go false true c ea eb ec = same_new r r sr sr pk f ∙ sym (f.left [] o l r)
    go false false true ea eb ec = same_new l l sl sl pk f ∙ sym (f.right [] o l r)
    go false false false ea eb ec = rw (settle-single o l r nb, ea, eb, ec)

rests-pair : (o : Node) (l r : Forest) → ((n : Name) → Rests (find n (kids o)) (find n l) (find n r)) → Rests o (folder l) (folder r)
unfolding settle
rests-pair o l r ih so sl sr pk f =
    let k = kids o in let sk = sorted-kids o so in
    ap folder (new-ext pk pk f f (new to_archive (plan k l r)) (new to_left (plan k l r)) (new to_right (plan k l r)) k l r
    (sorted-new to_archive (settles archive) k l r sk sl sr) (sorted-new to_left (settles left) k l r sk sl sr)
    (sorted-new to_right (settles right) k l r sk sl sr) sk sl sr
    (λ n. rw (archive-find k l r n, left-find k l r n, right-find k l r n)
    (ih n (sorted-child n o so) (sorted-find n l sl) (sorted-find n r sr) (below n pk) (settles-below n pk f))))

rests : (o l r : Node) → Rests o l r
rests = settle-ind Rests rests-single rests-pair

abbrev ClashesLeft : Node → Node → Node → Type 0
ClashesLeft o l r = lines_of (again o l r) ≡ keep is_clash (lines_of (settle o l r))

clashes-left-single : (o l r : Node) → NotBoth l r → ClashesLeft o l r
unfolding decide keep
clashes-left-single o l r nb = rw (settle-single o l r nb) (go (same_node l r) (same_node l o) (same_node r o) refl refl refl)
  where
    go : (a b c : Bool) → same_node l r ≡ a → same_node l o ≡ b → same_node r o ≡ c
        → lines_of (settle (for_archive (rule a b c) o l r) (for_left (rule a b c) o l r) (for_right (rule a b c) o l r)) ≡ keep is_clash
        (line_of [] (rule a b c))
    go true b c ea eb ec = rw (same_node-eq l r ea) (list_same r r)
    go false true c ea eb ec = list_same r r
    go false false true ea eb ec = list_same l l
    go false false false ea eb ec = rw (settle-single o l r nb, ea, eb, ec)

clash-under : (n : Name) (x : Line) → is_clash x ≡ is_clash (under n x)
clash-under n (line p agreed) = refl
clash-under n (line p left_gets) = refl
clash-under n (line p right_gets) = refl
clash-under n (line p clash) = refl

clashes-left-pair : (o : Node) (l r : Forest) → ((n : Name) → ClashesLeft (find n (kids o)) (find n l) (find n r))
    → ClashesLeft o (folder l) (folder r)
unfolding settle
clashes-left-pair o l r ih =
    let k = kids o in
    list-hom (keep is_clash) (keep-nil is_clash) (keep_append is_clash) k l r (new to_archive (plan k l r)) (new to_left (plan k l r))
    (new to_right (plan k l r))
    (λ n. rw (archive-find k l r n, left-find k l r n, right-find k l r n)
    (ap (map (under n)) (ih n ∙ keep-cong is_clash (λ x. is_clash (under n x)) (lines_of (settle (find n k) (find n l) (find n r))) (clash-under n))
    ∙ sym (keep-under is_clash n (lines_of (settle (find n k) (find n l) (find n r))))))

clashes-left : (o l r : Node) → ClashesLeft o l r
clashes-left = settle-ind ClashesLeft clashes-left-single clashes-left-pair

pub closes : (o l r : Forest) → Sorted o → Sorted l → Sorted r → Closes o l r
unfolding new_archive new_left new_right settle
closes o l r so sl sr =
    let e = rests (folder o) (folder l) (folder r) so sl sr in
    outcome-ext _ _ (clashes-left (folder o) (folder l) (folder r)) (un-folder _ _ (e to_archive (settles archive)))
    (un-folder _ _ (e to_left (settles left))) (un-folder _ _ (e to_right (settles right)))

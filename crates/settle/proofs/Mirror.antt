-- Left and right change places.
use mathlib.Core.Bool.{Bool, false, true}
use mathlib.Core.List.{[], ◌++◌, ◌∷◌, map}
use mathlib.Core.Path.{◌∙◌, ◌≡◌, ap, refl, sym}
use Rattle.tree.specs.Forest.{Forest, Node, Node.folder, Sorted, SortedNode, TreePath, find, kids}
use Rattle.tree.specs.Name.{Name}
use Rattle.tree.specs.Same.{same_node}
use Rattle.tree.proofs.Forest.{sorted-child, sorted-find, sorted-kids}
use Rattle.tree.proofs.Never.{never}
use Rattle.tree.proofs.Same.{same_node-eq, same_node-true, same_node-sym}
use Rattle.settle.specs.Decision.{Decision, Decision.agreed, Decision.clash, Decision.left_gets, Decision.right_gets, decide, rule}
use Rattle.settle.specs.Plan.{settle}
use Rattle.settle.specs.Results.{Line, Line.line, Lines, Pick, below, line_of, new_archive, new_left, new_right, to_archive, to_left, to_right, under, Outcome, outcome}
use Rattle.settle.proofs.Induct.{NotBoth, settle-ind, settle-single}
use Rattle.settle.proofs.Lines.{lines_of, list-hom}
use Rattle.settle.proofs.Picks.{Result.left, Result.right, Result.archive, Settles, settles-below, settles}
use Rattle.settle.proofs.Outcome.{outcome-ext, un-folder}
use Rattle.settle.proofs.Plan.{new_node}
use Rattle.settle.proofs.Sorted.{new-ext}

abbrev pub mirror : Decision → Decision
mirror agreed = agreed
mirror left_gets = right_gets
mirror right_gets = left_gets
mirror clash = clash

abbrev pub mirror_l : Line → Line
mirror_l (line p d) = line p (mirror d)

not-both-sym : (l r : Node) → NotBoth l r → NotBoth r l
not-both-sym l r h = λ f g e k. h g f k e

decide-mirror : (o l r : Node) → decide o r l ≡ mirror (decide o l r)
unfolding decide
decide-mirror o l r = rw (same_node-sym r l) (go (same_node l r) (same_node l o) (same_node r o) refl refl refl)
  where
    go : (a b c : Bool) → same_node l r ≡ a → same_node l o ≡ b → same_node r o ≡ c → rule a c b ≡ mirror (rule a b c)
    go true b c ea eb ec = refl
    go false true true ea eb ec = let e = same_node-true l r (same_node-eq l o eb ∙ sym (same_node-eq r o ec)) in never (cc)
    go false true false ea eb ec = refl
    go false false true ea eb ec = refl
    go false false false ea eb ec = refl

-- what one pick makes of the entry with its sides changed, the other makes of the entry
record Swaps (pk qk : Pick) : Type 0 where
  settles : Settles pk
  settles' : Settles qk
  clashing : (p : TreePath) (o l r : Node) → pk p clash o r l ≡ qk p clash o l r

swaps-below : (n : Name) (pk qk : Pick) → Swaps pk qk → Swaps (below n pk) (below n qk)
swaps-below n pk qk s = record {
  settles = settles-below n pk s.settles;
  settles' = settles-below n qk s.settles';
  clashing = λ p. s.clashing (n ∷ p);
}

abbrev Turn : Node → Node → Node → Type 0
Turn o l r = SortedNode o → SortedNode l → SortedNode r → (pk qk : Pick) → Swaps pk qk → new_node pk (settle o r l) ≡ new_node qk (settle o l r)

turn-single : (o l r : Node) → NotBoth l r → Turn o l r
unfolding decide
turn-single o l r nb so sl sr pk qk s =
    rw (settle-single o l r nb, settle-single o r l (not-both-sym l r nb))
    (ap (λ (d : Decision). pk [] d o r l) (decide-mirror o l r) ∙ go (same_node l r) (same_node l o) (same_node r o) refl)
  where
    go : (a b c : Bool) → same_node l r ≡ a → pk [] (mirror (rule a b c)) o r l ≡ qk [] (rule a b c) o l r
    go true b c e = rw (same_node-eq l r e) (s.settles.agrees [] o r ∙ sym (s.settles'.agrees [] o r))
    go false true c e = s.settles.right [] o r l ∙ sym (s.settles'.left [] o l r)
    go false false true e = s.settles.left [] o r l ∙ sym (s.settles'.right [] o l r)
    go false false false e = s.clashing [] o l r

turn-pair : (o : Node) (l r : Forest) → ((n : Name) → Turn (find n (kids o)) (find n l) (find n r)) → Turn o (folder l) (folder r)
unfolding settle
turn-pair o l r ih so sl sr pk qk s =
    let k = kids o in let sk = sorted-kids o so in
    ap folder (new-ext pk qk s.settles s.settles' k r l k l r sk sr sl sk sl sr
    (λ n. ih n (sorted-child n o so) (sorted-find n l sl) (sorted-find n r sr) (below n pk) (below n qk) (swaps-below n pk qk s)))

turn : (o l r : Node) → Turn o l r
turn = settle-ind Turn turn-single turn-pair

map-append : (f : Line → Line) (a b : Lines) → map f (a ++ b) ≡ map f a ++ map f b
map-append f [] b = refl
map-append f (x ∷ xs) b = ap (λ (w : Lines). f x ∷ w) (map-append f xs b)

mirror-under : (n : Name) (xs : Lines) → map (under n) (map mirror_l xs) ≡ map mirror_l (map (under n) xs)
mirror-under n [] = refl
mirror-under n (line p d ∷ xs) = ap (λ (w : Lines). line (n ∷ p) (mirror d) ∷ w) (mirror-under n xs)

abbrev TurnL : Node → Node → Node → Type 0
TurnL o l r = lines_of (settle o r l) ≡ map mirror_l (lines_of (settle o l r))

turnl-single : (o l r : Node) → NotBoth l r → TurnL o l r
turnl-single o l r nb = rw (settle-single o l r nb, settle-single o r l (not-both-sym l r nb), decide-mirror o l r) (go (decide o l r))
  where
    go : (d : Decision) → line_of [] (mirror d) ≡ map mirror_l (line_of [] d)
    go agreed = refl
    go left_gets = refl
    go right_gets = refl
    go clash = refl

turnl-pair : (o : Node) (l r : Forest) → ((n : Name) → TurnL (find n (kids o)) (find n l) (find n r)) → TurnL o (folder l) (folder r)
unfolding settle
turnl-pair o l r ih =
    list-hom (map mirror_l) refl (map-append mirror_l) (kids o) l r (kids o) r l
    (λ n. ap (map (under n)) (ih n) ∙ mirror-under n (lines_of (settle (find n (kids o)) (find n l) (find n r))))

turn-list : (o l r : Node) → TurnL o l r
turn-list = settle-ind TurnL turnl-single turnl-pair

abbrev pub mirror_o : Outcome → Outcome
mirror_o u = record { lines = map mirror_l u.lines; archive = u.archive; left = u.right; right = u.left }

pub mirrored : (o l r : Forest) → Sorted o → Sorted l → Sorted r → outcome o r l ≡ mirror_o (outcome o l r)
unfolding new_archive new_left new_right settle
mirrored o l r so sl sr =
    let e = turn (folder o) (folder l) (folder r) so sl sr in
    outcome-ext _ _ (turn-list (folder o) (folder l) (folder r))
    (un-folder _ _ (e to_archive to_archive (record { settles = settles archive; settles' = settles archive; clashing = λ p o l r. refl })))
    (un-folder _ _ (e to_left to_right (record { settles = settles left; settles' = settles right; clashing = λ p o l r. refl })))
    (un-folder _ _ (e to_right to_left (record { settles = settles right; settles' = settles left; clashing = λ p o l r. refl })))

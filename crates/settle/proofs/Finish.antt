-- All the listed moves carried out: the two sides have become the new trees.
use mathlib.Core.Bool.{true}
use mathlib.Core.List.{[], ◌∷◌}
use mathlib.Core.Logic.{inl}
use mathlib.Core.Path.{◌∙◌, ◌≡◌, ap, refl, subst, sym}
use Rattle.tree.specs.Name.{Name}
use Rattle.tree.specs.Forest.{TreePath, Forest, Node, Node.folder, Sorted, SortedNode, find, kids}
use Rattle.tree.proofs.Never.{never}
use Rattle.tree.proofs.Forest.{sorted-child, sorted-find, sorted-kids}
use Rattle.tree.proofs.Value.{find-ext}
use Rattle.settle.specs.Decision.{Decision, Decision.agreed, Decision.left_gets, Decision.right_gets, Decision.clash, decide}
use Rattle.settle.specs.Plan.{plan, settle}
use Rattle.settle.specs.Results.{Line.line, Lines, Outcome, line_of, list, new, new_left, new_right, to_left, to_right}
use Rattle.settle.specs.Resume.{Sides, after, In, keep, is_clash, IsMove, Chosen, Finishes}
use Rattle.settle.proofs.Induct.{NotBoth, settle-ind, settle-single}
use Rattle.settle.proofs.Lines.{lines_of}
use Rattle.settle.proofs.Listed.{in_kept, plan-in}
use Rattle.settle.proofs.Picks.{Result, Result.left, Result.right, to, to_below, settles}
use Rattle.settle.proofs.Outcome.{un-folder}
use Rattle.settle.proofs.Plan.{new-find, new_node}
use Rattle.settle.proofs.Sorted.{sorted-new}
use Rattle.settle.proofs.Resume.{sorted-moved, resumes}

abbrev NoMoves : Lines → Type 0
NoMoves xs = (p : TreePath) (d : Decision) → In (line p d) xs → IsMove d → ⊥

clashes-alone : (xs : Lines) → NoMoves (keep is_clash xs)
clashes-alone xs p d h = go d (in_kept is_clash (line p d) xs h).0
  where
    go : (e : Decision) → is_clash (line p e) ≡ true → IsMove e → ⊥
    go agreed q m = m
    go left_gets q m = never (cc)
    go right_gets q m = never (cc)
    go clash q m = m

-- where nothing is to be moved, each side is its new tree
abbrev Unmoved : Node → Node → Node → Type 0
Unmoved o l r = SortedNode o → SortedNode l → SortedNode r → NoMoves (lines_of (settle o l r)) → (new_node to_left (settle o l r) ≡ l) × (new_node to_right (settle o l r) ≡ r)

unmoved-single : (o l r : Node) → NotBoth l r → Unmoved o l r
unfolding In
unmoved-single o l r nb so sl sr = rw (settle-single o l r nb) (go (decide o l r))
  where
    go : (d : Decision) → NoMoves (line_of [] d) → (to_left [] d o l r ≡ l) × (to_right [] d o l r ≡ r)
    go agreed h = (refl, refl)
    go left_gets h = absurd (h [] left_gets (inl refl) tt)
    go right_gets h = absurd (h [] right_gets (inl refl) tt)
    go clash h = (refl, refl)

unmoved-pair : (o : Node) (l r : Forest) → ((n : Name) → Unmoved (find n (kids o)) (find n l) (find n r)) → Unmoved o (folder l) (folder r)
unfolding settle
unmoved-pair o l r ih so sl sr h = (whole left l sl (λ n. (here n).0), whole right r sr (λ n. (here n).1))
  where
    k : Forest
    k = kids o

    sk : Sorted k
    sk = sorted-kids o so

    whole : (s : Result) (x : Forest) → Sorted x → ((n : Name) → new_node (to s) (settle (find n k) (find n l) (find n r)) ≡ find n x)
        → folder (new (to s) (plan k l r)) ≡ folder x
    whole s x sx e =
        ap folder (find-ext _ x (sorted-new (to s) (settles s) k l r sk sl sr) sx
        (λ n. new-find (to s) (settles s).agrees k l r n ∙ rw (to_below s n) (e n)))

    here : (n : Name) → (new_node to_left (settle (find n k) (find n l) (find n r)) ≡ find n l) × (new_node to_right (settle (find n k) (find n l) (find n r)) ≡ find n r)
    here n = ih n (sorted-child n o so) (sorted-find n l sl) (sorted-find n r sr) (λ p d i. h (n ∷ p) d (plan-in n p d k l r i))

unmoved : (o l r : Forest) → Sorted o → Sorted l → Sorted r → NoMoves (list (plan o l r)) → (new_left o l r ≡ l) × (new_right o l r ≡ r)
unfolding new_left new_right settle
unmoved o l r so sl sr h =
    let e = settle-ind Unmoved unmoved-single unmoved-pair (folder o) (folder l) (folder r) so sl sr h in
    (un-folder _ l e.0, un-folder _ r e.1)

abbrev SortedSides : Sides → Type 0
SortedSides s = Sorted s.left × Sorted s.right

sorted_after : (ms : Lines) (s : Sides) → SortedSides s → SortedSides (after ms s)
unfolding after
sorted_after [] s h = h
sorted_after (line p agreed ∷ ms) s h = sorted_after ms s h
sorted_after (line p clash ∷ ms) s h = sorted_after ms s h
sorted_after (line p left_gets ∷ ms) s h = sorted_after ms _ (sorted-moved p s.right s.left h.1 h.0, h.1)
sorted_after (line p right_gets ∷ ms) s h = sorted_after ms _ (h.0, sorted-moved p s.left s.right h.0 h.1)

pub finishes : (ms : Lines) (o l r : Forest) → Sorted o → Sorted l → Sorted r → Chosen ms (list (plan o l r)) → Finishes ms o l r
finishes ms o l r so sl sr c all =
    let s : Sides = after ms (record { left = l; right = r }) in
    let h = sorted_after ms (record { left = l; right = r }) (sl, sr) in
    let e = resumes ms o l r so sl sr c in
    let none : NoMoves (list (plan o s.left s.right)) = subst NoMoves (sym (ap (λ (u : Outcome). u.lines) e ∙ all)) (clashes-alone (list (plan o l r))) in
    let u = unmoved o s.left s.right so h.0 h.1 none in
    let a = sym u.0 ∙ ap (λ (v : Outcome). v.left) e in
    let b = sym u.1 ∙ ap (λ (v : Outcome). v.right) e in
    λ i. record { left = a i; right = b i }

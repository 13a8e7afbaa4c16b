-- One listed move, to the left or to the right: a run with the old archive lists the rest and gives the same three trees.
use mathlib.Core.Bool.{Bool, true, false, not}
use mathlib.Core.List.{[], ◌∷◌, map}
use mathlib.Core.Logic.{inl, inr}
use mathlib.Core.Path.{◌∙◌, ◌≡◌, ap, refl}
use Rattle.tree.specs.Forest.{TreePath, Forest, Node.folder, Sorted}
use Rattle.tree.specs.Put.{put}
use Rattle.settle.specs.Decision.{Decision, Decision.agreed, Decision.left_gets, Decision.right_gets, Decision.clash}
use Rattle.settle.specs.Plan.{plan, settle}
use Rattle.settle.specs.Results.{to_left, to_right, to_archive, new_left, new_right, new_archive, Line.line, Lines, list, Outcome, outcome}
use Rattle.settle.specs.Resume.{moved, In, keep_if, keep, same_path, with_lines}
use Rattle.settle.proofs.Picks.{Result.left, Result.right, Result.archive, settles}
use Rattle.settle.proofs.Outcome.{outcome-ext, un-folder}
use Rattle.settle.proofs.Mirror.{mirror, mirror_l, mirror_o, mirrored}
use Rattle.settle.proofs.Listed.{no-root, without}
use Rattle.settle.proofs.Step.{step}

pub move-left : (p : TreePath) (o l r : Forest) → Sorted o → Sorted l → Sorted r → In (line p left_gets) (list (plan o l r))
    → outcome o (moved p r l) r ≡ with_lines (without p (list (plan o l r))) (outcome o l r)
unfolding new_left new_right new_archive settle put
move-left [] o l r so sl sr h = no-root left_gets o l r h
move-left (n ∷ p) o l r so sl sr h =
    let s = step (folder o) (folder l) (folder r) (n ∷ p) so sl sr h in
    outcome-ext _ _ s.lines (un-folder _ _ (s.trees to_archive (settles archive))) (un-folder _ _ (s.trees to_left (settles left)))
    (un-folder _ _ (s.trees to_right (settles right)))

in-mirror : (p : TreePath) (xs : Lines) → In (line p right_gets) xs → In (line p left_gets) (map mirror_l xs)
unfolding In
in-mirror p [] h = h
in-mirror p (line q d ∷ xs) (inl e) = inl (ap mirror_l e)
in-mirror p (x ∷ xs) (inr h) = inr (in-mirror p xs h)

mirror-twice : (d : Decision) → mirror (mirror d) ≡ d
mirror-twice agreed = refl
mirror-twice left_gets = refl
mirror-twice right_gets = refl
mirror-twice clash = refl

mirror-without : (p : TreePath) (xs : Lines) → map mirror_l (without p (map mirror_l xs)) ≡ without p xs
unfolding keep
mirror-without p [] = refl
mirror-without p (line q d ∷ xs) = go (not (same_path p q)) (mirror-without p xs)
  where
    go : (w : Bool) → map mirror_l (without p (map mirror_l xs)) ≡ without p xs
        → map mirror_l (keep_if w (line q (mirror d)) (without p (map mirror_l xs))) ≡ keep_if w (line q d) (without p xs)
    go true e = rw (mirror-twice d, e)
    go false e = e

-- to the right, from one to the left by changing places
pub move-right : (p : TreePath) (o l r : Forest) → Sorted o → Sorted l → Sorted r → Sorted (moved p l r) → In (line p right_gets) (list (plan o l r))
    → outcome o l (moved p l r) ≡ with_lines (without p (list (plan o l r))) (outcome o l r)
move-right p o l r so sl sr sm h =
    let m = mirrored o l r so sl sr in
    let i = in-mirror p (list (plan o l r)) h in
    let e = move-left p o r l so sr sl (rw (ap (λ (u : Outcome). u.lines) m) i) in
    mirrored o (moved p l r) l so sm sl
    ∙ ap mirror_o (e ∙ ap (λ (u : Outcome). with_lines (without p u.lines) u) m)
    ∙ ap (λ (xs : Lines). with_lines xs (outcome o l r)) (mirror-without p (list (plan o l r)))

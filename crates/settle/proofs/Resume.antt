-- Demand 3 on trees: after any of the listed moves, in any order, a run with the old archive lists exactly the rest and
-- gives the same three trees.
use mathlib.Core.Bool.{Bool, true, false}
use mathlib.Core.List.{[], ◌∷◌}
use mathlib.Core.Logic.{inl, inr}
use mathlib.Core.Path.{◌∙◌, ◌≡◌, ap, refl, subst, sym}
use Rattle.tree.specs.Forest.{TreePath, Forest, Node.folder, Sorted, at}
use Rattle.tree.specs.Put.{put}
use Rattle.tree.proofs.Forest.{sorted-at, sorted-kids}
use Rattle.tree.proofs.Put.{sorted-put}
use Rattle.settle.specs.Decision.{Decision.agreed, Decision.left_gets, Decision.right_gets, Decision.clash}
use Rattle.settle.specs.Plan.{plan}
use Rattle.settle.specs.Results.{Line, Line.line, Lines, list, Outcome, outcome}
use Rattle.settle.specs.Resume.{moved, after, In, keep_if, keep, elsewhere, minus, Fresh, Chosen, with_lines, Resumes}
use Rattle.settle.proofs.Listed.{without}
use Rattle.settle.proofs.Move.{move-left, move-right}

in-keep : (f : Line → Bool) (x : Line) (xs : Lines) → f x ≡ true → In x xs → In x (keep f xs)
unfolding In keep
in-keep f x [] e h = h
in-keep f x (y ∷ ys) e (inl i) = rw (← i, e) (inl refl)
in-keep f x (y ∷ ys) e (inr h) = go (f y) (in-keep f x ys e h)
  where
    go : (w : Bool) → In x (keep f ys) → In x (keep_if w y (keep f ys))
    go true i = inr i
    go false i = i

still-chosen : (p : TreePath) (ms xs : Lines) → Fresh p ms → Chosen ms xs → Chosen ms (without p xs)
unfolding Fresh Chosen
still-chosen p [] xs f c = tt
still-chosen p (line q d ∷ ms) xs f c =
    (in-keep (elsewhere p) (line q d) xs f.0 c.0, c.1, c.2, still-chosen p ms xs f.1 c.3)

-- the moves ms are still to choose from where one move has been made
chosen-after : (p : TreePath) (ms : Lines) (u v : Outcome) → v ≡ with_lines (without p u.lines) u → Fresh p ms → Chosen ms u.lines
    → Chosen ms v.lines
chosen-after p ms u v e f c = subst (Chosen ms) (sym (ap (λ (w : Outcome). w.lines) e)) (still-chosen p ms u.lines f c)

pub sorted-moved : (p : TreePath) (s t : Forest) → Sorted s → Sorted t → Sorted (moved p s t)
sorted-moved p s t a b = sorted-kids (put p (at (folder s) p) (folder t)) (sorted-put p (at (folder s) p) (folder t) (sorted-at p (folder s) a) b)

pub resumes : (ms : Lines) (o l r : Forest) → Sorted o → Sorted l → Sorted r → Chosen ms (list (plan o l r)) → Resumes ms o l r
unfolding after minus Chosen
resumes [] o l r so sl sr c = refl
resumes (line p agreed ∷ ms) o l r so sl sr c = absurd c.1
resumes (line p clash ∷ ms) o l r so sl sr c = absurd c.1
resumes (line p left_gets ∷ ms) o l r so sl sr c =
    let e = move-left p o l r so sl sr c.0 in
    resumes ms o (moved p r l) r so (sorted-moved p r l sr sl) sr (chosen-after p ms (outcome o l r) (outcome o (moved p r l) r) e c.2 c.3)
    ∙ ap (λ (u : Outcome). with_lines (minus ms u.lines) u) e
resumes (line p right_gets ∷ ms) o l r so sl sr c =
    let sm = sorted-moved p l r sl sr in
    let e = move-right p o l r so sl sr sm c.0 in
    resumes ms o l (moved p l r) so sl sm (chosen-after p ms (outcome o l r) (outcome o l (moved p l r)) e c.2 c.3)
    ∙ ap (λ (u : Outcome). with_lines (minus ms u.lines) u) e

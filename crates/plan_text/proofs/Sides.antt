-- A reconciliation lists no path at which both sides hold nothing: that is agreed.
use mathlib.Core.List.{[], ◌∷◌}
use mathlib.Core.Logic.{◌⊎◌, inl, inr}
use mathlib.Core.Path.{refl}
use Rattle.tree.specs.Name.{Name}
use Rattle.tree.specs.Forest.{TreePath, Forest, Node, Node.absent, Node.file, Node.folder, Present, at, find, kids}
use Rattle.settle.specs.Decision.{Decision}
use Rattle.settle.specs.Plan.{plan, settle}
use Rattle.settle.specs.Results.{Line.line, Lines, list, outcome}
use Rattle.settle.specs.Resume.{In}
use Rattle.settle.proofs.Induct.{NotBoth, settle-ind}
use Rattle.settle.proofs.Lines.{lines_of}
use Rattle.settle.proofs.Listed.{in-plan-cons, not-below}
use Rattle.settle.proofs.Sorted.{decide-same}
use Rattle.plan_text.specs.Sides.{OnASide, Sided}

abbrev Shown : Node → Node → Node → Type 0
Shown o l r = (p : TreePath) (d : Decision) → In (line p d) (lines_of (settle o l r)) → Present (at l p) ⊎ Present (at r p)

here : (d : Decision) (o l r : Node) → In (line [] d) (lines_of (settle o l r)) → Present l ⊎ Present r
unfolding settle In
here d o (file c) r h = inl tt
here d o (folder f) r h = inl tt
here d o absent (file c) h = inr tt
here d o absent (folder f) h = inr tt
here d o absent absent h = absurd (rw (decide-same o absent) at h)

one : (o l r : Node) → NotBoth l r → Shown o l r
unfolding at
one o l r nb [] d h = here d o l r h
one o l r nb (n ∷ p) d h = not-below n p d o l r nb h

two : (o : Node) (l r : Forest) → ((n : Name) → Shown (find n (kids o)) (find n l) (find n r)) → Shown o (folder l) (folder r)
unfolding at settle
two o l r ih [] d h = inl tt
two o l r ih (n ∷ p) d h = ih n p d (in-plan-cons n p d (kids o) l r h)

each : (l r : Forest) (xs : Lines) → ((p : TreePath) (d : Decision) → In (line p d) xs → OnASide l r (line p d)) → Sided l r xs
unfolding Sided In
each l r [] h = tt
each l r (line p d ∷ xs) h = (h p d (inl refl), each l r xs (λ q e i. h q e (inr i)))

pub listed-sided : (o l r : Forest) → Sided l r (outcome o l r).lines
unfolding settle
listed-sided o l r = each l r (list (plan o l r)) (settle-ind Shown one two (folder o) (folder l) (folder r))

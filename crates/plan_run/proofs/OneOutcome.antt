-- Two outcomes of a reconciliation that meet its contract are equal: the answer, the four buffers and the tally.
use mathlib.Core.Path.{◌≡◌, sym, ◌∙◌}
use mathlib.Core.List.{List}
use Prim.Native.Nat.{ℕ}
use Rattle.tree.specs.declared.Profile.{Profile}
use Rattle.plan_run.specs.Answer.{Reconciled}
use Rattle.plan_run.specs.Run.{Lent, ReconcileContract}

pub reconcile-one : (p : Profile) (o l r : List ℕ) (before after after' : Lent) (a b : Reconciled)
    → ReconcileContract p o l r before after a → ReconcileContract p o l r before after' b → (a ≡ b) × (after ≡ after')
reconcile-one p o l r before after after' a b h k = (h.answered ∙ sym k.answered, h.left_in ∙ sym k.left_in)

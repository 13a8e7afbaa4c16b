-- `decode` reads the four words of item k.
use mathlib.Core.Path.{sym, ◌∙◌}
use borrow.Author.Tests.{ne_eqb}
use Rattle.plan_results.proofs.Read.{decision-at}
use Rattle.plan_decode.proofs.decode.Goals as goal

pub returns-in-0 : goal.returns-in-0
returns-in-0 c =
    let a = c.args in
    sym (decision-at a.plan.now a.k ∙ rw c.in-0.is)

pub returns-in-1 : goal.returns-in-1
returns-in-1 c =
    let a = c.args in
    sym (decision-at a.plan.now a.k ∙ rw c.in-1.is)

pub returns-in-2 : goal.returns-in-2
returns-in-2 c =
    let a = c.args in
    sym (decision-at a.plan.now a.k ∙ rw c.in-2.is)

pub returns-in_default : goal.returns-in_default
returns-in_default c =
    let a = c.args in
    let n = c.in_default.in_default-own.rest in
    sym (decision-at a.plan.now a.k ∙ rw (ne_eqb _ _ n.0.0.1, ne_eqb _ _ n.0.1, ne_eqb _ _ n.1))

-- `table_carry::carried` meets its contract: branch by branch.
use mathlib.Core.Path.{sym, ◌∙◌}
use borrow.Author.Tests.{eq-eqb, ne_eqb}
use Rattle.table_rules.proofs.Passed.{passed-whole}
use Rattle.table_carry.specs.Carried.{carried_rows}
use Rattle.table_carry.proofs.Checks.{both-pass}
use Rattle.table_carry.proofs.carried.Goals as goal
use Rattle.table_carry.proofs.carried.Goals.{else-both_pass, then-both_pass+else-kind-eq1+else-kind-eq2}

pub part-requires : goal.part-requires
part-requires c =
    let a = c.args in
    passed-whole a.profile a.right.now (both-pass a.profile a.left.now a.right.now (sym c.both_pass.ensures ∙ c.if-both_pass.true)).1

pub returns-then-kind-eq1 : goal.returns-then-kind-eq1
unfolding carried_rows
returns-then-kind-eq1 c = rw (← c.both_pass.ensures, c.if-both_pass.true, eq-eqb _ _ c.if-kind-eq1.true) c.part.ensures

pub part-requires-then-kind-eq2 : goal.part-requires-then-kind-eq2
part-requires-then-kind-eq2 c =
    let a = c.args in
    passed-whole a.profile a.left.now (both-pass a.profile a.left.now a.right.now (sym c.both_pass.ensures ∙ c.if-both_pass.true)).0

pub returns-then-kind-eq2 : goal.returns-then-kind-eq2
unfolding carried_rows
returns-then-kind-eq2 c =
    rw (← c.both_pass.ensures, c.if-both_pass.true, ne_eqb _ _ c.if-kind-eq1.false, eq-eqb _ _ c.if-kind-eq2.true) c.part-then-kind-eq2.ensures

pub returns : goal.returns
unfolding carried_rows
returns c =
    elim c.if-both_pass.branch [ then-both_pass+else-kind-eq1+else-kind-eq2 w ↦ rw (← c.both_pass.ensures, w.if-both_pass.true, ne_eqb _ _ w.if-kind-eq1.false, ne_eqb _ _ w.if-kind-eq2.false) | else-both_pass w ↦ rw (← c.both_pass.ensures, w.if-both_pass.false) ]

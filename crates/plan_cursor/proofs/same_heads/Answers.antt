-- `plan_cursor::same_heads` meets its contract: two comparisons of names, where three rows are there.
use mathlib.Core.Path.{sym, ◌∙◌}
use Rattle.plan_cursor.proofs.Laws.{least-same}
use Rattle.plan_cursor.proofs.same_heads.Goals as goal

pub returns-then-same_names : goal.returns-then-same_names
returns-then-same_names c e =
    let a = c.args in
    let x = rw c.in-Some.is at c.row_of.ensures in
    let y = rw c.in-Some-row_of.is at c.row_of-2.ensures in
    let z = rw c.in-Some-row_of-2.is at c.row_of-3.ensures in
    least-same a.t.o.now a.t.l.now a.t.r.now a.h x.1 y.1 z.1
    (rw (← x.0, ← y.0) (sym c.same_names-then-same_names.ensures ∙ e))
    (rw (← y.0, ← z.0) (sym c.same_names.ensures ∙ c.if-same_names.true))

-- `plan_cursor::scan` meets its contract: rows are passed until one is not deeper.
use mathlib.Core.Path.{sym, ◌∙◌}
use borrow.Author.Rules.{rules}
use Rattle.plan_cursor.proofs.Laws.{seek-end, seek-here, seek_stop, seek-deep}
use Rattle.plan_cursor.proofs.scan.Goals as goal

pub returns-then-e-d : goal.returns-then-e-d
returns-then-e-d c =
    let a = c.args in
    sym (c.loop-j.invariant ∙ seek-here a.t.now a.d c.loop-j.j (search rules) (search rules))

pub returns-then-e-d-2 : goal.returns-then-e-d-2
returns-then-e-d-2 c =
    let a = c.args in
    sym (c.loop-j.invariant ∙ seek_stop a.t.now a.d c.loop-j.j (search rules) (search rules))

pub loop-j-preserved : goal.loop-j-preserved
loop-j-preserved c =
    let a = c.args in
    c.loop-j.invariant ∙ seek-deep a.t.now a.d c.loop-j.j (search rules) (search rules)

pub returns : goal.returns
returns c =
    let a = c.args in
    sym (c.loop-j.invariant ∙ seek-end a.t.now a.d c.loop-j.j (search rules))

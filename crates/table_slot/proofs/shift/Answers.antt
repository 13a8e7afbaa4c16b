-- `table_slot::shift` meets its contract: the copy is what is written.
use Rattle.std.proofs.Common.{rules, ◌∙◌}
use Rattle.table_slot.proofs.Words.{shifted}
use Rattle.table_slot.proofs.shift.Goals as goal

pub returns : goal.returns
returns c =
    let a = c.args in
    c.copy_within.ensures.after ∙ shifted a.t.now a.a a.e (search rules)

-- `table_carry::passes` meets its contract: the answer is the one that is due.
use Rattle.std.proofs.Common.{◌∙◌}
use Rattle.table_rules.proofs.Passing.{check-is}
use Rattle.table_carry.proofs.passes.Goals as goal

pub returns : goal.returns
returns c = c.is_ok.ensures.value ∙ rw (check-is _ _ _ c.check_table.ensures)

-- `table_carry::both_pass` meets its contract: the right table is looked at where the left passes.
use Rattle.table_carry.proofs.both_pass.Goals as goal

pub returns-then-passes : goal.returns-then-passes
returns-then-passes c = rw (← c.passes.ensures, c.if-passes.true) c.passes-then-passes.ensures

pub returns-else-passes : goal.returns-else-passes
returns-else-passes c = rw (← c.passes.ensures, c.if-passes.false)

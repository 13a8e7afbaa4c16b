-- `is_called` meets its contract: the words before word k are the same.
use borrow.Author.Rules.{rules}
use Rattle.table_row.proofs.Compare.{alike-differ, alike_next, alike_end}
use Rattle.table_entry.proofs.is_called.Goals as goal

pub returns-then-name-k : goal.returns-then-name-k
returns-then-name-k c = rw (← c.name-called.ensures.0) (alike-differ _ _ _ c.if-name-k.true)

pub loop-k-preserved : goal.loop-k-preserved
loop-k-preserved c = alike_next c.loop-k.invariant (search rules) (search rules) c.if-name-k.false

pub returns : goal.returns
returns c = rw (← c.name-called.ensures.0) (alike_end c.loop-k.invariant (search rules) (search rules))

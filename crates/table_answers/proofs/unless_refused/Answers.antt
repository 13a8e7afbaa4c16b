-- `table_answers::unless_refused` meets its contract: case by case.
use Rattle.table_answers.proofs.unless_refused.Goals as goal

pub returns-then-ok : goal.returns-then-ok
returns-then-ok c = rw c.if-ok.true

pub returns : goal.returns
returns c = rw c.if-ok.false

-- `table_answers::has_room` meets its contract: both bounds.
use borrow.Author.Tests.{le-leb, lt-leb}
use Rattle.table_rules.specs.Faults.{room_rule}
use Rattle.table_answers.proofs.has_room.Goals as goal

pub returns-then-n-le4096 : goal.returns-then-n-le4096
unfolding room_rule
returns-then-n-le4096 c = rw (le-leb _ _ c.if-n-le4096.true)

pub returns-else-n-le4096 : goal.returns-else-n-le4096
unfolding room_rule
returns-else-n-le4096 c = rw (lt-leb _ _ c.if-n-le4096.false)

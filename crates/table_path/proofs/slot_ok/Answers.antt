-- `table_path::slot_ok` meets its contract: a good name within the depth, zeros past it.
use Rattle.table_path.proofs.slot_ok.Goals as goal

pub returns-then-within : goal.returns-then-within
returns-then-within c = rw c.if-within.true c.good_name.ensures

pub returns : goal.returns
returns c = rw c.if-within.false c.all_zero.ensures

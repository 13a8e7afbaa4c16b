-- `is_called` meets its contract: the words before word k are the same.
use Rattle.table_row.proofs.Compare.{Alike}
use Rattle.table_entry.proofs.is_called.Given as goal

abbrev pub invariant-loop-k : goal.invariant-loop-k
invariant-loop-k l = Alike l.name l.called l.k

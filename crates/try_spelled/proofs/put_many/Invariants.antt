-- `try_spelled::put_many` is safe: what is put is within the table.
use Rattle.std.proofs.Common.{length, ◌≤◌}
use Rattle.try_spelled.proofs.put_many.Given as goal

abbrev pub invariant-loop-i : goal.invariant-loop-i
invariant-loop-i l = l.end ≤ length l.table

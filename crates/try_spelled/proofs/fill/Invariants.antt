-- `try_spelled::fill` is safe: what is put is within the table.
use Rattle.std.proofs.Common.{length, ◌≤◌}
use Rattle.try_spelled.proofs.fill.Given as goal

abbrev pub invariant-loop-row : goal.invariant-loop-row
invariant-loop-row l = l.words ≤ length l.table

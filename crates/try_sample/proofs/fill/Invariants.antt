-- `try_sample::fill` is safe: every row that it fills is within the table.
use Rattle.std.proofs.Common.{length, ◌≤◌}
use Rattle.try_sample.proofs.fill.Given as goal

abbrev pub invariant-loop-depth : goal.invariant-loop-depth
invariant-loop-depth l = l.words ≤ length l.table

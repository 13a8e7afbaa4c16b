-- `try_show::kept` is safe: no more are counted than were looked at.
use Rattle.std.proofs.Common.{◌≤◌}
use Rattle.try_show.proofs.kept.Given as goal

abbrev pub invariant-loop-x : goal.invariant-loop-x
invariant-loop-x g l = l.n ≤ l.x-index

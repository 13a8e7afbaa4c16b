-- `try_check::change` is safe: it ends at the last change.
use Rattle.std.proofs.Common.{◌<◌}
use Rattle.try_check.proofs.change.Given as goal

abbrev pub invariant-loop-i : goal.invariant-loop-i
invariant-loop-i l = (l.k < 10) × (l.n < 10)

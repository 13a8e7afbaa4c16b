-- `try_show::sum` is safe: the sum stays below 2^32.
use Rattle.std.proofs.Common.{◌<◌}
use Rattle.try_show.proofs.sum.Given as goal

abbrev pub invariant-loop-word : goal.invariant-loop-word
invariant-loop-word l = l.s < 4294967296

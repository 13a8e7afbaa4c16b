-- `try_bytes::decode` is safe: each piece of the line has a byte.
use Rattle.std.proofs.Common.{length, ◌≤◌}
use Rattle.try_bytes.proofs.decode.Given as goal

abbrev pub invariant-loop-b : goal.invariant-loop-b
invariant-loop-b l = l.n ≤ length l.text

abbrev pub decreases-loop-b : goal.decreases-loop-b
decreases-loop-b l = length l.left

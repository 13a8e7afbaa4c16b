-- `try_texts::grow` is safe: what is put is within the text, and a name's number stays small.
use Rattle.std.proofs.Common.{length, ◌≤◌, ◌<◌}
use Rattle.try_texts.proofs.grow.Given as goal

abbrev pub invariant-loop : goal.invariant-loop
invariant-loop l = (l.n ≤ length l.text) × (l.k < 4096)

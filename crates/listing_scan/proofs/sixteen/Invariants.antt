-- `sixteen` meets its contract: while the flag is set, the bytes before the one at b-index are plain.
use mathlib.Core.Path.{◌≡◌}
use mathlib.Core.Bool.{true}
use Prim.Native.Nat.{◌+◌}
use Rattle.listing_scan.specs.Plain.{Past}
use Rattle.listing_scan.proofs.sixteen.Given as goal

abbrev pub invariant-loop-b : goal.invariant-loop-b
invariant-loop-b l = l.all ≡ true → Past l.least l.text l.from (l.from + l.b-index)

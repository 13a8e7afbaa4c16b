-- `past_sixteens` meets its contract: the bytes before place i are plain.
use lib.ListN.{length}
use Prim.Native.Nat.{◌-◌}
use Rattle.listing_scan.specs.Plain.{Past}
use Rattle.listing_scan.proofs.past_sixteens.Given as goal

abbrev pub invariant-loop-i : goal.invariant-loop-i
invariant-loop-i l = Past l.least l.text l.from l.i

abbrev pub decreases-loop-i : goal.decreases-loop-i
decreases-loop-i l = length l.text - l.i

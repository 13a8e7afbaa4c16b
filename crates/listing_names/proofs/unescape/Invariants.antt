-- `unescape` meets its contract: the first n bytes are what the bytes before place i spell, and none of them is 0.
use lib.ListN.{length}
use Prim.Native.Nat.{◌-◌}
use Rattle.listing_names.proofs.Spelling.{Written}
use Rattle.listing_names.proofs.unescape.Given as goal

abbrev pub invariant-loop-i : goal.invariant-loop-i
invariant-loop-i l = Written l.word l.bytes l.n l.i

abbrev pub decreases-loop-i : goal.decreases-loop-i
decreases-loop-i l = length l.word - l.i

-- `packed_pairs` meets its contract: the first i bytes are what the values before place 2 * i say.
use lib.ListN.{drop}
use Prim.Native.Nat.{◌*◌}
use Rattle.listing_values.specs.Values.{pairs}
use Rattle.listing_values.proofs.Digests.{Filled}
use Rattle.listing_values.proofs.packed_pairs.Given as goal

abbrev pub invariant-loop-i : goal.invariant-loop-i
invariant-loop-i l = Filled (pairs l.digits) l.bytes (pairs (drop (2 * l.i) l.digits)) 32 l.i

-- `hex_values` meets its contract: the first i are the values of the first i digits.
use mathlib.Core.List.{map}
use lib.ListN.{drop}
use Rattle.listing.specs.Bytes.{digit_value}
use Rattle.listing_values.proofs.Digests.{Filled}
use Rattle.listing_values.proofs.hex_values.Given as goal

abbrev pub invariant-loop-i : goal.invariant-loop-i
invariant-loop-i l = Filled (map digit_value l.value) l.digits (map digit_value (drop l.i l.value)) 64 l.i

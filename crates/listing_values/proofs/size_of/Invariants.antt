-- `size_of` meets its contract: the digits before place i say v, and v fits 64 bits.
use mathlib.Core.Path.{◌≡◌}
use lib.ListN.{drop}
use Prim.Native.Nat.{◌<◌}
use Rattle.listing.specs.Values.{digits, decimal_from, size_of}
use Rattle.listing_values.proofs.size_of.Given as goal

abbrev pub invariant-loop-b : goal.invariant-loop-b
invariant-loop-b l = (l.v < 18446744073709551616) × (digits 10 l.value ≡ digits 10 (drop l.b-index l.value)) × (size_of l.value ≡ decimal_from l.v (drop l.b-index l.value))

-- `listing_numbers::fill_digits` meets its contract: k digits may still stand before those that are filled in.
use mathlib.Core.Path.{◌≡◌}
use mathlib.Core.List.{[]}
use lib.ListN.{length, drop}
use Prim.Native.Nat.{◌≤◌}
use Rattle.listing.specs.Writing.{decimal}
use Rattle.listing_numbers.proofs.fill_digits.Given as goal

abbrev pub invariant-loop-k : goal.invariant-loop-k
invariant-loop-k l = (l.k ≤ 20) × (length l.digits ≡ 20) × (decimal l.k l.m (drop l.k l.digits) ≡ decimal 20 l.n [])

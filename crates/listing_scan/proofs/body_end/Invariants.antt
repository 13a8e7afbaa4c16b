-- `body_end` meets its contract: from place i on, the line still has as many bytes as are missing.
use mathlib.Core.Path.{◌≡◌}
use lib.ListN.{length, drop}
use Prim.Native.Nat.{◌+◌, ◌≤◌}
use Rattle.listing.specs.Lines.{len_in}
use Rattle.listing.specs.declared.Mode.TheVariants.{Body}
use Rattle.listing_scan.proofs.Tests.{after}
use Rattle.listing_scan.proofs.body_end.Given as goal

abbrev pub invariant-loop-i : goal.invariant-loop-i
invariant-loop-i l = (l.i ≤ length l.text) × (l.from + len_in Body (drop l.from l.text) ≡ l.i + len_in (after l.back) (drop l.i l.text))

-- `stretch_end` meets its contract: from the start to place i all bytes are blanks, or none is.
use mathlib.Core.Path.{◌≡◌}
use lib.ListN.{length, drop}
use Prim.Native.Nat.{◌+◌, ◌≤◌}
use Rattle.listing_scan.specs.Places.{stretch}
use Rattle.listing_words.proofs.stretch_end.Given as goal

abbrev pub invariant-loop-i : goal.invariant-loop-i
invariant-loop-i l = (l.i ≤ length l.line) × (l.from + stretch l.blanks (drop l.from l.line) ≡ l.i + stretch l.blanks (drop l.i l.line))

-- `line_end` meets its contract: from place i on, in mode m, the line still has as many bytes as are missing.
use mathlib.Core.Path.{◌≡◌}
use mathlib.Core.Bool.{false}
use lib.ListN.{length, drop}
use Prim.Native.Nat.{◌+◌, ◌≤◌}
use Rattle.listing.specs.Lines.{is_done, len_in}
use Rattle.listing.specs.declared.Mode.TheVariants.{Lead}
use Rattle.listing_scan.proofs.line_end.Given as goal

abbrev pub invariant-loop-i : goal.invariant-loop-i
invariant-loop-i l = (l.i ≤ length l.text) × (is_done l.m ≡ false) × (l.from + len_in Lead (drop l.from l.text) ≡ l.i + len_in l.m (drop l.i l.text))

-- `read_lines` meets its contract: what is left to run from the state so far is what the whole text comes to.
use lib.ListN.{length}
use Prim.Native.Nat.{◌+◌, ◌-◌, ◌≤◌}
use Rattle.listing_read_lines.proofs.Going.{Going}
use Rattle.listing_read_lines.proofs.read_lines.Given as goal

abbrev pub invariant-loop-i : goal.invariant-loop-i
invariant-loop-i l = (l.i ≤ length l.text) × (l.line ≤ l.i + 1) × Going l.profile l.text (length l.initial.t) l.t l.s l.i l.line

abbrev pub decreases-loop-i : goal.decreases-loop-i
decreases-loop-i l = length l.text - l.i

-- `count_kind` counts the entries of a kind.
use mathlib.Core.Path.{◌≡◌}
use lib.ListN.{length}
use Prim.Native.Nat.{◌≤◌, ◌+◌, ◌/◌}
use Rattle.plan_tally.specs.Count.{counted}
use Rattle.plan_tally.proofs.Laws.{rest}
use Rattle.plan_tally.proofs.count_kind.Given as goal

abbrev pub invariant-loop-i : goal.invariant-loop-i
invariant-loop-i l = (l.i ≤ length l.list / 3) × ((l.sum ≤ l.i) × (l.sum + rest l.kind (length l.list / 3) l.list l.i ≡ counted l.kind (length l.list / 3) l.list))

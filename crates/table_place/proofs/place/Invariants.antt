-- `place` finds the place: the loop searches on from row i.
use mathlib.Core.Path.{◌≡◌}
use lib.ListN.{drop}
use Prim.Native.Nat.{◌+◌, ◌≤◌}
use Rattle.table_row.specs.Table.{rows}
use Rattle.table_find.specs.Entry.{seek, up_to}
use Rattle.table_place.proofs.place.Given as goal

abbrev pub invariant-loop-i : goal.invariant-loop-i
invariant-loop-i l = (l.i ≤ l.n) × (seek (up_to l.name) l.d (l.f + 1) (drop (l.f + 1) (rows l.t)) ≡ seek (up_to l.name) l.d l.i (drop l.i (rows l.t)))

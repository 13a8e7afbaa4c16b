-- `spot_from` meets its contract: the search goes on from row i.
use mathlib.Core.Path.{◌≡◌}
use lib.ListN.{drop}
use Prim.Native.Nat.{◌≤◌}
use Rattle.tree.specs.Key.{key}
use Rattle.table_row.specs.Table.{rows}
use Rattle.table_row.specs.Keyed.{keyed}
use Rattle.table_slot.specs.Insert.{spot_in}
use Rattle.table_slot.proofs.spot_from.Given as goal

abbrev pub invariant-loop-i : goal.invariant-loop-i
invariant-loop-i l = (l.i ≤ l.n) × (spot_in (key l.profile l.name) l.d l.from (drop l.from (rows (keyed l.profile l.t))) ≡ spot_in (key l.profile l.name) l.d l.i (drop l.i (rows (keyed l.profile l.t))))

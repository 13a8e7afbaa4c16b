-- `subtree_end` finds the end: the run from row e on and the rows passed are the run from row i + 1 on.
use mathlib.Core.Path.{◌≡◌}
use lib.ListN.{length, drop}
use Prim.Native.Nat.{◌+◌, ◌/◌, ◌≤◌}
use Rattle.table_row.specs.Table.{rows}
use Rattle.table_find.specs.Subtree.{run}
use Rattle.table_find.proofs.subtree_end.Given as goal

abbrev pub invariant-loop-e : goal.invariant-loop-e
invariant-loop-e l = (l.n ≡ length l.t / 20) × (l.e ≤ l.n) × (l.e + run l.d (drop l.e (rows l.t)) ≡ l.i + 1 + run l.d (drop (l.i + 1) (rows l.t)))

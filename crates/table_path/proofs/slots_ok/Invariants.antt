-- `table_path::slots_ok` meets its contract: no slot before slot i is bad.
use mathlib.Core.Path.{◌≡◌}
use lib.ListN.{drop}
use Prim.Native.Nat.{◌-◌}
use Rattle.table_moved.specs.Path.{slots}
use Rattle.table_path.proofs.slots_ok.Given as goal

abbrev pub invariant-loop-i : goal.invariant-loop-i
invariant-loop-i l = slots l.depth l.fn.names ≡ slots (l.depth - l.i) (drop l.i l.fn.names)

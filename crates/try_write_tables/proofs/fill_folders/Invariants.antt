-- `try_write_tables::fill_folders` is safe: every row that it fills is one of 26.
use mathlib.Core.Path.{◌≡◌}
use lib.ListN.{length}
use Prim.Native.Nat.{◌-◌, ◌≤◌}
use Rattle.try_write_tables.proofs.fill_folders.Given as goal

abbrev pub invariant-loop-d : goal.invariant-loop-d
invariant-loop-d l = (1 ≤ l.d) × (length l.table ≡ 520)

abbrev pub decreases-loop-d : goal.decreases-loop-d
decreases-loop-d l = 17 - l.d

-- `table_keys::key_table` meets its contract: the rows before row i have their keys, and those from it on are copied.
use mathlib.Core.Path.{◌≡◌}
use lib.ListN.{length, drop}
use Prim.Native.Nat.{◌≤◌}
use Rattle.tree.specs.declared.Profile.TheVariants.{Folded}
use Rattle.table_row.proofs.Keyed.{mixed}
use Rattle.table_keys.proofs.key_table.Given as goal

abbrev pub invariant-loop-i : goal.invariant-loop-i
invariant-loop-i l = (l.i ≤ l.n) × (length l.out ≡ length l.initial.out) × (l.out ≡ mixed Folded l.i l.t (drop (length l.t) l.initial.out))

-- `table_names::filled_from` meets its contract: byte k decides, or the bytes after it.
use mathlib.Core.Path.{◌≡◌}
use lib.ListN.{length, drop}
use Prim.Native.Nat.{◌≤◌}
use Rattle.tree.specs.Rules.{zero_filled, bytes}
use Rattle.table_names.proofs.filled_from.Given as goal

abbrev pub invariant-loop-k : goal.invariant-loop-k
invariant-loop-k l = (l.k ≤ 32) × (length (bytes l.s) ≡ 32) × (zero_filled (drop l.from (bytes l.s)) ≡ zero_filled (drop l.k (bytes l.s)))

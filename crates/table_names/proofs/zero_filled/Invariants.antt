-- `table_names::zero_filled` meets its contract: the words before word k are plain, so those from it on decide.
use mathlib.Core.Path.{◌≡◌}
use lib.ListN.{drop}
use Prim.Native.Nat.{◌≤◌}
use Rattle.tree.specs.Rules.{zero_filled, bytes}
use Rattle.table_names.proofs.zero_filled.Given as goal

abbrev pub invariant-loop-k : goal.invariant-loop-k
invariant-loop-k l = (l.k ≤ 8) × (zero_filled (bytes l.s) ≡ zero_filled (bytes (drop l.k l.s)))

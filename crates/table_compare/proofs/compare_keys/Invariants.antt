-- `table_compare::compare_keys` meets its contract: the words of the keys before word k are the same.
use mathlib.Core.Path.{◌≡◌}
use lib.ListN.{length, drop}
use Prim.Native.Nat.{◌≤◌}
use Rattle.tree.specs.Name.{cmp}
use Rattle.tree.specs.Key.{key}
use Rattle.table_compare.proofs.compare_keys.Given as goal

abbrev pub invariant-loop-k : goal.invariant-loop-k
invariant-loop-k l = (l.k ≤ length l.a) × (cmp (key l.profile l.a) (key l.profile l.b) ≡ cmp (drop l.k (key l.profile l.a)) (drop l.k (key l.profile l.b)))

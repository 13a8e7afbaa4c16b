-- `same_below` compares two subtrees from their second rows on: the first k rows of each are the same, and both have n.
use mathlib.Core.Path.{◌≡◌}
use Prim.Native.Nat.{◌≤◌}
use Rattle.table_find.proofs.Same.{block}
use Rattle.table_find.proofs.same_below.Given as goal

abbrev pub invariant-loop-k : goal.invariant-loop-k
invariant-loop-k l = (l.k ≤ l.n) × (block l.w l.i l.k ≡ block l.v l.j l.k)

-- `table_compare::same_names` meets its contract: the flag says that the words before word k are the same.
use mathlib.Core.Path.{◌≡◌}
use mathlib.Core.Bool.{◌&&◌}
use mathlib.Core.List.{List}
use lib.ListN.{drop}
use Prim.Native.Nat.{ℕ, ◌≤◌}
use Rattle.tree.specs.Same.{same_words}
use Rattle.table_row.specs.Table.{row_at, name}
use Rattle.table_compare.proofs.same_names.Given as goal

abbrev pub name_of : List ℕ → ℕ → List ℕ
name_of w i = name (row_at w i)

abbrev pub invariant-loop-k : goal.invariant-loop-k
invariant-loop-k l =
    (l.k ≤ 8) × ((l.same && same_words (drop l.k (name_of l.a l.i)) (drop l.k (name_of l.b l.j))) ≡ same_words (name_of l.a l.i) (name_of l.b l.j))

-- `table_route::folder_of` meets its contract: no row from row k on and before row i is less deep.
use mathlib.Core.Path.{◌≡◌}
use Prim.Native.Nat.{◌≤◌}
use Rattle.table_route.specs.Route.{last_above}
use Rattle.table_route.proofs.folder_of.Given as goal

abbrev pub invariant-loop-k : goal.invariant-loop-k
invariant-loop-k l = (l.k ≤ l.i) × (last_above l.t l.d l.k ≡ last_above l.t l.d l.i)

-- `count_list` counts the list's words.
use lib.ListN.{length}
use Prim.Native.Nat.{◌/◌}
use Rattle.plan_results.specs.Decisions.{decided, pieces}
use Rattle.plan_results.specs.Pieces.{piece_list}
use Rattle.plan_results.proofs.Rest.{Counting}
use Rattle.plan_list.proofs.count_list.Given as goal

abbrev pub invariant-loop-k : goal.invariant-loop-k
invariant-loop-k l = Counting piece_list l.plan (length l.plan / 4) (length (pieces piece_list (decided l.plan))) l.sum l.k

-- `write_list` writes the list.
use lib.ListN.{length}
use Prim.Native.Nat.{◌/◌}
use Rattle.plan_results.specs.Pieces.{piece_list}
use Rattle.plan_results.proofs.Rest.{Writing}
use Rattle.plan_list.proofs.write_list.Given as goal

abbrev pub invariant-loop-k : goal.invariant-loop-k
invariant-loop-k l = Writing piece_list l.plan (length l.plan / 4) l.initial.out l.initial.at l.out l.at l.k

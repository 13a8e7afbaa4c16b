-- `write_tree` writes a new tree.
use lib.ListN.{length}
use Prim.Native.Nat.{◌/◌}
use Rattle.plan_results.specs.Pieces.{piece_of}
use Rattle.plan_results.proofs.Rest.{Writing}
use Rattle.plan_trees.proofs.write_tree.Given as goal

abbrev pub invariant-loop-k : goal.invariant-loop-k
invariant-loop-k l = Writing (piece_of l.tree l.t.o.now l.t.l.now l.t.r.now) l.plan (length l.plan / 4) l.initial.out l.initial.at l.out l.at l.k

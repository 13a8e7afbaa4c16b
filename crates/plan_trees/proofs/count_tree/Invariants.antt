-- `count_tree` counts a new tree's words.
use lib.ListN.{length}
use Prim.Native.Nat.{◌/◌}
use Rattle.plan_results.specs.Decisions.{decided}
use Rattle.plan_results.specs.Pieces.{piece_of, new_tree}
use Rattle.plan_results.proofs.Rest.{Counting}
use Rattle.plan_trees.proofs.count_tree.Given as goal

abbrev pub invariant-loop-k : goal.invariant-loop-k
invariant-loop-k l = Counting (piece_of l.tree l.t.o.now l.t.l.now l.t.r.now) l.plan (length l.plan / 4) (length (new_tree l.tree l.t.o.now l.t.l.now l.t.r.now (decided l.plan))) l.sum l.k

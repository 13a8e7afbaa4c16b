-- `write_tree` writes a new tree.
use mathlib.Core.Path.{◌∙◌}
use native.Mathlib.Omega.{arith}
use borrow.Author.Rules.{rules}
use Rattle.plan.proofs.Writes.{then, copied, filled}
use Rattle.plan_results.specs.Decisions.{decided}
use Rattle.plan_results.specs.Pieces.{new_tree}
use Rattle.plan_results.proofs.Rest.{write-start, room, write-next, write-end}
use Rattle.plan_results.proofs.Pieces.{tree-split, tree-room}
use Rattle.plan_trees.proofs.write_tree.Goals as goal

pub copy_words-at-requires : goal.copy_words-at-requires
copy_words-at-requires c =
    let a = c.args in
    omega (arith, tree-split a.tree a.t.o.now a.t.l.now a.t.r.now (decided a.plan.now), c.requires.plan_in_bounds)

pub loop-k-init : goal.loop-k-init
loop-k-init c = write-start

-- there is room for the pieces behind the root's row
pub write_piece-at-requires : goal.write_piece-at-requires
write_piece-at-requires c =
    let a = c.args in
    let y = decided a.plan.now in
    let q = c.copy_words-at in
    let m = tree-room a.tree a.t.o.now a.t.l.now a.t.r.now y c.requires.plan_in_bounds q.ensures.0 q.auto.dst in
    rw c.decode-d.ensures (room c.loop-k.invariant (search rules) m)

pub loop-k-preserved : goal.loop-k-preserved
loop-k-preserved c =
    let a = c.args in
    let y = decided a.plan.now in
    let q = c.copy_words-at in
    let m = tree-room a.tree a.t.o.now a.t.l.now a.t.r.now y c.requires.plan_in_bounds q.ensures.0 q.auto.dst in
    let e = rw c.decode-d.ensures at c.write_piece-at.ensures in
    write-next c.loop-k.invariant (search rules) m c.write_piece-at.auto.out e

pub shape_of-out : goal.shape_of-out
shape_of-out c = c.loop-k.invariant.same ∙ c.copy_words-at.auto.dst

pub returns : goal.returns
unfolding new_tree
returns c =
    filled (then (omega arith) (copied c.copy_words-at.ensures) (write-end c.loop-k.invariant c.loop-k-test.false))

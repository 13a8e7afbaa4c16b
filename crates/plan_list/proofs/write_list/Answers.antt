-- `write_list` writes the list.
use native.Mathlib.Nat.{zero-add}
use borrow.Author.Rules.{rules}
use Rattle.plan.proofs.Writes.{filled}
use Rattle.plan_results.proofs.Rest.{write-start, room, write-next, write-end}
use Rattle.plan_list.proofs.write_list.Goals as goal

pub loop-k-init : goal.loop-k-init
loop-k-init c = write-start

pub write_line-at-requires : goal.write_line-at-requires
write_line-at-requires c =
    rw c.decode-d.ensures (room c.loop-k.invariant (search rules) (rw zero-add c.requires))

pub loop-k-preserved : goal.loop-k-preserved
loop-k-preserved c =
    let v = rw c.decode-d.ensures at c.write_line-at.ensures in
    write-next c.loop-k.invariant (search rules) (rw zero-add c.requires) c.write_line-at.auto.out v

pub shape_of-out : goal.shape_of-out
shape_of-out c = c.loop-k.invariant.same

pub returns : goal.returns
returns c = filled (write-end c.loop-k.invariant c.loop-k-test.false)

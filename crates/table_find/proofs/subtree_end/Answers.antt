-- `subtree_end` finds the end: the run from row e on and the rows passed are the run from row i + 1 on.
use native.Mathlib.Omega.{arith}
use lib.ListN.{get_or}
use Prim.Native.Nat.{◌*◌}
use borrow.Author.Rules.{rules}
use Rattle.table_row.proofs.Table.{depth-at}
use Rattle.table_find.proofs.Walk.{run_end, run-stop, run-next}
use Rattle.table_find.proofs.subtree_end.Goals as goal

pub returns-then-t-e : goal.returns-then-t-e
returns-then-t-e c =
    let a = c.args in
    rw depth-at (omega (arith, c.loop-e.invariant.2, run-stop a.t.now (get_or a.t.now (20 * a.i) 0) c.loop-e.e (search rules) c.if-t-e.true))

pub loop-e-preserved : goal.loop-e-preserved
loop-e-preserved c =
    let a = c.args in
    omega (arith, c.loop-e.invariant.2, run-next a.t.now (get_or a.t.now (20 * a.i) 0) c.loop-e.e (search rules) c.if-t-e.false)

pub returns : goal.returns
returns c =
    let a = c.args in
    rw depth-at (omega (arith, c.loop-e.invariant.2, run_end a.t.now (get_or a.t.now (20 * a.i) 0) c.loop-e.e (search rules)))

-- `settle_in` settles the tables themselves where every byte counts, since they are their own tables of keys.
use Rattle.plan_run.proofs.Exact.{settled-exact}
use Rattle.plan_settle.proofs.settle_in.Goals as goal

pub settle-requires : goal.settle-requires
settle-requires c =
    let a = c.args in
    rw (c.in-Exact.is, settled-exact a.t.o.now a.t.l.now a.t.r.now a.t.three) at c.requires

pub returns-in-Exact : goal.returns-in-Exact
returns-in-Exact c =
    let a = c.args in
    rw (c.in-Exact.is, settled-exact a.t.o.now a.t.l.now a.t.r.now a.t.three) c.settle.ensures

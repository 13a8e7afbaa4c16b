-- `count_tree` counts a new tree's words.
use mathlib.Core.Path.{sym}
use native.Mathlib.Omega.{arith}
use lib.ListN.{drop}
use Prim.Native.Nat.{◌*◌, ◌≤◌}
use borrow.Author.Rules.{rules}
use Rattle.plan_results.specs.Decisions.{decision_of, decided}
use Rattle.plan_results.proofs.Rest.{count-start, count_next, count-end}
use Rattle.plan_results.proofs.Pieces.{source-small, piece-length, tree-length}
use Rattle.plan_trees.proofs.count_tree.Goals as goal

pub loop-k-init : goal.loop-k-init
loop-k-init c =
    let a = c.args in
    count-start (omega arith) (sym (tree-length a.tree a.t.o.now a.t.l.now a.t.r.now (decided a.plan.now) c.requires.in_bounds))

pub overflow_add-sum : goal.overflow_add-sum
overflow_add-sum c =
    let a = c.args in
    let b = source-small a.t.o.now a.t.l.now a.t.r.now a.t.three c.takes-s.result in
    let e : c.source_len-sum.result ≤ 81920 = omega (arith, c.source_len-sum.ensures) in
    search rules

pub loop-k-preserved : goal.loop-k-preserved
loop-k-preserved c =
    let a = c.args in
    let b = source-small a.t.o.now a.t.l.now a.t.r.now a.t.three c.takes-s.result in
    let e = rw (c.takes-s.ensures, c.decode.ensures) at c.source_len-sum.ensures in
    let m = piece-length a.tree a.t.o.now a.t.l.now a.t.r.now a.t.three (decision_of (drop (4 * c.loop-k.k) a.plan.now)) in
    count_next c.loop-k.invariant (search rules) (cc) (omega arith)

pub returns : goal.returns
returns c = count-end c.loop-k.invariant c.loop-k-test.false

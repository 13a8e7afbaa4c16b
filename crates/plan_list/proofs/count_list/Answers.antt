-- `count_list` counts the list's words.
use native.Mathlib.Omega.{arith}
use native.Mathlib.Nat.{zero-add}
use Prim.Native.Nat.{◌≤◌}
use borrow.Author.Rules.{rules}
use Rattle.plan_results.proofs.Rest.{count-start, count_next, count-end}
use Rattle.plan_results.proofs.Pieces.{line-most}
use Rattle.plan_list.proofs.count_list.Goals as goal

pub loop-k-init : goal.loop-k-init
loop-k-init c = count-start (omega arith) (zero-add _)

pub overflow_add-sum : goal.overflow_add-sum
overflow_add-sum c =
    let b = line-most c.decode-d.result in
    let e : c.line_len-sum.result ≤ 81920 = omega (arith, c.line_len-sum.ensures) in
    search rules

pub loop-k-preserved : goal.loop-k-preserved
loop-k-preserved c =
    let b = line-most c.decode-d.result in
    let e = c.line_len-sum.ensures in
    count_next c.loop-k.invariant (search rules) (rw c.decode-d.ensures at e) (omega arith)

pub returns : goal.returns
returns c = count-end c.loop-k.invariant c.loop-k-test.false

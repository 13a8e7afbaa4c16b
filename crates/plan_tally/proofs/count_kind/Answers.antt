-- `count_kind` counts the entries of a kind.
use mathlib.Core.Path.{refl}
use native.Mathlib.Omega.{arith}
use native.Mathlib.Nat.{sub-zero, zero-add}
use lib.ListN.{length}
use Prim.Native.Nat.{◌/◌}
use Rattle.plan_tally.proofs.Laws.{rest_end, rest-hit, rest-miss}
use Rattle.plan_tally.proofs.count_kind.Goals as goal
use Rattle.plan_tally.proofs.count_kind.Goals.{else-list-i, then-list-i}

pub loop-i-init : goal.loop-i-init
loop-i-init c = (omega arith, (omega arith, rw (sub-zero, zero-add) refl))

pub loop-i-preserved : goal.loop-i-preserved
loop-i-preserved c =
    let a = c.args in
    let l = c.loop-i in
    elim c.if-list-i.branch [ then-list-i w ↦ let e = rest-hit a.kind (length a.list.now / 3) a.list.now l.i (omega arith) w.if-list-i.true in (omega arith, (omega arith, omega arith)) | else-list-i w ↦ let e = rest-miss a.kind (length a.list.now / 3) a.list.now l.i (omega arith) w.if-list-i.false in (omega arith, (omega arith, omega arith)) ]

pub returns : goal.returns
returns c =
    let a = c.args in
    let e = rest_end a.kind (length a.list.now / 3) a.list.now c.loop-i.i (omega arith) in
    omega arith

-- `place` finds the place: the loop searches on from row i.
use mathlib.Core.Path.{◌≡◌, sym, ap, ◌∙◌}
use lib.ListN.{length, drop, get_or}
use Prim.Native.Nat.{◌+◌, ◌*◌, ◌/◌}
use borrow.Author.Rules.{rules}
use Rattle.table_row.specs.Table.{rows}
use Rattle.table_row.proofs.Table.{depth-at}
use Rattle.table_find.specs.Entry.{seek, row, up_to, place}
use Rattle.table_find.proofs.Walk.{seek-end, seek_stop, seek-deep, seek-other, seek-here}
use Rattle.table_place.proofs.place.Goals as goal
use Rattle.table_place.proofs.place.Goals.{else-e-d-eq1-via-then-e-d-eq1+else-up_to, else-e-d-eq1-via-else-e-d-eq1}

pub returns-then-e-d : goal.returns-then-e-d
unfolding place
returns-then-e-d c =
    let a = c.args in
    (sym (rw depth-at (ap row (c.loop-i.invariant.1 ∙ seek_stop (up_to a.name) a.t.now (get_or a.t.now (20 * a.f) 0) c.loop-i.i (search rules) c.if-e-d.true))), search rules)

pub returns-then-up_to : goal.returns-then-up_to
unfolding place
returns-then-up_to c =
    let a = c.args in
    (sym (rw depth-at (ap row (c.loop-i.invariant.1 ∙ seek-here (up_to a.name) a.t.now (get_or a.t.now (20 * a.f) 0) c.loop-i.i (search rules) c.if-e-d-eq1.true (sym c.up_to.ensures ∙ c.if-up_to.true)))), search rules)

pub loop-i-preserved : goal.loop-i-preserved
loop-i-preserved c =
    let a = c.args in
    let w = a.t.now in
    let i = c.loop-i.i in
    let p = up_to a.name in
    let d = get_or w (20 * a.f) 0 in
    let next : seek p d i (drop i (rows w)) ≡ seek p d (i + 1) (drop (i + 1) (rows w)) =
    elim c.else-e-d-eq1.branch [
      | else-e-d-eq1-via-then-e-d-eq1+else-up_to x ↦ seek-other p w d i (search rules) x.if-e-d-eq1.true (sym x.up_to.ensures ∙ x.if-up_to.false)
      | else-e-d-eq1-via-else-e-d-eq1 x ↦ seek-deep p w d i (search rules) (search rules) x.if-e-d-eq1.false
    ] in
    (search rules, c.loop-i.invariant.1 ∙ next)

pub returns : goal.returns
unfolding place
returns c =
    let a = c.args in
    let e : c.loop-i.i ≡ length a.t.now / 20 = search rules in
    (sym e ∙ sym (rw depth-at (ap row (c.loop-i.invariant.1 ∙ seek-end (up_to a.name) a.t.now (get_or a.t.now (20 * a.f) 0) c.loop-i.i (search rules)))), search rules)

-- The settle cycle: `settle_entry` writes the words of one entry, `settle_folder` those of a folder's entries; the depth left
-- falls. In the loop, what is still to be written from the heads on makes up the folder's words.
use mathlib.Core.Path.{sym, ap, ◌∙◌, refl}
use mathlib.Core.Logic.{inl, inr}
use native.Mathlib.Omega.{arith}
use native.Mathlib.Nat.{sub-zero}
use lib.ListN.{length, length-append}
use borrow.Author.Rules.{rules}
use Rattle.plan.specs.Settle.{enough}
use Rattle.plan_cursor.specs.Cursor.{decision}
use Rattle.plan_cursor.specs.declared.Decision.TheVariants.{Agreed}
use Rattle.plan_write.proofs.Cycle.{length-words, down, entry-folder, entry-decided, rest-next, turn, rest_ended, rest-zero}
use Prim.Native.Nat.{◌+◌, ◌-◌, ◌≤◌}
use Rattle.plan.proofs.Writes.{done}
use Rattle.plan_write.proofs.+settle_entry_settle_folder.Goals as goal
use Rattle.plan_write.proofs.+settle_entry_settle_folder.Goals.{settle_entry-then-k-gt0+else-both_at, settle_entry-else-k-gt0}

pub settle_entry-push-q-requires : goal.settle_entry-push-q-requires
settle_entry-push-q-requires t c =
    let a = c.args in
    let d = sym c.both_at.ensures ∙ c.if-both_at.true in
    let e = entry-folder a.t.o.now a.t.l.now a.t.r.now a.k a.d a.h c.if-k-gt0.true d in
    omega (arith, simp length-append at (ap length e), c.requires.h_in_bounds)

pub settle_entry-settle_folder-requires : goal.settle_entry-settle_folder-requires
settle_entry-settle_folder-requires t c =
    let a = c.args in
    let d = sym c.both_at.ensures ∙ c.if-both_at.true in
    let e = entry-folder a.t.o.now a.t.l.now a.t.r.now a.k a.d a.h c.if-k-gt0.true d in
    let m = simp length-append at (ap length e) in
    let n = length-words (Agreed a.h) in
    let f = c.firsts_at-g.ensures in
    (search rules, ((search rules, rw f (omega (arith, c.push-q.ensures.next, c.push-q.auto.plan, c.requires.h_in_bounds)))))

pub settle_entry-returns-then-both_at : goal.settle_entry-returns-then-both_at
settle_entry-returns-then-both_at t c =
    let a = c.args in
    let d = sym c.both_at.ensures ∙ c.if-both_at.true in
    down a.t.o.now a.t.l.now a.t.r.now a.k a.d a.h c.firsts_at-g.result
    c.if-k-gt0.true d c.firsts_at-g.ensures (omega (arith, c.requires.h_in_bounds)) c.push-q.ensures c.settle_folder.ensures

pub settle_entry-push-requires : goal.settle_entry-push-requires
settle_entry-push-requires t c =
    let a = c.args in
    let e = entry-decided a.t.o.now a.t.l.now a.t.r.now a.k a.d a.h
    (λ x. x) (λ x. x) (
    elim c.if-k-gt0.branch [
      | settle_entry-then-k-gt0+else-both_at w ↦ inl (sym w.both_at.ensures ∙ w.if-both_at.false)
      | settle_entry-else-k-gt0 w ↦ inr w.if-k-gt0.false
    ]) in
    omega (arith, ap length e, length-words (decision a.t.o.now a.t.l.now a.t.r.now a.h), c.requires.h_in_bounds)

pub settle_entry-returns : goal.settle_entry-returns
settle_entry-returns t c =
    let a = c.args in
    let e = entry-decided a.t.o.now a.t.l.now a.t.r.now a.k a.d a.h
    (λ x. x) (λ x. x) (
    elim c.if-k-gt0.branch [
      | settle_entry-then-k-gt0+else-both_at w ↦ inl (sym w.both_at.ensures ∙ w.if-both_at.false)
      | settle_entry-else-k-gt0 w ↦ inr w.if-k-gt0.false
    ]) in
    rw (e, ← c.decide-x.ensures) c.push.ensures

pub settle_folder-loop-init : goal.settle_folder-loop-init
settle_folder-loop-init t c = (refl, rw sub-zero (record { next = refl; words = refl }))

pub settle_folder-returns-then-ended_at : goal.settle_folder-returns-then-ended_at
settle_folder-returns-then-ended_at t c =
    let a = c.args in
    let n = sym c.ended_at.ensures ∙ c.if-ended_at.true in
    let e = rest_ended a.t.o.now a.t.l.now a.t.r.now a.k a.d (enough a.t.o.now a.t.l.now a.t.r.now - c.loop.counter) c.loop.g n in
    done e c.loop.invariant.1

pub settle_folder-settle_entry-q-requires : goal.settle_folder-settle_entry-q-requires
settle_folder-settle_entry-q-requires t c =
    let a = c.args in
    let n = sym c.ended_at.ensures ∙ c.if-ended_at.false in
    let e = rest-next a.t.o.now a.t.l.now a.t.r.now a.k a.d (enough a.t.o.now a.t.l.now a.t.r.now - c.loop.counter) c.loop.g _ (search rules) n c.least_of-e.ensures in
    let f = simp length-append at (ap length e) in
    (search rules, ((c.requires.k_bound, omega (arith, c.loop.invariant.0, c.loop.invariant.1.next, c.requires.h_in_bounds))))

pub settle_folder-loop-preserved : goal.settle_folder-loop-preserved
settle_folder-loop-preserved t c =
    let a = c.args in
    let n = sym c.ended_at.ensures ∙ c.if-ended_at.false in
    let f : c.loop.q ≤ length c.loop.plan = omega (arith, c.loop.invariant.0, c.loop.invariant.1.next, c.requires.h_in_bounds) in
    let w = turn a.t.o.now a.t.l.now a.t.r.now a.k a.d (enough a.t.o.now a.t.l.now a.t.r.now - c.loop.counter) (enough a.t.o.now a.t.l.now a.t.r.now - (c.loop.counter + 1)) c.loop.g c.past_at-g.result c.least_of-e.result
    (omega arith) (omega arith) n c.least_of-e.ensures c.past_at-g.ensures f c.settle_entry-q.ensures c.loop.invariant.1 in
    (c.settle_entry-q.auto.plan ∙ c.loop.invariant.0, w)

pub settle_folder-returns : goal.settle_folder-returns
settle_folder-returns t c =
    let a = c.args in
    let e = rest-zero a.t.o.now a.t.l.now a.t.r.now a.k a.d (enough a.t.o.now a.t.l.now a.t.r.now - c.loop.counter) c.loop.g (omega arith) in
    done e c.loop.invariant.1

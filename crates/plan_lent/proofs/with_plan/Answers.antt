-- `plan_lent::with_plan` meets its contract: the plan is long enough, the rooms are tried, and what is written is the outcome.
use mathlib.Core.List.{List}
use mathlib.Core.Path.{◌≡◌, sym, ◌∙◌}
use native.Mathlib.Omega.{arith}
use borrow.Author.Rules.{rules}
use lib.ListN.{length, take, get_or}
use lib.Seq.{length-take-le}
use Prim.Native.Nat.{ℕ, ◌*◌, ◌≤◌}
use mir.Val.{Fits}
use mir.Syntax.{w32}
use Rattle.table_rules.specs.Answer.{Answer}
use Rattle.tree.specs.declared.Profile.{Profile}
use Rattle.table_row.specs.Keyed.{keyed}
use Rattle.table_rules.specs.Keyed.{Passes}
use Rattle.table_rules.proofs.Passed.{passed-some}
use Rattle.plan.specs.Settle.{settled}
use Rattle.plan.specs.Writes.{Fills}
use Rattle.plan_results.specs.Decisions.{decided}
use Rattle.plan_run.specs.declared.Counts.{Counts}
use Rattle.plan_run.specs.Run.{Lent, lent, rooms_due}
use Rattle.plan_run.specs.Steps.{rows_of, planned_counts}
use Rattle.plan_tally.proofs.Laws.{counts-front}
use Rattle.plan_run.proofs.Planned.{Sound, three, settled-fits, items-fit, items-most}
use Rattle.plan_run.proofs.Steps.{Tried, spacious, entries, settles-accepted, settles-refused}
use Rattle.plan_lent.proofs.with_plan.Goals as goal

-- the words of a table are 32-bit words
abbrev InWords : List ℕ → Type 0
InWords w = (k : ℕ) → Fits w32 (get_or w k 0)

module _ {p : Profile} {o l r : List ℕ} where
  -- the three tables, of which all pass
  sound : Passes p o × Passes p l × Passes p r → InWords o → InWords l → InWords r → Sound p o × Sound p l × Sound p r
  sound h x y z = (
    record { passes = h.0; small = x },
    record { passes = h.1; small = y },
    record { passes = h.2; small = z },
  )

  -- the rooms are tried
  tried : {s e : List ℕ} {q : ℕ} {c : Counts} {due : Answer} (b : Lent) → Sound p o × Sound p l × Sound p r
      → Fills s (settled (keyed p o) (keyed p l) (keyed p r)) e q → q ≤ length e → c ≡ planned_counts o l r (decided (take q e))
      → due ≡ rooms_due c (length b.archive) (length b.left) (length b.right) (length b.list) → Tried p o l r s e q b c due
  tried b h f m g d = record {
    o-sound = h.0;
    l-sound = h.1;
    r-sound = h.2;
    planned = f;
    fits = m;
    counted = g;
    due-is = d;
  }

  -- the plan is not longer than its buffer
  within : {s e : List ℕ} {q : ℕ} → Sound p o × Sound p l × Sound p r → Fills s (settled (keyed p o) (keyed p l) (keyed p r)) e q
      → 4 * rows_of o l r ≤ length s → length e ≡ length s → q ≤ length e
  within h f m i = omega (arith, items-fit p o l r h.0 h.1 h.2 _ _ _ f)

pub invariant_of-t : goal.invariant_of-t
invariant_of-t c = let p = c.requires.passes in record { three = three _ _ _ _ p.0 p.1 p.2 }

pub settle_in-n-requires : goal.settle_in-n-requires
settle_in-n-requires c =
    let h = sound c.requires.passes c.type_inv.o c.type_inv.l c.type_inv.r in
    omega (arith, settled-fits _ _ _ _ h.0 h.1 h.2, c.requires.r_in_bounds)

pub slice_bounds-items-end : goal.slice_bounds-items-end
slice_bounds-items-end c =
    let h = sound c.requires.passes c.type_inv.o c.type_inv.l c.type_inv.r in
    within h c.settle_in-n.ensures c.requires.r_in_bounds c.settle_in-n.auto.plan

pub slice_bounds-items-end-2 : goal.slice_bounds-items-end-2
slice_bounds-items-end-2 c =
    let h = sound c.requires.passes c.type_inv.o c.type_inv.l c.type_inv.r in
    let m = within h c.settle_in-n.ensures c.requires.r_in_bounds c.settle_in-n.auto.plan in
    sym (length-take-le _ _ m)

pub counts_of-c-requires : goal.counts_of-c-requires
counts_of-c-requires c =
    let h = sound c.requires.passes c.type_inv.o c.type_inv.l c.type_inv.r in
    let m = within h c.settle_in-n.ensures c.requires.r_in_bounds c.settle_in-n.auto.plan in
    record {
      in_bounds = passed-some _ _ c.requires.passes.1;
      few = omega (arith, length-take-le _ _ m, items-most _ _ _ _ h.0 h.1 h.2 _ _ _ c.settle_in-n.ensures);
    }

pub write_results-requires : goal.write_results-requires
write_results-requires c =
    let a = c.args in
    let h = sound c.requires.passes c.type_inv.o c.type_inv.l c.type_inv.r in
    let m = within h c.settle_in-n.ensures c.requires.r_in_bounds c.settle_in-n.auto.plan in
    let t = tried (lent a.archive.now a.left.now a.right.now a.list.now a.old) h c.settle_in-n.ensures m c.counts_of-c.ensures c.rooms_due-due.ensures in
    record { in_bounds = passed-some _ _ c.requires.passes.1; spacious = spacious t _ c.in-Ok.is }

pub overflow_mul-c : goal.overflow_mul-c
overflow_mul-c c =
    let a = c.args in
    let h = sound c.requires.passes c.type_inv.o c.type_inv.l c.type_inv.r in
    let m = within h c.settle_in-n.ensures c.requires.r_in_bounds c.settle_in-n.auto.plan in
    let t = tried (lent a.archive.now a.left.now a.right.now a.list.now a.old) h c.settle_in-n.ensures m c.counts_of-c.ensures c.rooms_due-due.ensures in
    let n = entries t _ c.in-Ok.is c.write_results.new.list c.write_results.auto.list in
    search rules

pub slice_bounds-counts-end : goal.slice_bounds-counts-end
slice_bounds-counts-end c =
    let a = c.args in
    let h = sound c.requires.passes c.type_inv.o c.type_inv.l c.type_inv.r in
    let m = within h c.settle_in-n.ensures c.requires.r_in_bounds c.settle_in-n.auto.plan in
    let t = tried (lent a.archive.now a.left.now a.right.now a.list.now a.old) h c.settle_in-n.ensures m c.counts_of-c.ensures c.rooms_due-due.ensures in
    let n = entries t _ c.in-Ok.is c.write_results.new.list c.write_results.auto.list in
    n.0

pub slice_bounds-counts-end-in-Ok : goal.slice_bounds-counts-end-in-Ok
slice_bounds-counts-end-in-Ok c =
    let a = c.args in
    let h = sound c.requires.passes c.type_inv.o c.type_inv.l c.type_inv.r in
    let m = within h c.settle_in-n.ensures c.requires.r_in_bounds c.settle_in-n.auto.plan in
    let t = tried (lent a.archive.now a.left.now a.right.now a.list.now a.old) h c.settle_in-n.ensures m c.counts_of-c.ensures c.rooms_due-due.ensures in
    let n = entries t _ c.in-Ok.is c.write_results.new.list c.write_results.auto.list in
    sym (length-take-le _ _ n.0)

pub counts-tally-requires : goal.counts-tally-requires
counts-tally-requires c =
    let a = c.args in
    let h = sound c.requires.passes c.type_inv.o c.type_inv.l c.type_inv.r in
    let m = within h c.settle_in-n.ensures c.requires.r_in_bounds c.settle_in-n.auto.plan in
    let t = tried (lent a.archive.now a.left.now a.right.now a.list.now a.old) h c.settle_in-n.ensures m c.counts_of-c.ensures c.rooms_due-due.ensures in
    let n = entries t _ c.in-Ok.is c.write_results.new.list c.write_results.auto.list in
    omega (arith, n.1, length-take-le _ _ n.0)

pub returns-in-Ok : goal.returns-in-Ok
returns-in-Ok c =
    let a = c.args in
    let h = sound c.requires.passes c.type_inv.o c.type_inv.l c.type_inv.r in
    let m = within h c.settle_in-n.ensures c.requires.r_in_bounds c.settle_in-n.auto.plan in
    let t = tried (lent a.archive.now a.left.now a.right.now a.list.now a.old) h c.settle_in-n.ensures m c.counts_of-c.ensures c.rooms_due-due.ensures in
    let n = entries t _ c.in-Ok.is c.write_results.new.list c.write_results.auto.list in
    settles-accepted t _ c.in-Ok.is _ _ _ _ _ c.write_results.ensures (c.counts-tally.ensures ∙ counts-front _ _ n.0)

pub returns-in-Err : goal.returns-in-Err
returns-in-Err c =
    let a = c.args in
    let h = sound c.requires.passes c.type_inv.o c.type_inv.l c.type_inv.r in
    let m = within h c.settle_in-n.ensures c.requires.r_in_bounds c.settle_in-n.auto.plan in
    let t = tried (lent a.archive.now a.left.now a.right.now a.list.now a.old) h c.settle_in-n.ensures m c.counts_of-c.ensures c.rooms_due-due.ensures in
    settles-refused t c.in-Err.is

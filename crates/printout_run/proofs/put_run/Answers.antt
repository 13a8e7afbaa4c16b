-- `put_run` meets its contract: an accepted run, and its list's text.
use mathlib.Core.Path.{◌≡◌, ◌∙◌}
use Prim.Native.Nat.{ℕ}
use lib.ListN.{length, length-replicate, length-take, replicate}
use Rattle.table_rules.proofs.Small.{small_all}
use Rattle.plan_run.specs.Run.{lent}
use Rattle.plan_tally.specs.declared.Tally.{Tally}
use Rattle.printout_text.proofs.Runs.{Ample, accepts, entries-few, put-plan, short}
use native.Mathlib.Omega.{arith}
use Rattle.printout_run.proofs.put_run.Goals as goal

-- the results' rooms
rooms : (t : Tally) → Ample (lent (replicate 7640 0) (replicate 7640 0) (replicate 7640 0) (replicate 1146 0) t)
rooms t =
    let n = length-replicate {A = ℕ} 7640 0 in
    record { archive = n; left = n; right = n; list = length-replicate {A = ℕ} 1146 0 }

pub unwrap-counts-requires : goal.unwrap-counts-requires
unwrap-counts-requires c =
    let e = accepts c.args.profile c.args.o.now c.args.l.now c.args.r.now c.requires.0 c.requires.1 c.requires.2 _ _ (rooms _) _ c.reconcile_plain-ran.ensures in
    rw e

pub overflow_mul-end : goal.overflow_mul-end
overflow_mul-end c =
    let n = entries-few c.args.profile c.args.o.now c.args.l.now c.args.r.now c.requires.0 c.requires.1 c.requires.2 _ _ (rooms _) _ c.reconcile_plain-ran.ensures _ c.unwrap-counts.ensures in
    omega arith

pub slice_bounds-list-end : goal.slice_bounds-list-end
slice_bounds-list-end c =
    let n = entries-few c.args.profile c.args.o.now c.args.l.now c.args.r.now c.requires.0 c.requires.1 c.requires.2 _ _ (rooms _) _ c.reconcile_plain-ran.ensures _ c.unwrap-counts.ensures in
    let l : length c.reconcile_plain-ran.new.list ≡ 1146 = c.reconcile_plain-ran.auto.list ∙ length-replicate {A = ℕ} 1146 0 in
    omega arith

pub slice_bounds-put_plan-end : goal.slice_bounds-put_plan-end
slice_bounds-put_plan-end c =
    let n = entries-few c.args.profile c.args.o.now c.args.l.now c.args.r.now c.requires.0 c.requires.1 c.requires.2 _ _ (rooms _) _ c.reconcile_plain-ran.ensures _ c.unwrap-counts.ensures in
    let l : length c.reconcile_plain-ran.new.list ≡ 1146 = c.reconcile_plain-ran.auto.list ∙ length-replicate {A = ℕ} 1146 0 in
    simp length-take (omega arith)

pub invariant_of-put_plan : goal.invariant_of-put_plan
invariant_of-put_plan c =
    let a = short c.args.profile c.args.l.now c.requires.1 in
    let b = short c.args.profile c.args.r.now c.requires.2 in
    record { short = (omega arith, omega arith) }

pub put_plan-requires : goal.put_plan-requires
put_plan-requires c =
    let n = entries-few c.args.profile c.args.o.now c.args.l.now c.args.r.now c.requires.0 c.requires.1 c.requires.2 _ _ (rooms _) _ c.reconcile_plain-ran.ensures _ c.unwrap-counts.ensures in
    let l : length c.reconcile_plain-ran.new.list ≡ 1146 = c.reconcile_plain-ran.auto.list ∙ length-replicate {A = ℕ} 1146 0 in
    simp length-take (omega arith)

pub returns : goal.returns
returns c =
    put-plan c.args.profile c.args.o.now c.args.l.now c.args.r.now c.requires.0 c.requires.1 c.requires.2 _ _ (rooms _) _ c.reconcile_plain-ran.ensures _ c.unwrap-counts.ensures _ _ _ _
    (small_all c.args.l.now (λ i. omega (arith, c.type_inv.l i))) (small_all c.args.r.now (λ i. omega (arith, c.type_inv.r i))) c.put_plan.ensures

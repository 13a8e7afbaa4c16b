-- `plan_due::tables_due` meets its contract: number 16 of the three counts where nothing is wrong with any of them.
use Rattle.std.proofs.Common.{◌≡◌, refl, rules, ◌∙◌, sym, ap}
use Rattle.table_rules.specs.Answer.{is_accepted}
use Rattle.table_rules.specs.Faults.{first_refusal}
use Rattle.table_rules.proofs.Faults.{refusal-fine}
use Rattle.plan_run.specs.Run.{tables_due}
use Rattle.plan_due.proofs.tables_due.Goals as goal

pub returns-in_err-refusal : goal.returns-in_err-refusal
unfolding tables_due first_refusal
returns-in_err-refusal c =
    let e : c.from_residual.result ≡ c.refusal.result = search rules in
    rw (e, ← c.check-a.ensures.seen-rows, ← c.refusal.ensures, c.in_err-refusal.was) refl

pub returns-in_err-refusal-2 : goal.returns-in_err-refusal-2
unfolding tables_due first_refusal
returns-in_err-refusal-2 c =
    let e : c.from_residual-in_err-refusal-2.result ≡ c.refusal-2.result = search rules in
    rw (
      e,
      ← c.check-a.ensures.seen-rows,
      ← c.refusal.ensures,
      c.in_ok-refusal.was,
      ← c.check-b.ensures.seen-rows,
      ← c.refusal-2.ensures,
      c.in_err-refusal-2.was,
    )
    refl

pub returns-in_err-refusal-3 : goal.returns-in_err-refusal-3
unfolding tables_due first_refusal
returns-in_err-refusal-3 c =
    let e : c.from_residual-in_err-refusal-3.result ≡ c.refusal-3.result = search rules in
    rw (
      e,
      ← c.check-a.ensures.seen-rows,
      ← c.refusal.ensures,
      c.in_ok-refusal.was,
      ← c.check-b.ensures.seen-rows,
      ← c.refusal-2.ensures,
      c.in_ok-refusal-2.was,
      ← c.check-c.ensures.seen-rows,
      ← c.refusal-3.ensures,
      c.in_err-refusal-3.was,
    )
    refl

-- where nothing is refused, number 16 was looked for in tables that have no other fault
pub returns : goal.returns
unfolding tables_due first_refusal
returns c =
    let O = c.check-a.ensures in
    let L = c.check-b.ensures in
    let R = c.check-c.ensures in
    let o = refusal-fine _ 1 (ap is_accepted (sym (rw O.seen-rows at c.refusal.ensures) ∙ c.in_ok-refusal.was)) in
    let l = refusal-fine _ 2 (ap is_accepted (sym (rw L.seen-rows at c.refusal-2.ensures) ∙ c.in_ok-refusal-2.was)) in
    let r = refusal-fine _ 3 (ap is_accepted (sym (rw R.seen-rows at c.refusal-3.ensures) ∙ c.in_ok-refusal-3.was)) in
    c.twins_due.ensures ∙ rw (o, l, r, O.seen-twins o, L.seen-twins l, R.seen-twins r) refl

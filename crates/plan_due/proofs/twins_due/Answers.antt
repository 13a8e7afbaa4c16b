-- `plan_due::twins_due` meets its contract: the first of three answers that refuses, or the last.
use Rattle.std.proofs.Common.{◌≡◌, refl, rules}
use Rattle.table_rules.specs.Faults.{first_refusal}
use Rattle.plan_run.specs.Run.{twins_of}
use Rattle.plan_due.proofs.twins_due.Goals as goal

pub returns-in_err-twins_refusal : goal.returns-in_err-twins_refusal
unfolding twins_of first_refusal
returns-in_err-twins_refusal c =
    let e : c.from_residual.result ≡ c.twins_refusal.result = search rules in
    rw (e, ← c.twins_refusal.ensures, c.in_err-twins_refusal.was) refl

pub returns-in_err-twins_refusal-2 : goal.returns-in_err-twins_refusal-2
unfolding twins_of first_refusal
returns-in_err-twins_refusal-2 c =
    let e : c.from_residual-in_err-twins_refusal-2.result ≡ c.twins_refusal-2.result = search rules in
    rw (e, ← c.twins_refusal.ensures, c.in_ok-twins_refusal.was, ← c.twins_refusal-2.ensures, c.in_err-twins_refusal-2.was) refl

pub returns : goal.returns
unfolding twins_of first_refusal
returns c =
    rw (← c.twins_refusal.ensures, c.in_ok-twins_refusal.was, ← c.twins_refusal-2.ensures, c.in_ok-twins_refusal-2.was) c.twins_refusal-3.ensures

-- `reconcile_plain::reconcile_plain` meets its contract: the tables' faults come first.
use mathlib.Core.Path.{ap, sym, ◌∙◌}
use Rattle.table_rules.specs.Answer.{is_accepted}
use Rattle.plan_run.proofs.Steps.{tables-passed, run-settles, run-refused}
use Rattle.reconcile_plain.proofs.reconcile_plain.Goals as goal

pub carry_out-requires : goal.carry_out-requires
carry_out-requires c =
    tables-passed _ _ _ _ (ap is_accepted (sym c.tables_due.ensures ∙ c.in-Ok.is))

pub returns-in-Ok : goal.returns-in-Ok
returns-in-Ok c =
    run-settles _ _ _ _ _ _ c.tables_due.ensures _ c.in-Ok.is c.carry_out.ensures

pub returns-in-Err : goal.returns-in-Err
returns-in-Err c =
    run-refused _ _ _ _ _ _ c.tables_due.ensures c.in-Err.is

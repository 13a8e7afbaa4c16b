-- The answer of a reconciliation: the four counts of an accepted one, or document 01's number, side and place.
use Rattle.std.specs.Prelude.{Result, Ok, Err}
use Rattle.table_rules.specs.declared.Refusal.{Refusal}
use Rattle.table_rules.specs.Answer.{Answer}
use Rattle.plan_run.specs.declared.Counts.{Counts}

-- accepted with its counts, or refused
abbrev pub Reconciled : Type 0
Reconciled = Result Counts Refusal

-- what is due, with the counts where it is accepted
abbrev pub answer_with : Answer → Counts → Reconciled
answer_with (Ok p) n = Ok n
answer_with (Err r) n = Err r

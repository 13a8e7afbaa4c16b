-- `table_move_due::inputs_due` meets its contract: the tables' answer, and then the path's.
use Rattle.std.proofs.Common.{◌≡◌, ◌∙◌, sym, rules}
use Rattle.table_rules.proofs.Faults.{then-last, then-first}
use Rattle.table_moved.proofs.Due.{inputs-first}
use Rattle.table_move_due.proofs.inputs_due.Goals as goal

pub returns-in_err-tables_due : goal.returns-in_err-tables_due
returns-in_err-tables_due c =
    let a = c.args in
    let e : c.from_residual.result ≡ c.tables_due.result = search rules in
    e ∙ c.tables_due.ensures ∙ sym (then-first _ _ (sym c.tables_due.ensures ∙ c.in_err-tables_due.was)) ∙ inputs-first a.profile a.target.now a.source.now a.names a.depth

pub returns : goal.returns
returns c =
    let a = c.args in
    rw (c.unless_refused.ensures, c.path_ok.ensures) (sym (then-last _ _ (sym c.tables_due.ensures ∙ c.in_ok-tables_due.was)) ∙ inputs-first a.profile a.target.now a.source.now a.names a.depth)

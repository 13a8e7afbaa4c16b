-- `table_move::make_move` meets its contract: the tables and the path first, then the move.
use mathlib.Core.Path.{◌≡◌, sym, ◌∙◌}
use borrow.Author.Rules.{rules}
use Rattle.table_moved.proofs.Due.{inputs-passed, passes, stops}
use Rattle.table_move.proofs.make_move.Goals as goal

pub carry_out-requires : goal.carry_out-requires
carry_out-requires c =
    let a = c.args in
    inputs-passed a.profile a.target.now a.source.now a.names c.wide-n.result _ (sym c.inputs_due.ensures ∙ c.in_ok-inputs_due.was)

pub returns : goal.returns
returns c =
    let a = c.args in
    rw (← c.wide-n.ensures.0)
    (passes a.profile a.target.now a.source.now a.names c.wide-n.result a.res.now _ _ _ (sym c.inputs_due.ensures ∙ c.in_ok-inputs_due.was) c.carry_out.ensures)

pub returns-in_err-inputs_due : goal.returns-in_err-inputs_due
returns-in_err-inputs_due c =
    let a = c.args in
    let e : c.from_residual.result ≡ c.inputs_due.result = search rules in
    rw (← c.wide-n.ensures.0, e) (stops a.profile a.target.now a.source.now a.names c.wide-n.result a.res.now _ _ _ _ c.inputs_due.ensures c.in_err-inputs_due.was)

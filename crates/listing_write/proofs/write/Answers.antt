-- `listing_write::write` meets its contract: the table is checked first.
use Rattle.std.proofs.Common.{◌≡◌, sym, ap, ◌∙◌, rules}
use Rattle.table_rules.specs.Answer.{is_accepted}
use Rattle.table_rules.proofs.Passing.{check-is, check-passes}
use Rattle.listing_write.proofs.Due.{passes, stops}
use Rattle.listing_write.proofs.write.Goals as goal

pub write_fine-requires : goal.write_fine-requires
write_fine-requires c =
    let a = c.args in
    (a.profile, check-passes a.profile a.table.now (ap is_accepted (sym (check-is a.profile a.table.now _ c.check_table.ensures) ∙ c.in_ok-check_table.was)))

pub returns-in_err-check_table : goal.returns-in_err-check_table
returns-in_err-check_table c =
    let a = c.args in
    let e : c.from_residual.result ≡ c.check_table.result = search rules in
    rw e (stops a.profile a.table.now a.text.now _ _ c.check_table.ensures c.in_err-check_table.was)

pub returns : goal.returns
returns c =
    let a = c.args in
    passes a.profile a.table.now a.text.now _ _ _ _ c.check_table.ensures c.in_ok-check_table.was c.write_fine.ensures

-- `write_line` writes the list's entry; what is agreed has none.
use mathlib.Core.Path.{sym}
use native.Mathlib.Nat.{add-zero}
use Rattle.table_row.proofs.Buffer.{written-nil}
use Rattle.plan_list.proofs.write_line.Goals as goal

pub returns-in-Agreed : goal.returns-in-Agreed
returns-in-Agreed c = rw c.in-Agreed.is (record { next = sym (add-zero _); words = sym (written-nil _ _) })

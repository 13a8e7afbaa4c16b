-- `table_respell::spell_row` meets its contract: the name of the row that was found, or the row as it is.
use borrow.Author.Rules.{rules}
use Rattle.table_respell.proofs.spell_row.Goals as goal

pub returns-in-Some : goal.returns-in-Some
returns-in-Some c = rw (c.in-Some.is, ← c.name.ensures.0) (search rules)

pub returns-in-None : goal.returns-in-None
returns-in-None c = rw c.in-None.is (search rules)

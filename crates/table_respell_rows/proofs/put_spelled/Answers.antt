-- `table_respell_rows::put_spelled` meets its contract: profile by profile.
use Rattle.table_respell.specs.Respell.{respelled}
use Rattle.table_respell_rows.proofs.put_spelled.Goals as goal

pub returns-in-Exact : goal.returns-in-Exact
unfolding respelled
returns-in-Exact c = rw c.in-Exact.is c.copy_words.ensures.1

pub returns-in-Folded : goal.returns-in-Folded
unfolding respelled
returns-in-Folded c = rw c.in-Folded.is c.spell_rows.ensures

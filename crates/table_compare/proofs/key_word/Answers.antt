-- `table_compare::key_word` meets its contract, profile by profile.
use Rattle.table_compare.proofs.key_word.Goals as goal

pub returns-in-Exact : goal.returns-in-Exact
returns-in-Exact c = rw c.in-Exact.is

pub returns-in-Folded : goal.returns-in-Folded
returns-in-Folded c = rw c.in-Folded.is c.lower_word.ensures

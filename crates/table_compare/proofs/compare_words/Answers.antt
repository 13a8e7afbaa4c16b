-- `table_compare::compare_words` meets its contract: words are their own key where every byte counts.
use Rattle.tree.specs.Key.{key}
use Rattle.table_compare.proofs.compare_words.Goals as goal

pub returns : goal.returns
unfolding key
returns c = c.compare_keys.ensures

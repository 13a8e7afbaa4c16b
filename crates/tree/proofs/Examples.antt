-- The examples of two trees compared, by computing.
use mathlib.Core.Path.{refl}
use Rattle.tree.specs.Name.{cmp}
use Rattle.tree.specs.Same.{same_words}
use Rattle.tree.specs.Preorder.{same_entry, entries, preorder, compare_by, compared}
use Rattle.tree.specs.Examples.{ExamplesHold}

pub examples-hold : ExamplesHold
unfolding compared compare_by preorder entries same_entry same_words cmp
examples-hold = refl

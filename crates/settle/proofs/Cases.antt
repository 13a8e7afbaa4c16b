-- C1 to C13: every case gives what its row of the table says, by one computation.
use mathlib.Core.Path.{refl}
use Rattle.tree.specs.Name.{cmp}
use Rattle.tree.specs.Forest.{find}
use Rattle.tree.specs.Same.{same_words, same_forest, same_node}
use Rattle.settle.specs.Decision.{decide}
use Rattle.settle.specs.Names.{insert, into, names}
use Rattle.settle.specs.Plan.{plan_over, settle_in, plan}
use Rattle.settle.specs.Results.{new, new_left, new_right, new_archive, list}
use Rattle.settle.specs.Cases.{CasesHold}

pub cases-hold : CasesHold
unfolding list plan new_archive new_left new_right new decide same_node same_forest same_words plan_over settle_in names into insert find cmp
cases-hold = refl

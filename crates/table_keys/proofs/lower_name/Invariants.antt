-- `table_keys::lower_name` meets its contract: the words before the word are done, and the others are as they were.
use mathlib.Core.Path.{◌≡◌}
use mathlib.Core.List.{map, ◌++◌}
use lib.ListN.{take, drop}
use Rattle.tree.specs.Key.{lower_word}
use Rattle.table_keys.proofs.lower_name.Given as goal

abbrev pub invariant-loop-word : goal.invariant-loop-word
invariant-loop-word l =
    l.word-items ≡ map lower_word (take l.word-index l.initial.word-items) ++ drop l.word-index l.initial.word-items

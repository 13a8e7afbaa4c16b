-- `table_names::all_zero` meets its contract: all words are zero where the flag says so of those before the word, and the rest are.
use mathlib.Core.Path.{◌≡◌}
use mathlib.Core.Bool.{◌&&◌}
use lib.ListN.{drop}
use Rattle.tree.specs.Rules.{zeros}
use Rattle.table_names.proofs.all_zero.Given as goal

abbrev pub invariant-loop-word : goal.invariant-loop-word
invariant-loop-word l = (l.zero && zeros (drop l.word-index l.s)) ≡ zeros l.s

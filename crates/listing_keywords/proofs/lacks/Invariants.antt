-- `lacks` meets its contract: the words before what is left lack the keyword.
use mathlib.Core.Path.{◌≡◌}
use lib.ListN.{length}
use Rattle.listing.specs.Words.{words, values}
use Rattle.listing_keywords.proofs.lacks.Given as goal

abbrev pub invariant-loop-word : goal.invariant-loop-word
invariant-loop-word l = values l.key (words l.rest) ≡ values l.key (words l.left)

abbrev pub decreases-loop-word : goal.decreases-loop-word
decreases-loop-word l = length l.left

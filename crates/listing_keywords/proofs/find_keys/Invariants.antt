-- `find_keys` meets its contract: what was found is of the words before what is left.
use lib.ListN.{length}
use Rattle.listing_keywords.proofs.Found.{Passed}
use Rattle.listing_keywords.proofs.find_keys.Given as goal

abbrev pub invariant-loop-word : goal.invariant-loop-word
invariant-loop-word l = Passed l.rest l.left l.h

abbrev pub decreases-loop-word : goal.decreases-loop-word
decreases-loop-word l = length l.left

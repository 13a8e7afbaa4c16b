-- `all_text` meets its contract: the bytes before the one at b-index are text.
use mathlib.Core.Path.{◌≡◌}
use lib.ListN.{drop}
use Rattle.listing.specs.Words.{is_text}
use Rattle.listing_words.proofs.all_text.Given as goal

abbrev pub invariant-loop-b : goal.invariant-loop-b
invariant-loop-b l = is_text l.line ≡ is_text (drop l.b-index l.b-items)

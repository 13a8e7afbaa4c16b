-- `same_bytes` meets its contract: two parts are equal exactly where they are the same words.
use Rattle.tree.proofs.Same.{same_words-slices}
use Rattle.listing_words.proofs.same_bytes.Goals as goal

pub returns : goal.returns
returns c = same_words-slices _ _ _ c.eq.ensures

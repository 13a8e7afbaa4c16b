-- `content_of` meets its contract: both values are good.
use Rattle.listing_keywords.proofs.Entries.{both-good}
use Rattle.listing_held.proofs.content_of.Goals as goal

pub returns : goal.returns
returns c = both-good _ _ _ _ c.in-Some.ensures c.in-Some-digest_of.ensures

-- `type_in` meets its contract: what was found is of the values of type.
use Rattle.listing.specs.Entries.{type_in}
use Rattle.listing_keywords.proofs.type_in.Goals as goal

pub returns : goal.returns
unfolding type_in
returns c = λ d e. c.type_by.ensures _ _ d c.find_keys.ensures.kind e

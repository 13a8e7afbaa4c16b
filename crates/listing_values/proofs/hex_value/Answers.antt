-- `hex_value` meets its contract: range by range, as its value is defined.
use Rattle.listing.specs.Bytes.{digit_value}
use Rattle.listing_values.proofs.hex_value.Goals as goal

pub returns : goal.returns
unfolding digit_value
returns c = rw (c.above.ensures, c.above-upper.ensures, c.above-lower.ensures)

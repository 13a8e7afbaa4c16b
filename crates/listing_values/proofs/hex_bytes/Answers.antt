-- `hex_bytes` meets its contract: what the digits say is what their values do.
use mathlib.Core.Path.{sym, ◌∙◌}
use Rattle.listing_values.proofs.Digests.{digits-below, bytes-pairs}
use Rattle.listing_values.proofs.hex_bytes.Goals as goal

pub returns-then-all_digits : goal.returns-then-all_digits
returns-then-all_digits c =
    let e = c.hex_values-digits.ensures.1 in
    (sym (rw e (digits-below 16 _)) ∙ sym c.all_digits.ensures ∙ c.if-all_digits.true, c.packed_pairs.ensures ∙ rw e (bytes-pairs _))

pub returns : goal.returns
returns c = let e = c.hex_values-digits.ensures.1 in sym (rw e (digits-below 16 _)) ∙ sym c.all_digits.ensures ∙ c.if-all_digits.false

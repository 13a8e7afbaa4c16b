-- `digest_of` meets its contract: the bytes of 64 hex digits, packed.
use mathlib.Core.Path.{ap, ◌∙◌}
use borrow.Author.Tests.{eq-eqb, ne_eqb}
use Rattle.listing.specs.Names.{packed}
use Rattle.listing.specs.Values.{is_digest}
use Rattle.listing_values.proofs.digest_of.Goals as goal

pub returns-then-value-ne64 : goal.returns-then-value-ne64
unfolding is_digest
returns-then-value-ne64 c = rw (ne_eqb _ _ c.if-value-ne64.true)

pub returns-in_err-hex_bytes : goal.returns-in_err-hex_bytes
unfolding is_digest
returns-in_err-hex_bytes c = rw c.from_residual.ensures (let e = rw c.in_err-hex_bytes.was at c.hex_bytes.ensures in rw (eq-eqb _ _ c.if-value-ne64.false, e))

pub returns : goal.returns
unfolding is_digest
returns c =
    let s = c.in_ok-hex_bytes.ensures in
    (rw (eq-eqb _ _ c.if-value-ne64.false, s.0), c.pack.ensures ∙ ap packed s.1)

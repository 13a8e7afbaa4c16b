-- `name_of` meets its contract: what unescape spells, packed, and the rule for a table's names.
use mathlib.Core.Path.{sym, ◌∙◌}
use Rattle.listing.specs.Names.{is_name}
use Rattle.listing_names.specs.Names.{fits}
use Rattle.listing_names.proofs.name_of.Goals as goal

pub returns-in_err-unescape : goal.returns-in_err-unescape
unfolding is_name fits
returns-in_err-unescape c = rw c.from_residual.ensures (let e = rw c.in_err-unescape.was at c.unescape.ensures in rw e)

pub returns-then-good_name : goal.returns-then-good_name
unfolding is_name fits
returns-then-good_name c =
    let u = c.in_ok-unescape.ensures in
    let k = c.pack-words.ensures ∙ u.1 in
    (rw (u.0, ← k) (sym c.good_name.ensures ∙ c.if-good_name.true), k)

pub returns : goal.returns
unfolding is_name fits
returns c =
    let u = c.in_ok-unescape.ensures in
    rw (u.0, ← c.pack-words.ensures ∙ u.1) (sym c.good_name.ensures ∙ c.if-good_name.false)

-- `listing_spell::Text::put_spelt` meets its contract: as it is, or as an escape of four bytes.
use Rattle.std.proofs.Common.{rules, sym, ◌∙◌}
use Rattle.listing.specs.Writing.{spell_byte}
use Rattle.listing_spell.proofs.Poured.{wrote-within}
use Rattle.listing_spell.proofs.Text.put_spelt.Goals as goal

pub returns-then-as_it_is : goal.returns-then-as_it_is
unfolding spell_byte
returns-then-as_it_is c =
    rw (sym c.as_it_is.ensures ∙ c.if-as_it_is.true) (wrote-within 4 (search rules) c.put.ensures)

pub returns : goal.returns
unfolding spell_byte
returns c = rw (sym c.as_it_is.ensures ∙ c.if-as_it_is.false) c.put_all.ensures

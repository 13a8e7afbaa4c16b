-- `listing_rows::put_lines` meets its contract: the root's line, then the rows.
use Rattle.std.proofs.Common.{rules, ◌^◌}
use Rattle.listing_spell.proofs.Poured.{rest-all, rest_less, rest-last}
use Rattle.listing_content.specs.Rows.{text_by_rows}
use Rattle.listing_rows.proofs.put_lines.Goals as goal

pub returns : goal.returns
unfolding text_by_rows
returns c =
    rest-last (2 ^ 48) (rest_less _ (rest-all _ _) c.put_all.ensures) c.put_rows.ensures (search rules)

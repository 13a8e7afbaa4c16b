-- `listing_content::put_content` meets its contract: five pieces, one after the other.
use mathlib.Core.Path.{◌∙◌}
use borrow.Author.Rules.{rules}
use Rattle.table_row.specs.Table.{row_at}
use Rattle.listing_spell.proofs.Poured.{rest-all, rest_less, rest-last}
use Rattle.listing_content.specs.Rows.{content_text}
use Rattle.listing_content.proofs.Content.{size-words, digest-part}
use Rattle.listing_content.proofs.put_content.Goals as goal

pub returns : goal.returns
unfolding content_text
returns c =
    let a = c.args in
    let n = c.size_at.ensures ∙ size-words (row_at a.t.now a.i) in
    rest-last 115
    (rest_less _
    (rest_less _
    (rest_less _ (rest_less _ (rest-all _ _) c.put_all.ensures) (rw n at c.put_decimal.ensures))
    c.put_all-2.ensures)
    (rw (digest-part a.t.now a.i) at c.put_hex.ensures))
    c.put_all-3.ensures (search rules)

-- `plan_text_put::put_counts` meets its contract: seven pieces, one after the other.
use Rattle.std.proofs.Common.{rules}
use Rattle.listing_spell.proofs.Poured.{rest-all, rest_less, rest-last}
use Rattle.plan_text.specs.Text.{counts_text}
use Rattle.plan_text_put.proofs.put_counts.Goals as goal

pub returns : goal.returns
unfolding counts_text
returns c =
    rest-last 65
    (rest_less _
    (rest_less _
    (rest_less _
    (rest_less _ (rest_less _ (rest_less _ (rest-all _ _) c.put_all.ensures) (rw c.from.ensures at c.put_decimal.ensures)) c.put_all-2.ensures)
    (rw c.from-2.ensures at c.put_decimal-2.ensures))
    c.put_all-3.ensures)
    (rw c.from-3.ensures at c.put_decimal-3.ensures))
    c.put_all-4.ensures (search rules)

-- `put_words` meets its contract: seven pieces, one after the other.
use Rattle.std.proofs.Common.{rules}
use Rattle.listing_spell.proofs.Poured.{rest-all, rest_less, rest-last}
use Rattle.printout_text.specs.Printed.{refused_text}
use Rattle.printout_file.proofs.put_words.Goals as goal

pub returns : goal.returns
unfolding refused_text
returns c =
    rest-last 58
    (rest_less _
    (rest_less _
    (rest_less _
    (rest_less _
    (rest_less _ (rest_less _ (rest-all _ _) c.put_all.ensures) c.put_all-2.ensures)
    c.put_all-3.ensures)
    (rw c.from.ensures at c.put_decimal.ensures))
    c.put_all-4.ensures)
    c.put_decimal-2.ensures)
    c.put_all-5.ensures (search rules)

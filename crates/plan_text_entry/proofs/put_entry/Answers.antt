-- `plan_text_entry::put_entry` meets its contract: the mark, a space, the path, the line's end.
use Rattle.std.proofs.Common.{rules, ◌^◌}
use Rattle.listing_spell.proofs.Poured.{rest-all, rest_less, rest-last}
use Rattle.plan_text.specs.Text.{marked}
use Rattle.plan_text.proofs.Words.{entry-words}
use Rattle.plan_text_entry.proofs.put_entry.Goals as goal

pub returns : goal.returns
unfolding marked
returns c =
    let a = c.args in
    rw (entry-words a.s.left.now a.s.right.now a.list.now a.k)
    (rest-last (2 ^ 21)
    (rest_less _ (rest_less _ (rest_less _ (rest-all _ _) c.put_mark.ensures) c.put_all.ensures) (rw (c.wide-i.ensures.0, c.wide-j.ensures.0) at c.put_side.ensures))
    c.put_all-2.ensures (search rules))

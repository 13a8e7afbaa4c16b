-- `listing_rows::put_rows` meets its contract: the lines from row i on are left.
use Rattle.std.proofs.Common.{rules, ◌^◌}
use Rattle.listing_spell.proofs.Poured.{rest-all, rest_less, rest-last}
use Rattle.listing_content.proofs.Content.{lines_next, lines_end}
use Rattle.listing_rows.proofs.put_rows.Goals as goal

pub loop-i-init : goal.loop-i-init
loop-i-init c = (search rules, search rules, search rules, rest-all _ _)

pub loop-i-preserved : goal.loop-i-preserved
loop-i-preserved c =
    let next = lines_next c.args.t.now c.loop-i.folders c.loop-i.i (search rules) in (
      search rules,
      search rules,
      search rules,
      rw c.open_after-folders.ensures.0
          (rest_less _ (rest_less _ (rw next at c.loop-i.invariant.3) (rw (c.wide-d.ensures.0, c.word.ensures) at c.put_dots.ensures)) c.put_row.ensures),
    )

pub returns : goal.returns
returns c =
    let e = lines_end c.args.t.now c.loop-i.folders c.loop-i.i (search rules) in
    rest-last (2 ^ 47) (rw e at c.loop-i.invariant.3) c.put_dots-2.ensures (search rules)

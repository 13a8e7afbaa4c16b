-- `listing_rows::put_dots` meets its contract: the folders from folder k on are still open.
use Rattle.std.proofs.Common.{rules}
use Rattle.listing_spell.proofs.Poured.{rest-all, rest_less, rest-none}
use Rattle.listing_content.proofs.Content.{dots-next, dots-end}
use Rattle.listing_rows.proofs.put_dots.Goals as goal

pub loop-k-init : goal.loop-k-init
loop-k-init c = (search rules, search rules, rest-all _ _)

pub loop-k-preserved : goal.loop-k-preserved
loop-k-preserved c =
    let e = dots-next c.args.folders c.loop-k.k (search rules) in
    (search rules, search rules, rest_less _ (rw e at c.loop-k.invariant.2) c.put_all.ensures)

pub returns : goal.returns
returns c =
    let e = dots-end c.args.folders c.loop-k.k (search rules) in
    rest-none _ (search rules) (rw e at c.loop-k.invariant.2)

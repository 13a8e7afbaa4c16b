-- `listing_spell::Text::put_all` meets its contract: the bytes from byte k on are left.
use Rattle.std.proofs.Common.{rules, length}
use Rattle.listing_spell.proofs.Poured.{rest-all, rest-byte, rest_end}
use Rattle.listing_spell.proofs.Text.put_all.Goals as goal

pub loop-b-init : goal.loop-b-init
loop-b-init c = (search rules, rest-all _ _)

pub loop-b-preserved : goal.loop-b-preserved
loop-b-preserved c =
    let l = c.loop-b in
    (search rules, rest-byte c.args.s.now l.b-index (search rules) l.invariant.1 c.put.ensures)

pub returns : goal.returns
returns c =
    let s = c.args.s.now in
    rest_end s c.loop-b.b-index (length s) (search rules) (search rules) c.loop-b.invariant.1

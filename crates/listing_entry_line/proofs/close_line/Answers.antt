-- `close_line` meets its contract: 11 where nothing is open, 9 where words follow.
use mathlib.Core.Path.{refl}
use native.Mathlib.Omega.{arith}
use Rattle.listing_lines.proofs.Alters.{close-shut, close-folder}
use Rattle.listing_entry_line.proofs.close_line.Goals as goal

pub returns-then-s-eq0 : goal.returns-then-s-eq0
returns-then-s-eq0 c = close-shut _ _ c.if-s-eq0.true

pub returns-then-no_more : goal.returns-then-no_more
returns-then-no_more c = close-folder _ _ _ _ c.if-s-eq0.false c.no_more.ensures (λ p most w f q v g h. rw c.if-no_more.true (c.leave.ensures.does p most w f q v g h))

pub returns : goal.returns
returns c = close-folder _ _ _ _ c.if-s-eq0.false c.no_more.ensures (λ p most w f q v g h. rw c.if-no_more.false (refl, omega arith))

-- `listing_write::has_room` meets its contract: two tests.
use borrow.Author.Tests.{le-leb, lt-leb}
use borrow.Author.Rules.{rules}
use Rattle.listing_write.specs.Contract.{fits}
use Rattle.listing_write.proofs.has_room.Goals as goal

pub returns-then-n-le65536 : goal.returns-then-n-le65536
unfolding fits
returns-then-n-le65536 c = rw (le-leb _ _ c.if-n-le65536.true) (search rules)

pub returns-else-n-le65536 : goal.returns-else-n-le65536
unfolding fits
returns-else-n-le65536 c = rw (lt-leb _ _ c.if-n-le65536.false) (search rules)

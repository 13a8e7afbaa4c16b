-- `enter` meets its contract: a folder is opened, a file is not.
use borrow.Author.Tests.{ne_eqb}
use Rattle.listing_reader.specs.Does.{entered}
use Rattle.listing_reader.proofs.Reader.enter.Goals as goal

pub returns-then-kind-eq0 : goal.returns-then-kind-eq0
unfolding entered
returns-then-kind-eq0 c = rw c.if-kind-eq0.true

pub returns-else-kind-eq0 : goal.returns-else-kind-eq0
unfolding entered
returns-else-kind-eq0 c = rw (ne_eqb _ 0 c.if-kind-eq0.false)

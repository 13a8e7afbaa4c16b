-- `table_names::filled` meets its contract, test by test.
use borrow.Author.Tests.{ne_eqb}
use Rattle.table_names.specs.Plain.{filled_word}
use Rattle.table_names.proofs.filled.Goals as goal

pub returns-then-x-ne0 : goal.returns-then-x-ne0
unfolding filled_word
returns-then-x-ne0 c = rw (ne_eqb _ _ c.if-x-ne0.true)

pub returns-then-x-ne0-2 : goal.returns-then-x-ne0-2
unfolding filled_word
returns-then-x-ne0-2 c = rw (c.if-x-ne0.false, ne_eqb _ _ c.if-x-ne0-2.true)

pub returns-then-x-ne0-3 : goal.returns-then-x-ne0-3
unfolding filled_word
returns-then-x-ne0-3 c = rw (c.if-x-ne0.false, c.if-x-ne0-2.false, ne_eqb _ _ c.if-x-ne0-3.true)

pub returns-then-x-ne0-4 : goal.returns-then-x-ne0-4
unfolding filled_word
returns-then-x-ne0-4 c = rw (c.if-x-ne0.false, c.if-x-ne0-2.false, c.if-x-ne0-3.false, ne_eqb _ _ c.if-x-ne0-4.true)

pub returns : goal.returns
unfolding filled_word
returns c = rw c.if-x-ne0-4.false

-- `table_names::good_name` meets its contract: the first word tells the empty name, "." and "..", the bytes the rest.
use borrow.Author.Tests.{eq-eqb, ne_eqb}
use Rattle.tree.specs.Rules.{good_name}
use Rattle.table_names.proofs.good_name.Goals as goal

pub returns-then-x-eq0 : goal.returns-then-x-eq0
unfolding good_name
returns-then-x-eq0 c =
    rw (eq-eqb _ _ c.if-x-eq0.true)

pub returns-then-x-eq771751936 : goal.returns-then-x-eq771751936
unfolding good_name
returns-then-x-eq771751936 c =
    rw (ne_eqb _ _ c.if-x-eq0.false, eq-eqb _ _ c.if-x-eq771751936.true)

pub returns-then-x-eq774766592 : goal.returns-then-x-eq774766592
unfolding good_name
returns-then-x-eq774766592 c =
    rw (ne_eqb _ _ c.if-x-eq0.false, ne_eqb _ _ c.if-x-eq771751936.false, eq-eqb _ _ c.if-x-eq774766592.true)

pub returns : goal.returns
unfolding good_name
returns c =
    rw (ne_eqb _ _ c.if-x-eq0.false, ne_eqb _ _ c.if-x-eq771751936.false, ne_eqb _ _ c.if-x-eq774766592.false) c.zero_filled.ensures

-- `table_row_rules::kind_ok` meets its contract: a folder's words 10 to 19, or kind 1.
use borrow.Author.Tests.{eq-eqb, ne_eqb}
use Rattle.table_rules.specs.Rules.{kind_rule}
use Rattle.table_row.proofs.Table.{tail-part}
use Rattle.table_row_rules.proofs.kind_ok.Goals as goal

pub returns-then-k-eq0 : goal.returns-then-k-eq0
unfolding kind_rule
returns-then-k-eq0 c =
    let a = c.args in
    rw (← c.word-k.ensures, eq-eqb _ _ c.if-k-eq0.true) (rw (tail-part a.t.now a.i) at c.all_zero.ensures)

pub returns : goal.returns
unfolding kind_rule
returns c = rw (← c.word-k.ensures, ne_eqb _ _ c.if-k-eq0.false)

-- `table_row::same_words` meets its contract: the words from word k on are the same.
use borrow.Author.Rules.{rules}
use Rattle.table_row.proofs.Compare.{alike-lengths, alike-differ, back_start, back-next, back_end}
use Rattle.table_row.proofs.same_words.Goals as goal

pub returns-then-a-b : goal.returns-then-a-b
returns-then-a-b c = alike-lengths _ _ c.if-a-b.true

pub loop-k-init : goal.loop-k-init
loop-k-init c = back_start _ _ c.if-a-b.false

pub returns-then-a-k : goal.returns-then-a-k
returns-then-a-k c = alike-differ _ _ _ c.if-a-k.true

pub loop-k-preserved : goal.loop-k-preserved
loop-k-preserved c = back-next c.loop-k.invariant (search rules) (search rules) c.if-a-k.false

pub returns : goal.returns
returns c = back_end c.loop-k.invariant (search rules)

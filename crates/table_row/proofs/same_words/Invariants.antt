-- `table_row::same_words` meets its contract: the words from word k on are the same.
use Rattle.table_row.proofs.Compare.{Back}
use Rattle.table_row.proofs.same_words.Given as goal

abbrev pub invariant-loop-k : goal.invariant-loop-k
invariant-loop-k l = Back l.a l.b l.k

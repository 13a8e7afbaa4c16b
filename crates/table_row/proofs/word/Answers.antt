-- `table_row::word` meets its contract: word j of row i is word 20 i + j of the table.
use mathlib.Core.Path.{sym}
use Rattle.table_row.proofs.Table.{word_at}
use Rattle.table_row.proofs.word.Goals as goal

pub returns : goal.returns
returns c =
    sym (word_at c.args.t.now c.args.i c.args.j c.requires.1)

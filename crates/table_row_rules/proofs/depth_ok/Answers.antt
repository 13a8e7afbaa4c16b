-- `table_row_rules::depth_ok` meets its contract: the depth against 1, 16 and the row before.
use Prim.Native.Nat.{◌-◌}
use borrow.Author.Tests.{le-leb, lt-leb}
use borrow.Author.Rules.{rules}
use Rattle.table_row.specs.Table.{row_at}
use Rattle.table_rules.specs.Rules.{depth_rule}
use Rattle.table_rules.proofs.Rows.{depth-folder, depth-file}
use Rattle.table_row_rules.proofs.depth_ok.Goals as goal

pub returns-then-d-lt1 : goal.returns-then-d-lt1
unfolding depth_rule
returns-then-d-lt1 c = rw (← c.word-d.ensures, lt-leb _ _ c.if-d-lt1.true)

pub returns-then-d-gt16 : goal.returns-then-d-gt16
unfolding depth_rule
returns-then-d-gt16 c =
    let d = c.word-d.result in
    rw (← c.word-d.ensures, le-leb 1 d (search rules), lt-leb d 16 (search rules))

pub returns-then-k-eq0 : goal.returns-then-k-eq0
returns-then-k-eq0 c =
    let a = c.args in
    depth-folder (row_at a.t.now (a.i - 1)) (row_at a.t.now a.i) c.word-d.ensures c.word-e.ensures c.word-k.ensures
    (search rules) (search rules) c.if-k-eq0.true

pub returns-else-k-eq0 : goal.returns-else-k-eq0
returns-else-k-eq0 c =
    let a = c.args in
    depth-file (row_at a.t.now (a.i - 1)) (row_at a.t.now a.i) c.word-d.ensures c.word-e.ensures c.word-k.ensures
    (search rules) (search rules) c.if-k-eq0.false

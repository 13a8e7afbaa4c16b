-- `table_row::name` meets its contract: a name is the eight words after the first two.
use Rattle.std.proofs.Common.{ap, ◌∙◌, length}
use Rattle.table_row.proofs.Table.{name-part, name-length}
use Rattle.table_row.proofs.name.Goals as goal

pub returns : goal.returns
returns c =
    let a = c.args in
    let e = name-part a.t.now a.i in
    (e, ap length e ∙ name-length a.t.now a.i c.requires)

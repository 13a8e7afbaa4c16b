-- `rename` puts the row's eight name words over those of the first row, where there are both.
use mathlib.Core.Path.{sym, ap, ◌∙◌}
use Rattle.table_row.specs.Buffer.{written}
use Rattle.plan_results.proofs.Renamed.{named_none, named-nothing, part_length, written_back, renamed}
use native.Mathlib.Omega.{arith}
use Rattle.plan_pieces.proofs.rename.Goals as goal

pub returns-then-row-lt20 : goal.returns-then-row-lt20
returns-then-row-lt20 c =
    let a = c.args in
    sym (ap (written a.out.now a.at) (named_none a.row.now _ (omega arith)) ∙ written_back a.out.now a.at a.e c.requires.1 c.requires.3)

pub returns-then-at-e : goal.returns-then-at-e
returns-then-at-e c =
    let a = c.args in
    c.copy_words.ensures.1 ∙ renamed a.out.now a.at a.e c.requires.1 c.requires.3 a.row.now (omega arith) (omega arith)

pub returns-else-at-e : goal.returns-else-at-e
returns-else-at-e c =
    let a = c.args in
    sym (ap (written a.out.now a.at) (named-nothing a.row.now _ (part_length a.out.now a.at a.e c.requires.1 c.requires.3 ∙ omega arith)) ∙ written_back a.out.now a.at a.e c.requires.1 c.requires.3)

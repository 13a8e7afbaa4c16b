-- `table_check::row_fit` meets its contract: the rules in turn; the first that fails answers.
use mathlib.Core.Path.{◌≡◌, sym, ◌∙◌}
use native.Mathlib.Omega.{arith}
use borrow.Author.Rules.{rules}
use Rattle.table_row.specs.Table.{row_at, depth}
use Rattle.table_rules.proofs.Rows.{sibling_at, fit_row}
use Rattle.table_check.proofs.Last.{depth-most}
use Rattle.table_check.proofs.row_fit.Goals as goal

pub bounds-last-d : goal.bounds-last-d
bounds-last-d c =
    let is-depth : c.wide-d.result ≡ depth (row_at c.args.t.now c.args.i) = c.wide-d.ensures.0 ∙ c.word.ensures in
    omega (arith, is-depth, (depth-most _ _ (sym c.depth_ok.ensures ∙ c.if-depth_ok.true)).0)

pub compare_rows-requires : goal.compare_rows-requires
compare_rows-requires c = (omega (arith, c.requires.lasts.low c.wide-d.result), c.requires.i_in_bounds.0)

pub returns-then-kind_ok : goal.returns-then-kind_ok
returns-then-kind_ok c =
    let a = c.args in
    let is-depth : c.wide-d.result ≡ depth (row_at a.t.now a.i) = c.wide-d.ensures.0 ∙ c.word.ensures in
    let e : sibling_at a.profile a.t.now a.i ≡ c.compare_rows.result =
    c.requires.lasts.stands _ (depth-most _ _ (sym c.depth_ok.ensures ∙ c.if-depth_ok.true)).1 _ (sym c.name_ok.ensures ∙ c.if-name_ok.true) ∙ rw (← is-depth) (sym c.compare_rows.ensures) in
    sym (fit_row a.profile a.t.now a.i (search rules)
    ∙ rw (← c.depth_ok.ensures, c.if-depth_ok.true, ← c.name_ok.ensures, c.if-name_ok.true, ← c.kind_ok.ensures, c.if-kind_ok.true, e) (sym c.fit_after.ensures))

pub returns-else-kind_ok : goal.returns-else-kind_ok
returns-else-kind_ok c =
    let a = c.args in
    sym (fit_row a.profile a.t.now a.i (search rules)
    ∙ rw (← c.depth_ok.ensures, c.if-depth_ok.true, ← c.name_ok.ensures, c.if-name_ok.true, ← c.kind_ok.ensures, c.if-kind_ok.false))

pub returns-else-name_ok : goal.returns-else-name_ok
returns-else-name_ok c =
    let a = c.args in
    sym (fit_row a.profile a.t.now a.i (search rules)
    ∙ rw (← c.depth_ok.ensures, c.if-depth_ok.true, ← c.name_ok.ensures, c.if-name_ok.false))

pub returns-else-depth_ok : goal.returns-else-depth_ok
returns-else-depth_ok c =
    let a = c.args in
    sym (fit_row a.profile a.t.now a.i (search rules) ∙ rw (← c.depth_ok.ensures, c.if-depth_ok.false))

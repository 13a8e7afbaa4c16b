-- `listing_rows::open_after` meets its contract: a folder's row opens one more.
use mathlib.Core.Path.{sym, ap, ◌∙◌}
use Prim.Native.Nat.{ℕ, ◌+◌}
use borrow.Author.Rules.{rules}
use Rattle.table_row.specs.Table.{row_at}
use Rattle.listing_content.proofs.Content.{open-dir, open-leaf}
use Rattle.listing_rows.proofs.open_after.Goals as goal

pub returns-then-word-eq0 : goal.returns-then-word-eq0
returns-then-word-eq0 c =
    let a = c.args in
    let e = open-dir (row_at a.t.now a.i) (sym c.word-2.ensures ∙ c.if-word-eq0.true) in
    (ap (λ (d : ℕ). d + 1) (c.wide-d.ensures.0 ∙ c.word.ensures) ∙ sym e, search rules)

pub returns-else-word-eq0 : goal.returns-else-word-eq0
returns-else-word-eq0 c =
    let a = c.args in
    let e = open-leaf (row_at a.t.now a.i) (λ z. c.if-word-eq0.false (c.word-2.ensures ∙ z)) in
    (c.wide-d.ensures.0 ∙ c.word.ensures ∙ sym e, search rules)

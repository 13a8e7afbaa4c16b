-- `listing_rows::put_row` meets its contract: the name, then what stands there.
use mathlib.Core.Path.{sym, ◌∙◌}
use borrow.Author.Rules.{rules}
use Rattle.table_row.specs.Table.{row_at}
use Rattle.listing_spell.proofs.Poured.{rest-all, rest_less, rest-last}
use Rattle.listing_content.proofs.Content.{line-dir, line-leaf}
use Rattle.listing_rows.proofs.put_row.Goals as goal

pub returns-then-word-eq0 : goal.returns-then-word-eq0
returns-then-word-eq0 c =
    rw (line-dir (row_at c.args.t.now c.args.i) (sym c.word.ensures ∙ c.if-word-eq0.true))
    (rest-last 243 (rest_less _ (rest-all _ _) (rw c.name.ensures.0 at c.put_name.ensures)) c.put_all.ensures (search rules))

pub returns : goal.returns
returns c =
    rw (line-leaf (row_at c.args.t.now c.args.i) (λ z. c.if-word-eq0.false (c.word.ensures ∙ z)))
    (rest-last 243 (rest_less _ (rest-all _ _) (rw c.name.ensures.0 at c.put_name.ensures)) c.put_content.ensures (search rules))

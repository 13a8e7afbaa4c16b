-- `entry_line` meets its contract: 11, 8, what the keywords say, then the entry's place.
use mathlib.Core.Path.{◌≡◌, sym, ◌∙◌}
use borrow.Author.Rules.{rules}
use Rattle.std.proofs.Common.{Err}
use Rattle.listing_keywords.proofs.Entries.{default-due}
use Rattle.listing_lines.proofs.Entry.{entry-shut, entry-nameless, entry-bad, entry-content, entry-put}
use Rattle.listing_entry_line.proofs.entry_line.Goals as goal

pub returns-then-s-eq0 : goal.returns-then-s-eq0
returns-then-s-eq0 c = entry-shut _ _ _ _ _ c.if-s-eq0.true

pub returns-in_default : goal.returns-in_default
returns-in_default c = entry-nameless _ _ _ _ _ c.if-s-eq0.false (sym c.in_default.ensures)

pub returns-in_err-content : goal.returns-in_err-content
returns-in_err-content c =
    let r : c.from_residual.result ≡ Err c.in_err-content.field-0.0 = search rules in
    rw r (entry-bad _ _ _ _ _ c.if-s-eq0.false (sym c.in-Some.ensures.0) _ (sym c.in_err-content.was ∙ c.entry_of.ensures _ (default-due c.args.s.default)))

pub put_row-requires : goal.put_row-requires
put_row-requires c = (c.requires, search rules, entry-content _ _ _ (sym c.in_ok-content.was ∙ c.entry_of.ensures _ (default-due c.args.s.default)))

pub returns : goal.returns
returns c =
    entry-put _ _ _ _ _ c.if-s-eq0.false (sym c.in-Some.ensures.0) _ _ _ (sym c.in_ok-content.was ∙ c.entry_of.ensures _ (default-due c.args.s.default)) (rw c.in-Some.ensures.1 at c.put_row.ensures)

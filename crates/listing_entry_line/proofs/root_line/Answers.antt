-- `root_line` meets its contract: 11, then what the type says, then 3.
use mathlib.Core.Path.{◌≡◌, sym, ◌∙◌}
use borrow.Author.Rules.{rules}
use Rattle.std.proofs.Common.{Err}
use Rattle.listing_keywords.proofs.Entries.{default-due}
use Rattle.listing_lines.proofs.Entry.{root-again, root-bad, root-full, root_opened}
use Rattle.listing_entry_line.proofs.root_line.Goals as goal

pub returns-then-s-ne0 : goal.returns-then-s-ne0
returns-then-s-ne0 c = root-again _ _ _ c.if-s-ne0.true

pub returns-in_err-root_of : goal.returns-in_err-root_of
returns-in_err-root_of c =
    let r : c.from_residual.result ≡ Err c.in_err-root_of.field-0.0 = search rules in
    rw r (root-bad _ _ _ c.if-s-ne0.false _ (sym c.in_err-root_of.was ∙ c.root_of.ensures _ (default-due c.args.s.default)))

pub returns-then-room-lt20 : goal.returns-then-room-lt20
returns-then-room-lt20 c = root-full _ _ _ c.if-s-ne0.false (sym c.in_ok-root_of.was ∙ c.root_of.ensures _ (default-due c.args.s.default)) c.if-room-lt20.true

pub returns : goal.returns
returns c =
    root_opened _ _ _ c.if-s-ne0.false (sym c.in_ok-root_of.was ∙ c.root_of.ensures _ (default-due c.args.s.default)) _ c.if-room-lt20.false c.enter_root.ensures

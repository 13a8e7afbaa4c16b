-- `read` meets its contract: zeroed, then the form, then the lines; zeroed again after a refusal.
use mathlib.Core.Path.{sym, ap, ◌∙◌}
use borrow.Author.Rules.{rules}
use Rattle.listing_reader.specs.State.{zeroed}
use Rattle.listing_read_lines.proofs.Answered.{read-accepted, read-formless, read-refused, zeros-long}
use Rattle.listing_read.proofs.read.Goals as goal

pub returns-then-is_err : goal.returns-then-is_err
returns-then-is_err c =
    let ran = c.read_lines-answer in
    let same = zeros-long _ _ c.zero.ensures in
    read-refused _ _ _ (sym c.has_form.ensures ∙ c.if-has_form.true) _ same _ _ ran.ensures _ (sym c.is_err.ensures.value ∙ c.if-is_err.true)
    (c.zero-then-is_err.ensures ∙ ap zeroed (ran.auto.t ∙ same))

pub returns-else-is_err : goal.returns-else-is_err
returns-else-is_err c =
    read-accepted _ _ _ (sym c.has_form.ensures ∙ c.if-has_form.true) _ (zeros-long _ _ c.zero.ensures) _ _ c.read_lines-answer.ensures
    (sym c.is_err.ensures.value ∙ c.if-is_err.false)

pub returns : goal.returns
returns c = read-formless _ _ _ _ (sym c.has_form.ensures ∙ c.if-has_form.false) (search rules)

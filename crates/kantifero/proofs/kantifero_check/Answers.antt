-- `kantifero::kantifero_check` meets its contract: the place is a row of at most 4,096.
use native.Mathlib.Omega.{arith}
use Rattle.table_rules.proofs.Passing.{check-is}
use Rattle.kantifero_calls.proofs.Bounds.{check-place}
use Rattle.kantifero_calls.specs.Words.{answer_words}
use mathlib.Core.Path.{◌∙◌, ap}
use Rattle.kantifero.proofs.kantifero_check.Goals as goal

pub answer_words-words-requires : goal.answer_words-words-requires
answer_words-words-requires c =
    let t = c.args.table.now in
    let p = c.profile_of.result in
    rw (check-is p t _ c.check_table.ensures) (omega (arith, check-place p t))

pub returns : goal.returns
returns c =
    let t = c.args.table.now in
    rw (← c.profile_of.ensures) (c.answer_words-words.ensures ∙ ap answer_words (check-is c.profile_of.result t _ c.check_table.ensures))

-- `kantifero::kantifero_move` meets its contract: the place is a row, or the rows of the result.
use native.Mathlib.Omega.{arith}
use Rattle.kantifero_calls.proofs.Says.{says-words}
use Rattle.kantifero_calls.proofs.Bounds.{move-place}
use mathlib.Core.Path.{◌∙◌}
use Rattle.kantifero.proofs.kantifero_move.Goals as goal

pub answer_words-words-requires : goal.answer_words-words-requires
answer_words-words-requires c =
    let a = c.args in
    omega (arith, c.make_move.ensures.says.place-due, move-place c.profile_of.result a.target.now a.source.now a.names.now a.depth a.res.now)

pub returns : goal.returns
returns c =
    let m = c.make_move in
    rw (← c.profile_of.ensures) (record { answered = c.answer_words-words.ensures ∙ says-words m.result _ _ _ m.ensures.says; room = m.ensures.room })

-- `kantifero::kantifero_write` meets its contract: the place is a row, or the bytes of the text.
use native.Mathlib.Omega.{arith}
use Rattle.kantifero_calls.proofs.Says.{says-words}
use Rattle.kantifero_calls.proofs.Bounds.{write-place}
use lib.ListN.{length}
use mathlib.Core.Path.{◌∙◌}
use Rattle.kantifero.proofs.kantifero_write.Goals as goal

pub answer_words-words-requires : goal.answer_words-words-requires
answer_words-words-requires c =
    let a = c.args in
    omega (arith, c.write.ensures.says.place-due, write-place c.profile_of.result a.table.now (length a.text.now))

pub returns : goal.returns
returns c =
    let w = c.write in
    rw (← c.profile_of.ensures) (record { answered = c.answer_words-words.ensures ∙ says-words w.result _ _ _ w.ensures.says; written = w.ensures.written })

-- `kantifero::kantifero_read` meets its contract: the place is a line, or the rows read.
use native.Mathlib.Omega.{arith}
use Rattle.kantifero_calls.proofs.Says.{says-words}
use Rattle.kantifero_calls.proofs.Reading.{read-place}
use lib.ListN.{length}
use mathlib.Core.Path.{◌∙◌}
use Rattle.kantifero.proofs.kantifero_read.Goals as goal

pub answer_words-words-requires : goal.answer_words-words-requires
answer_words-words-requires c =
    let a = c.args in
    omega (arith, c.read.ensures.says.place-due, read-place c.profile_of.result a.text.now (length a.table.now))

pub returns : goal.returns
returns c =
    let w = c.read in
    rw (← c.profile_of.ensures) (record { answered = c.answer_words-words.ensures ∙ says-words w.result _ _ _ w.ensures.says; table = w.ensures.table })

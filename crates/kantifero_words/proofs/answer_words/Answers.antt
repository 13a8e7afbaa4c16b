-- `kantifero_words::answer_words` meets its contract: by the answer's two forms.
use mathlib.Core.Path.{◌∙◌}
use Rattle.kantifero_words.proofs.answer_words.Goals as goal

pub narrow-requires : goal.narrow-requires
narrow-requires c = rw c.in-Ok.is at c.requires

pub refusal_words-requires : goal.refusal_words-requires
refusal_words-requires c = rw c.in-Err.is at c.requires

pub returns-in-Ok : goal.returns-in-Ok
returns-in-Ok c = rw c.in-Ok.is (c.three_words.ensures ∙ rw c.narrow.ensures)

pub returns-in-Err : goal.returns-in-Err
returns-in-Err c = rw c.in-Err.is c.refusal_words.ensures

-- `kantifero_words::reconciled_words` meets its contract, answer by answer.
use borrow.Author.Rules.{rules}
use Rattle.kantifero_words.proofs.reconciled_words.Goals as goal

pub counted_words-requires : goal.counted_words-requires
counted_words-requires c = (rw c.in-Ok.is at c.requires, search rules)

pub refusal_words-requires : goal.refusal_words-requires
refusal_words-requires c = rw c.in-Err.is at c.requires

pub returns-in-Ok : goal.returns-in-Ok
returns-in-Ok c = rw c.in-Ok.is c.counted_words.ensures

pub returns-in-Err : goal.returns-in-Err
returns-in-Err c = rw c.in-Err.is c.refusal_words.ensures

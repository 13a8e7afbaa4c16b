-- `kantifero_words::profile_of` meets its contract: case by case.
use borrow.Author.Tests.{eq-eqb, ne_eqb}
use Rattle.kantifero_calls.specs.Words.{profile_of}
use Rattle.kantifero_words.proofs.profile_of.Goals as goal

pub returns-then-word-eq0 : goal.returns-then-word-eq0
unfolding profile_of
returns-then-word-eq0 c = rw (eq-eqb _ _ c.if-word-eq0.true)

pub returns : goal.returns
unfolding profile_of
returns c = rw (ne_eqb _ _ c.if-word-eq0.false)

-- `kantifero_words::part_words` meets its contract: no words, right's, or left's.
use native.Mathlib.Omega.{arith}
use Rattle.kantifero_calls.specs.Carried.{part_words}
use borrow.Author.Tests.{eq-eqb, ne_eqb}
use mathlib.Core.Path.{◌∙◌}
use Rattle.kantifero_words.proofs.part_words.Goals as goal

pub returns-then-n-eq0 : goal.returns-then-n-eq0
unfolding part_words
returns-then-n-eq0 c = rw (eq-eqb _ _ c.if-n-eq0.true) c.three_words.ensures

pub overflow_mul-right_row : goal.overflow_mul-right_row
overflow_mul-right_row c = omega (arith, c.requires.right (omega arith) c.if-kind-eq1.true)

pub returns-then-kind-eq1 : goal.returns-then-kind-eq1
unfolding part_words
returns-then-kind-eq1 c = rw (ne_eqb _ _ c.if-n-eq0.false, eq-eqb _ _ c.if-kind-eq1.true) (c.three_words-then-kind-eq1.ensures ∙ rw c.narrow.ensures)

pub overflow_mul-left_row : goal.overflow_mul-left_row
overflow_mul-left_row c = omega (arith, c.requires.left (omega arith) c.if-kind-eq1.false)

pub returns : goal.returns
unfolding part_words
returns c = rw (ne_eqb _ _ c.if-n-eq0.false, ne_eqb _ _ c.if-kind-eq1.false) (c.three_words-2.ensures ∙ rw c.narrow-2.ensures)

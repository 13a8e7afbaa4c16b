-- `table_compare::lower_word` meets its contract: no sum is too large, and each byte is taken to its small letter.
use native.Mathlib.Omega.{arith}
use lib.Bits.{and_le_r}
use Rattle.tree.proofs.Keys.{lower_word-below}
use Rattle.table_compare.proofs.Bytes.{lower-at-once}
use borrow.Author.Rules.{rules}
use Rattle.table_compare.proofs.lower_word.Goals as goal

pub overflow_add-p : goal.overflow_add-p
overflow_add-p c = omega (arith, and_le_r c.args.x 2139062143)

pub overflow_add-q : goal.overflow_add-q
overflow_add-q c = omega (arith, and_le_r c.args.x 2139062143)

pub overflow_add-result : goal.overflow_add-result
overflow_add-result c = omega (arith, lower-at-once c.args.x (search rules), lower_word-below c.args.x (search rules))

pub returns : goal.returns
returns c = lower-at-once c.args.x (search rules)

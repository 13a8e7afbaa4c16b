-- `table_names::plain_word` meets its contract: no sum is too large, and each byte is told by itself.
use native.Mathlib.Omega.{arith}
use lib.Bits.{bit_and, and_le_r, xor_lt}
use Rattle.table_names.proofs.Plain.{plain-at-once}
use borrow.Author.Rules.{rules}
use Rattle.table_names.proofs.plain_word.Goals as goal

pub overflow_add-p : goal.overflow_add-p
overflow_add-p c = omega (arith, and_le_r c.args.x 2139062143)

pub overflow_add-q : goal.overflow_add-q
overflow_add-q c =
    let l = and_le_r c.args.x 2139062143 in
    omega (arith, xor_lt 31 (bit_and c.args.x 2139062143) 791621423 (omega arith) (omega arith))

pub returns : goal.returns
returns c = plain-at-once c.args.x (search rules)

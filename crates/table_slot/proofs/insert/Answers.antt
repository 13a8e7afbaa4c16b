-- `insert` meets its contract: the later words are shifted, and the row stands in the gap.
use mathlib.Core.Path.{◌∙◌}
use native.Mathlib.Omega.{arith}
use lib.ListN.{take, drop}
use Prim.Native.Nat.{◌*◌, ◌-◌}
use borrow.Author.Rules.{rules}
use Rattle.table_slot.specs.Insert.{inserted}
use Rattle.table_slot.proofs.Words.{written_both}
use Rattle.table_slot.proofs.insert.Goals as goal

pub returns : goal.returns
unfolding inserted
returns c =
    let a = c.args in
    let p = c.requires in
    c.copy_words.ensures.1 ∙ rw c.shift.ensures (written_both a.t.now a.words (take (20 * a.count - 20 * a.i) (drop (20 * a.i) a.t.now)) (20 * a.i) 20 (search rules) (omega arith))

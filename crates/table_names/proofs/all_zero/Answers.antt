-- `table_names::all_zero` meets its contract: all words are zero where the flag says so of those before the word, and the rest are.
use mathlib.Core.Bool.{and-true, and-false}
use lib.ListN.{length}
use Prim.Native.Nat.{◌<◌}
use borrow.Author.Rules.{rules}
use Rattle.table_names.proofs.Words.{zeros-next, zeros-not, zeros-end}
use Rattle.table_names.proofs.all_zero.Goals as goal
use Rattle.table_names.proofs.all_zero.Goals.{then-word-ne0, else-word-ne0}

pub loop-word-preserved : goal.loop-word-preserved
loop-word-preserved c =
    let a = c.args in
    let k = c.loop-word.word-index in
    let h : k < length a.s.now = search rules in
    elim c.if-word-ne0.branch [
      | then-word-ne0 w ↦ rw w.zero-is (rw (zeros-not a.s.now k h w.if-word-ne0.true, and-false) at c.loop-word.invariant)
      | else-word-ne0 w ↦ rw (w.zero-is, ← zeros-next a.s.now k h w.if-word-ne0.false) c.loop-word.invariant
    ]

pub returns : goal.returns
returns c =
    let a = c.args in
    rw (zeros-end a.s.now c.loop-word.word-index (search rules), and-true) at c.loop-word.invariant

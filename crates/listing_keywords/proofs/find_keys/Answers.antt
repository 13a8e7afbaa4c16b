-- `find_keys` meets its contract: what was found is of the words before what is left.
use mathlib.Core.Logic.{inl, inr}
use native.Mathlib.Omega.{arith}
use lib.ListN.{length, drop, length-drop}
use lib.Seq.{take_all}
use Prim.Native.Nat.{◌-◌}
use Rattle.listing_words.proofs.First.{first-none, first-smaller}
use Rattle.listing_keywords.proofs.Found.{passed_none, passed-all, passed-word}
use Rattle.listing_keywords.proofs.find_keys.Goals as goal
use Rattle.listing_keywords.proofs.find_keys.Goals.{else-k-word, then-k-word}

pub loop-word-init : goal.loop-word-init
loop-word-init c = passed_none

pub loop-word-smaller : goal.loop-word-smaller
loop-word-smaller c = first-smaller _ _ _ c.in-Some.ensures

pub loop-word-preserved : goal.loop-word-preserved
loop-word-preserved c =
    let word = c.in-Some.word.now in
    rw c.noted-h.ensures
    (passed-word c.loop-word.invariant _ c.in-Some.ensures c.key_end-k.ensures
    (elim c.if-k-word.branch [ then-k-word w ↦ inl (w.if-k-word.true, w.v-is) | else-k-word w ↦ inr (w.if-k-word.false, w.v-is) ])
    (take_all (length word - c.if-k-word.v) (drop c.if-k-word.v word) (rw length-drop (omega arith))))

pub returns : goal.returns
returns c = passed-all c.loop-word.invariant (first-none _ c.in_default.ensures)

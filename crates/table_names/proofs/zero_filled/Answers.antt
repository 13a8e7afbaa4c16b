-- `table_names::zero_filled` meets its contract: the words before word k are plain, so those from it on decide.
use mathlib.Core.Path.{sym, ◌∙◌}
use Prim.Native.Nat.{◌+◌}
use borrow.Author.Rules.{rules}
use Rattle.table_names.proofs.Words.{rest-is}
use Rattle.table_names.proofs.ByWords.{word-plain, word-filled, word_end, drop-bytes}
use Rattle.table_names.proofs.zero_filled.Goals as goal

pub loop-k-preserved : goal.loop-k-preserved
loop-k-preserved c =
    let w = c.args.s.now in
    let p = sym c.plain_word.ensures ∙ c.if-plain_word.true in
    (search rules, c.loop-k.invariant.1 ∙ word-plain w c.loop-k.k (search rules) p)

pub returns-then-plain_word-2 : goal.returns-then-plain_word-2
returns-then-plain_word-2 c =
    let w = c.args.s.now in
    let k = c.loop-k.k in
    let p = rw c.filled.ensures at (sym c.plain_word-in-loop-k.ensures ∙ c.if-plain_word-2.true) in
    let n = sym c.plain_word.ensures ∙ c.if-plain_word.false in
    c.all_zero.ensures ∙ rw (rest-is w (k + 1)) (sym (c.loop-k.invariant.1 ∙ word-filled w k (search rules) p n))

pub returns-in-loop-k : goal.returns-in-loop-k
returns-in-loop-k c =
    c.filled_from.ensures ∙ rw drop-bytes (sym c.loop-k.invariant.1)

pub returns : goal.returns
returns c =
    sym (c.loop-k.invariant.1 ∙ word_end c.args.s.now c.loop-k.k (search rules))

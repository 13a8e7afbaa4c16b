-- `table_names::short_name` meets its contract: plain words, then one that is plain but for its last zero bytes, then zeros.
use mathlib.Core.Path.{◌≡◌, sym, ◌∙◌}
use mathlib.Core.Bool.{true, false≢true}
use lib.ListN.{drop}
use borrow.Author.Rules.{rules}
use Rattle.tree.specs.Rules.{zeros}
use Rattle.table_names.proofs.Words.{rest-is, zeros-next}
use Rattle.table_names.proofs.ByWords.{word-plain, word-last, first_plain}
use Rattle.table_names.proofs.short_name.Goals as goal

pub returns-then-plain_word-2 : goal.returns-then-plain_word-2
returns-then-plain_word-2 c e =
    let w = c.args.s.now in
    let tail : zeros (drop 3 w) ≡ true = rw (← rest-is w 3) (sym c.all_zero.ensures ∙ c.if-all_zero.true) in
    let first = sym c.plain_word.ensures ∙ c.if-plain_word.true in
    let second = sym c.plain_word-then-plain_word.ensures ∙ c.if-plain_word-2.true in
    let third = rw c.filled.ensures at (sym c.plain_word-then-plain_word-2.ensures ∙ e) in
    let last = word-last w 2 (search rules) third tail in
    first_plain w first (word-plain w 0 (search rules) first ∙ word-plain w 1 (search rules) second ∙ last)

pub returns-then-s-eq0 : goal.returns-then-s-eq0
returns-then-s-eq0 c e =
    let w = c.args.s.now in
    let tail : zeros (drop 3 w) ≡ true = rw (← rest-is w 3) (sym c.all_zero.ensures ∙ c.if-all_zero.true) in
    let first = sym c.plain_word.ensures ∙ c.if-plain_word.true in
    let second = rw c.filled-then-s-eq0.ensures at (sym c.plain_word-then-s-eq0.ensures ∙ e) in
    let zero = zeros-next w 2 (search rules) c.if-s-eq0.true ∙ tail in
    first_plain w first (word-plain w 0 (search rules) first ∙ word-last w 1 (search rules) second zero)

pub returns-else-s-eq0 : goal.returns-else-s-eq0
returns-else-s-eq0 c e = absurd (false≢true e)

pub returns-else-plain_word : goal.returns-else-plain_word
returns-else-plain_word c e = absurd (false≢true e)

pub returns-else-all_zero : goal.returns-else-all_zero
returns-else-all_zero c e = absurd (false≢true e)

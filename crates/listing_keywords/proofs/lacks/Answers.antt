-- `lacks` meets its contract: the words before what is left lack the keyword.
use mathlib.Core.Path.{sym, ◌∙◌}
use Rattle.listing.specs.Words.{values}
use Rattle.listing_words.proofs.First.{first-none, first-next, first-smaller}
use Rattle.listing_keywords.proofs.lacks.Goals as goal

pub returns-then-has_key : goal.returns-then-has_key
unfolding values
returns-then-has_key c =
    let t = sym c.has_key.ensures ∙ c.if-has_key.true in
    rw (c.loop-word.invariant, (first-next _ _ _ c.in-Some.ensures).parted, t)

pub loop-word-smaller : goal.loop-word-smaller
loop-word-smaller c = first-smaller _ _ _ c.in-Some.ensures

pub loop-word-preserved : goal.loop-word-preserved
unfolding values
loop-word-preserved c =
    let t = sym c.has_key.ensures ∙ c.if-has_key.false in
    c.loop-word.invariant ∙ rw ((first-next _ _ _ c.in-Some.ensures).parted, t)

pub returns : goal.returns
unfolding values
returns c = rw (c.loop-word.invariant, first-none _ c.in_default.ensures)

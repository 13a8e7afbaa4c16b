-- `key_end` meets its contract: the keyword ends at the first `=`.
use mathlib.Core.Path.{◌∙◌}
use Rattle.listing_values.proofs.Keywords.{key-fits, key-place}
use Rattle.listing_values.proofs.key_end.Goals as goal

pub returns : goal.returns
returns c =
    let e = c.unwrap_or.ensures ∙ rw c.first_equals.ensures (key-place c.args.word.now) in
    record { is = e; fits = rw e (key-fits c.args.word.now) }

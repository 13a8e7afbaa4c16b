-- `all_digits` meets its contract: the flag says it of the values before place i.
use mathlib.Core.Bool.{and-true}
use native.Mathlib.Omega.{arith}
use lib.ListN.{drop_of_length-le}
use Rattle.std.proofs.lemmas.Bool.Decides.{nat_tests}
use Rattle.listing_values.specs.Values.{all_below}
use Rattle.listing_values.proofs.Digests.{below-first}
use Rattle.listing_values.proofs.all_digits.Goals as goal

pub loop-d-preserved : goal.loop-d-preserved
loop-d-preserved c =
    let d = c.args.digits.now in
    let n = c.requires in
    let e = rw (below-first d c.loop-d.d-index (omega arith) 16) at c.loop-d.invariant in
    grind (arith, nat_tests)

pub returns : goal.returns
unfolding all_below
returns c =
    let n = c.requires in
    rw (c.loop-d.invariant, drop_of_length-le c.args.digits.now {i = c.loop-d.d-index} (omega arith), and-true c.loop-d.good)

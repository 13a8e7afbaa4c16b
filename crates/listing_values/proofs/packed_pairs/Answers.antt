-- `packed_pairs` meets its contract: the first i bytes are what the values before place 2 * i say.
use mathlib.Core.Path.{ap}
use native.Mathlib.Omega.{arith}
use lib.ListN.{drop_of_length-le}
use Prim.Native.Nat.{◌+◌, ◌*◌}
use Rattle.listing_values.specs.Values.{pairs}
use Rattle.listing_values.proofs.Digests.{fill_one, filled, pair-first, each_below}
use Rattle.listing_values.proofs.packed_pairs.Goals as goal

pub overflow_mul-bytes-in-loop-i : goal.overflow_mul-bytes-in-loop-i
overflow_mul-bytes-in-loop-i c =
    let n = c.requires.0 in
    let a = each_below 16 c.args.digits.now (2 * c.loop-i.i) c.requires.1 (omega arith) in
    omega arith

pub overflow_add-bytes-in-loop-i : goal.overflow_add-bytes-in-loop-i
overflow_add-bytes-in-loop-i c =
    let n = c.requires.0 in
    let a = each_below 16 c.args.digits.now (2 * c.loop-i.i) c.requires.1 (omega arith) in
    let b = each_below 16 c.args.digits.now (2 * c.loop-i.i + 1) c.requires.1 (omega arith) in
    omega arith

pub loop-i-preserved : goal.loop-i-preserved
loop-i-preserved c =
    let n = c.requires.0 in
    fill_one c.loop-i.invariant _ _ c.loop-i-test.true
    (pair-first c.args.digits.now c.loop-i.i (omega arith))

pub returns : goal.returns
unfolding pairs
returns c =
    let n = c.requires.0 in
    let e = drop_of_length-le c.args.digits.now {i = 2 * c.loop-i.i} (omega arith) in
    filled c.loop-i.invariant c.loop-i-test.false (ap pairs e)

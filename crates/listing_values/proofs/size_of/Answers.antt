-- `size_of` meets its contract: the digits before place i say v, and v fits 64 bits.
use mathlib.Core.Path.{◌≡◌, ap, ◌∙◌}
use native.Mathlib.Omega.{arith}
use lib.ListN.{drop, get_or, drop_of_length-le}
use Prim.Native.Nat.{◌+◌, ◌*◌, ◌≤◌, ◌<◌}
use borrow.Author.Tests.{lt-ltb, le-ltb}
use borrow.Author.Rules.{rules}
use Rattle.listing.specs.Bytes.{digit_value}
use Rattle.listing.specs.Values.{digits, decimal_from, size_of}
use Rattle.listing_values.proofs.Sizes.{digits-at, decimal-at, decimal-grows, size-empty, size-long, size-digits, size-large, size-good}
use Rattle.listing_values.proofs.size_of.Goals as goal

pub returns-then-value-eq0 : goal.returns-then-value-eq0
returns-then-value-eq0 c = (size-empty _ c.if-value-eq0.true)

pub returns-then-value-gt20 : goal.returns-then-value-gt20
returns-then-value-gt20 c = (size-long _ c.if-value-gt20.true)

pub returns-then-d-gt9 : goal.returns-then-d-gt9
returns-then-d-gt9 c =
    let v = c.args.value.now in
    let q : c.from-d.result ≡ digit_value (get_or v c.loop-b.b-index 0) = c.from-d.ensures ∙ c.digit_value.ensures.value in
    let d = rw (le-ltb _ 10 (let z = c.if-d-gt9.true in let g : 10 ≤ digit_value (get_or v c.loop-b.b-index 0) = omega arith in g)) at (digits-at v c.loop-b.b-index c.loop-b-test.true 10) in
    (size-digits v (c.loop-b.invariant.1 ∙ d))

pub returns-then-d-v : goal.returns-then-d-v
returns-then-d-v c =
    let v = c.args.value.now in
    let q : c.from-d.result ≡ digit_value (get_or v c.loop-b.b-index 0) = c.from-d.ensures ∙ c.digit_value.ensures.value in
    let n = c.loop-b.invariant.2 ∙ decimal-at v c.loop-b.b-index c.loop-b-test.true c.loop-b.v in
    let g = decimal-grows (10 * c.loop-b.v + digit_value (get_or v c.loop-b.b-index 0)) (drop (c.loop-b.b-index + 1) v) in
    let z = c.if-d-v.true in
    let t = c.if-d-gt9.false in
    (size-large v (omega arith))

pub loop-b-preserved : goal.loop-b-preserved
loop-b-preserved c =
    let v = c.args.value.now in
    let h = c.loop-b-test.true in
    let q : c.from-d.result ≡ digit_value (get_or v c.loop-b.b-index 0) = c.from-d.ensures ∙ c.digit_value.ensures.value in
    let z = c.if-d-v.false in
    let t = c.if-d-gt9.false in
    let d = rw (lt-ltb _ 10 (let g : digit_value (get_or v c.loop-b.b-index 0) < 10 = omega arith in g)) at (digits-at v c.loop-b.b-index h 10) in
    (omega arith, c.loop-b.invariant.1 ∙ d, c.loop-b.invariant.2 ∙ rw q (decimal-at v c.loop-b.b-index h c.loop-b.v))

pub returns : goal.returns
unfolding digits decimal_from
returns c =
    let l = c.loop-b in
    let v = c.args.value.now in
    let z = drop_of_length-le v c.loop-b-test.false in
    let n : size_of v ≡ l.v = l.invariant.2 ∙ ap (decimal_from l.v) z in
    let b = l.invariant.0 in (
      size-good v c.if-value-eq0.false (search rules) (l.invariant.1 ∙ ap (digits 10) z) (omega arith),
      rw n,
      rw n,
    )

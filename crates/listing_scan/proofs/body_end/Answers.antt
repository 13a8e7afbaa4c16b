-- `body_end` meets its contract: from place i on, the line still has as many bytes as are missing.
use mathlib.Core.Path.{◌≡◌, ap}
use lib.ListN.{drop, drop_of_length-le}
use Rattle.listing.specs.Lines.{len_in}
use Rattle.listing_scan.proofs.Tests.{after}
use Rattle.listing_scan.proofs.Body.{body-ends, body-goes, body-joins}
use Rattle.listing_scan.proofs.Plain.{body-past}
use native.Mathlib.Omega.{arith}
use borrow.Author.Rules.{rules}
use Rattle.listing_scan.proofs.body_end.Goals as goal
use Rattle.listing_scan.proofs.body_end.Goals.{then-b-eq10+then-back, else-b-eq10}

pub loop-i-init : goal.loop-i-init
loop-i-init c = (c.past_plain-i.ensures.fits, body-past c.past_plain-i.ensures)

pub returns-else-back : goal.returns-else-back
returns-else-back c =
    let q = body-ends c.args.text.now c.loop-i.i c.loop-i-test.true c.if-b-eq10.true in
    let e = rw c.if-back.false at c.loop-i.invariant.1 in
    record { is = omega arith; fits = search rules }

pub loop-i-preserved : goal.loop-i-preserved
loop-i-preserved c =
    let t = c.args.text.now in
    let l = c.loop-i in
    let e = l.invariant.1 in (
      search rules,
      elim c.if-b-eq10.branch [ then-b-eq10+then-back w ↦ let q = body-joins t l.i c.loop-i-test.true w.if-b-eq10.true in let z = rw w.if-back.true at e in rw w.back-is (omega arith) | else-b-eq10 w ↦ let q = body-goes t l.i c.loop-i-test.true l.back (omega (arith, c.type_inv.text l.i)) w.if-b-eq10.false in rw w.back-is (omega arith) ],
    )

pub returns : goal.returns
unfolding len_in
returns c =
    let t = c.args.text.now in
    let q : len_in (after c.loop-i.back) (drop c.loop-i.i t) ≡ 0 = ap (len_in (after c.loop-i.back)) (drop_of_length-le t c.loop-i-test.false) in
    let e = c.loop-i.invariant.1 in
    record { is = omega arith; fits = search rules }

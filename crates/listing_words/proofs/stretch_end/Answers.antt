-- `stretch_end` meets its contract: from the start to place i all bytes are blanks, or none is.
use mathlib.Core.Path.{◌≡◌, ap}
use native.Mathlib.Omega.{arith}
use lib.ListN.{drop, drop_of_length-le}
use borrow.Author.Rules.{rules}
use borrow.Author.Tests.{not-false, not-true}
use Rattle.listing_scan.specs.Places.{stretch}
use Rattle.listing_scan.proofs.Scan.{stretch-at}
use Rattle.listing_words.proofs.stretch_end.Goals as goal

pub loop-i-preserved : goal.loop-i-preserved
loop-i-preserved c =
    let a = c.args in
    let q = rw (← c.blank_at.ensures, not-false _ c.if-blank_at-blanks.false) at (stretch-at a.line.now c.loop-i.i c.loop-i-test.true a.blanks) in
    let e = c.loop-i.invariant.1 in
    (search rules, omega arith)

pub returns-then-blank_at-blanks : goal.returns-then-blank_at-blanks
returns-then-blank_at-blanks c =
    let a = c.args in
    let q = rw (← c.blank_at.ensures, not-true _ c.if-blank_at-blanks.true) at (stretch-at a.line.now c.loop-i.i c.loop-i-test.true a.blanks) in
    let e = c.loop-i.invariant.1 in
    record { is = omega arith; fits = search rules }

pub returns : goal.returns
unfolding stretch
returns c =
    let l = c.loop-i in
    let a = c.args in
    let q : stretch a.blanks (drop l.i a.line.now) ≡ 0 = ap (stretch a.blanks) (drop_of_length-le a.line.now c.loop-i-test.false) in
    let e = l.invariant.1 in
    record { is = omega arith; fits = search rules }

-- `line_end` meets its contract: from place i on, in mode m, the line still has as many bytes as are missing.
use mathlib.Core.Path.{◌≡◌, sym, ap, ◌∙◌}
use native.Mathlib.Omega.{arith}
use lib.ListN.{drop, drop_of_length-le}
use Prim.Native.Nat.{◌+◌}
use borrow.Author.Rules.{rules}
use Rattle.listing.specs.Lines.{len_in}
use Rattle.listing_scan.proofs.Scan.{len-at, len-done}
use Rattle.listing_scan.proofs.Body.{body_is}
use Rattle.listing_scan.proofs.line_end.Goals as goal

pub returns-then-ended : goal.returns-then-ended
returns-then-ended c =
    let s = c.step-m in
    let t = c.args.text.now in
    let q = rw (c.loop-i.invariant.1, ← c.sort_byte.ensures, ← s.ensures) at (len-at t c.loop-i.i c.loop-i-test.true c.loop-i.m) in
    let z = len-done (drop (c.loop-i.i + 1) t) s.result (sym c.ended.ensures ∙ c.if-ended.true) in
    let e = c.loop-i.invariant.2 in
    record { is = omega arith; fits = search rules }

pub returns-then-in_body : goal.returns-then-in_body
returns-then-in_body c =
    let s = c.step-m in
    let t = c.args.text.now in
    let q = rw (c.loop-i.invariant.1, ← c.sort_byte.ensures, ← s.ensures) at (len-at t c.loop-i.i c.loop-i-test.true c.loop-i.m) in
    let b = body_is s.result (sym c.in_body.ensures ∙ c.if-in_body.true) in
    let r = rw b at q in
    let e = c.loop-i.invariant.2 in
    let z = c.body_end.ensures.is in
    record { is = omega arith; fits = c.body_end.ensures.fits }

pub loop-i-preserved : goal.loop-i-preserved
loop-i-preserved c =
    let s = c.step-m in
    let t = c.args.text.now in
    let q = rw (c.loop-i.invariant.1, ← c.sort_byte.ensures, ← s.ensures) at (len-at t c.loop-i.i c.loop-i-test.true c.loop-i.m) in
    let e = c.loop-i.invariant.2 in
    (search rules, sym c.ended.ensures ∙ c.if-ended.false, omega arith)

pub returns : goal.returns
unfolding len_in
returns c =
    let l = c.loop-i in
    let t = c.args.text.now in
    let q : len_in l.m (drop l.i t) ≡ 0 = ap (len_in l.m) (drop_of_length-le t c.loop-i-test.false) in
    let e = l.invariant.2 in
    record { is = omega arith; fits = search rules }

-- `unescape` meets its contract: the first n bytes are what the bytes before place i spell, and none of them is 0.
use native.Mathlib.Omega.{arith}
use Prim.Native.Nat.{◌+◌}
use Rattle.listing_names.proofs.Spelling.{decode-at, decode-plain, decode-escape, write-none, write-one, spelt-bad, spelt-long, spelt-fits, spelt-words}
use Rattle.listing_names.proofs.unescape.Goals as goal

pub loop-i-init : goal.loop-i-init
loop-i-init c = write-none c.args.word.now

pub returns-in_err-b : goal.returns-in_err-b
returns-in_err-b c =
    let w = c.args.word.now in
    let e = rw c.in_err-b.was at c.byte_at.ensures in
    rw c.from_residual.ensures (spelt-bad w c.loop-i.bytes c.loop-i.n c.loop-i.i c.loop-i.invariant _ _ e (decode-at w c.loop-i.i c.loop-i-test.true))

pub returns-then-n-eq32 : goal.returns-then-n-eq32
returns-then-n-eq32 c =
    let w = c.args.word.now in
    spelt-long w c.loop-i.bytes c.loop-i.n c.loop-i.i c.loop-i.invariant _ _ (omega arith) (decode-at w c.loop-i.i c.loop-i-test.true)

pub loop-i-preserved-then-word-i-eq92 : goal.loop-i-preserved-then-word-i-eq92
loop-i-preserved-then-word-i-eq92 c =
    let b = rw c.in_ok-b.was at c.byte_at.ensures in
    let w = c.args.word.now in
    let e = rw (← b.0) at (decode-escape w c.loop-i.i c.loop-i-test.true c.if-word-i-eq92.true) in
    write-one w c.loop-i.bytes c.loop-i.n c.loop-i.i c.loop-i.invariant (c.loop-i.i + 4) _ (let s = c.loop-i.invariant.small in omega arith) (λ z. omega (arith, b.1)) e

pub loop-i-preserved : goal.loop-i-preserved
loop-i-preserved c =
    let b = rw c.in_ok-b.was at c.byte_at.ensures in
    let w = c.args.word.now in
    let e = rw (← b.0) at (decode-plain w c.loop-i.i c.loop-i-test.true c.if-word-i-eq92.false) in
    write-one w c.loop-i.bytes c.loop-i.n c.loop-i.i c.loop-i.invariant (c.loop-i.i + 1) _ (let s = c.loop-i.invariant.small in omega arith) (λ z. omega (arith, b.1)) e

pub returns : goal.returns
returns c =
    let l = c.loop-i in
    let w = c.args.word.now in
    (spelt-fits w l.bytes l.n l.i l.invariant c.loop-i-test.false, spelt-words w l.bytes l.n l.i l.invariant c.loop-i-test.false)

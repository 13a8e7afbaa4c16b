-- `all_text` meets its contract: the bytes before the one at b-index are text.
use mathlib.Core.Path.{sym, ap, ◌∙◌}
use native.Mathlib.Omega.{arith}
use lib.ListN.{length, take, drop, length-drop, drop_of_length-le}
use lib.Seq.{take_all}
use Prim.Native.Nat.{◌-◌}
use Rattle.listing.specs.Words.{is_text}
use Rattle.listing_scan.proofs.Plain.{text-past}
use Rattle.listing_scan.proofs.Scan.{text_at}
use Rattle.listing_words.proofs.all_text.Goals as goal

pub loop-b-init : goal.loop-b-init
loop-b-init c =
    let l = c.args.line.now in
    let p = c.past_plain in
    text-past p.ensures ∙ ap is_text (sym (take_all (length l - p.result) (drop p.result l) (rw length-drop (omega arith))))

pub returns-then-refused : goal.returns-then-refused
returns-then-refused c =
    let l = c.args.line.now in
    let p = c.past_plain.result in
    let q = text_at (take (length l - p) (drop p l)) c.loop-b.b-index c.loop-b-test.true in
    sym (c.loop-b.invariant ∙ rw (← c.refused.ensures, c.if-refused.true) at q)

pub loop-b-preserved : goal.loop-b-preserved
loop-b-preserved c =
    let l = c.args.line.now in
    let p = c.past_plain.result in
    let q = text_at (take (length l - p) (drop p l)) c.loop-b.b-index c.loop-b-test.true in
    c.loop-b.invariant ∙ rw (← c.refused.ensures, c.if-refused.false) at q

pub returns : goal.returns
unfolding is_text
returns c =
    let l = c.args.line.now in
    let p = c.past_plain.result in
    sym (c.loop-b.invariant ∙ ap is_text (drop_of_length-le (take (length l - p) (drop p l)) c.loop-b-test.false))

-- `take_line` meets its contract: nothing for blank lines and comments, 7, then the first word decides.
use mathlib.Core.Path.{refl, ◌∙◌}
use borrow.Author.Tests.{ne_eqb}
use native.Mathlib.Omega.{arith}
use lib.ListN.{length, drop, length-drop, length-take}
use lib.Seq.{take_all}
use Prim.Native.Nat.{◌-◌, ◌<◌}
use Rattle.listing_scan.proofs.Next.{words-next}
use Rattle.listing_lines.proofs.Words.{by_first, no_words, takes-alters, takes-as}
use Rattle.listing_lines.proofs.Alters.{refuses, stays}
use Rattle.listing_take_line.proofs.take_line.Goals as goal

pub returns-then-line-a : goal.returns-then-line-a
returns-then-line-a c =
    let a = c.args in
    takes-as (no_words a.profile a.line.now _ c.skip_blanks-a.ensures.is c.if-line-a.true) (takes-alters a.t.now (stays _))

pub returns-then-line-a-eq35 : goal.returns-then-line-a-eq35
returns-then-line-a-eq35 c =
    let a = c.args in
    let k = c.skip_blanks-a in
    let h = c.if-line-a.false in
    let l : k.result < length a.line.now = omega arith in
    takes-as (λ most t. by_first a.profile a.line.now k.result k.ensures.is _ refl l most t ∙ rw c.if-line-a-eq35.true) (takes-alters a.t.now (stays _))

pub word_line-requires : goal.word_line-requires
word_line-requires c =
    let k = c.skip_blanks-a in
    let h = c.if-line-a.false in
    let l : k.result < length c.args.line.now = omega arith in
    let n = words-next c.args.line.now 0 k.result k.ensures.is c.word_end-e.result c.word_end-e.ensures.is l in
    let some = n.some in
    let fits = n.fits in
    (rw (length-take, length-drop) (omega arith), c.requires)

pub returns-then-all_text : goal.returns-then-all_text
returns-then-all_text c =
    let a = c.args in
    let k = c.skip_blanks-a in
    let h = c.if-line-a.false in
    let l : k.result < length a.line.now = omega arith in
    let e = c.word_end-e in
    let rest = take_all (length a.line.now - e.result) (drop e.result a.line.now) (rw length-drop (omega arith)) in
    takes-as
    (λ most t. by_first a.profile a.line.now k.result k.ensures.is e.result e.ensures.is l most t ∙ rw (ne_eqb _ 35 c.if-line-a-eq35.false, ← c.all_text.ensures, c.if-all_text.true))
    (rw rest at c.word_line.ensures)

pub returns : goal.returns
returns c =
    let a = c.args in
    let k = c.skip_blanks-a in
    let h = c.if-line-a.false in
    let l : k.result < length a.line.now = omega arith in
    takes-as
    (λ most t. by_first a.profile a.line.now k.result k.ensures.is _ refl l most t ∙ rw (ne_eqb _ 35 c.if-line-a-eq35.false, ← c.all_text.ensures, c.if-all_text.false))
    (takes-alters a.t.now (refuses 7 _ (omega arith)))

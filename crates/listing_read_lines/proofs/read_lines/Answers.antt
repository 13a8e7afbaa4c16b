-- `read_lines` meets its contract: what is left to run from the state so far is what the whole text comes to.
use Rattle.listing_scan.proofs.Next.{lines_next}
use Rattle.listing_read_lines.proofs.Ended.{table-end}
use lib.ListN.{length-take, length-drop}
use Rattle.listing_read_lines.proofs.Going.{going_end, going-first, goes_on, refused-lines, stopped}
use native.Mathlib.Omega.{arith}
use Rattle.listing_read_lines.proofs.read_lines.Goals as goal

pub loop-i-init : goal.loop-i-init
loop-i-init c =
    (omega arith, omega arith, going-first c.args.profile c.args.text.now c.args.t.now _ c.requires c.fresh-s.ensures)

pub returns-in-Err : goal.returns-in-Err
returns-in-Err c =
    let v = c.loop-i in
    let e = c.line_end-e in
    let k = c.take_line in
    refused-lines (stopped v.invariant.2 e.result e.ensures.is c.loop-i-test.true _ k.result k.ensures _ c.in-Err.is)

pub loop-i-smaller : goal.loop-i-smaller
loop-i-smaller c =
    let v = c.loop-i in
    let e = c.line_end-e in
    let n = lines_next v.line c.args.text.now v.i e.result e.ensures.is c.loop-i-test.true in
    let less = n.some in
    let fits = n.fits in
    omega arith

pub loop-i-preserved : goal.loop-i-preserved
loop-i-preserved c =
    let v = c.loop-i in
    let e = c.line_end-e in
    let n = lines_next v.line c.args.text.now v.i e.result e.ensures.is c.loop-i-test.true in
    let less = n.some in
    let fits = n.fits in
    let ends = simp (length-take, length-drop) at c.line_ends-line.ensures.fits in
    let low = v.invariant.1 in
    let k = c.take_line in
    (fits, omega arith, rw c.line_ends-line.ensures.is (goes_on v.invariant.2 e.result e.ensures.is c.loop-i-test.true _ k.result k.ensures _ c.in-Ok.is k.auto.t))

pub returns : goal.returns
returns c =
    let v = c.loop-i in
    let g = v.invariant.2 in
    let q = going_end g (let h = c.loop-i-test.false in omega arith) in
    let a = c.answer_at_end.ensures.does _ _ g.state g.reads in
    rw q (record { says = a.0; kind = a.1; table = λ z. rw (← g.long) (table-end _ _ _ _ g.state g.good g.reads) })

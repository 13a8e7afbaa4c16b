-- `table_pieces::carry_in` meets its contract: what is put in at the parent's row makes the table of the moved tree.
use mathlib.Core.Path.{sym, ◌∙◌}
use native.Mathlib.Omega.{arith}
use borrow.Author.Rules.{rules}
use Rattle.table_follow.proofs.Follow.{inside-at}
use Rattle.table_moved.proofs.Due.{carried-out, no-parent}
use Rattle.table_moved.proofs.Lookup.{slice-words}
use Rattle.table_moved.proofs.Carry.{keys-exact, span-inside, parent-there, parent-gone, inputs-ready, inputs-moved}
use Rattle.table_pieces.proofs.carry_in.Goals as goal

pub parent_row-requires : goal.parent_row-requires
parent_row-requires c =
    let a = c.args in
    keys-exact a.profile a.target.now a.keys.now a.source.now a.span a.names a.depth c.requires

pub offset_bounds-source-from : goal.offset_bounds-source-from
offset_bounds-source-from c =
    let a = c.args in
    let h = span-inside a.profile a.target.now a.keys.now a.source.now a.span a.names a.depth c.requires in
    let f = c.requires.spanned.first in
    search rules

pub slice_bounds-put_in-end : goal.slice_bounds-put_in-end
slice_bounds-put_in-end c =
    let a = c.args in
    span-inside a.profile a.target.now a.keys.now a.source.now a.span a.names a.depth c.requires

pub put_in-requires : goal.put_in-requires
put_in-requires c =
    let a = c.args in
    inputs-ready a.profile a.target.now a.keys.now a.source.now a.span a.names a.depth c.requires (slice-words _ c.type_inv.target) (slice-words _ c.type_inv.source) (omega (arith, c.well_formed)) c.in-Some.f
    (sym c.parent_row.ensures.answer ∙ c.in-Some.is) (inside-at _ _ _ c.in-Some.is c.parent_row.ensures.inside)

pub returns : goal.returns
returns c =
    let a = c.args in
    let e = sym c.parent_row.ensures.answer ∙ c.in-Some.is in
    let m = inputs-moved a.profile a.target.now a.keys.now a.source.now a.span a.names a.depth c.requires (slice-words _ c.type_inv.target) (slice-words _ c.type_inv.source) (omega (arith, c.well_formed)) c.in-Some.f
    e (inside-at _ _ _ c.in-Some.is c.parent_row.ensures.inside) in
    carried-out a.profile a.target.now a.source.now a.names a.depth a.res.now _ _ _ (parent-there a.profile a.target.now a.keys.now a.source.now a.span a.names a.depth c.requires _ e) m c.put_in.ensures

pub returns-in_default : goal.returns-in_default
returns-in_default c =
    let a = c.args in
    no-parent a.profile a.target.now a.source.now a.names a.depth a.res.now
    (parent-gone a.profile a.target.now a.keys.now a.source.now a.span a.names a.depth c.requires (sym c.parent_row.ensures.answer ∙ c.in_default.is))

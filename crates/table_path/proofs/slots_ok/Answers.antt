-- `table_path::slots_ok` meets its contract: no slot before slot i is bad.
use mathlib.Core.Path.{sym, ◌∙◌}
use native.Mathlib.Nat.{sub-zero}
use borrow.Author.Rules.{rules}
use Rattle.table_moved.proofs.Slots.{slots_end, slots_next, slots-bad}
use Rattle.table_path.proofs.slots_ok.Goals as goal

pub loop-i-init : goal.loop-i-init
loop-i-init c = rw sub-zero

pub loop-i-preserved : goal.loop-i-preserved
loop-i-preserved c =
    let a = c.args in
    c.loop-i.invariant ∙ slots_next a.names a.depth c.loop-i.i (search rules) (sym c.slot_ok.ensures ∙ c.if-not-slot_ok.false)

pub returns-then-not-slot_ok : goal.returns-then-not-slot_ok
returns-then-not-slot_ok c =
    let a = c.args in
    sym (c.loop-i.invariant ∙ slots-bad a.names a.depth c.loop-i.i (search rules) (sym c.slot_ok.ensures ∙ c.if-not-slot_ok.true))

pub returns : goal.returns
returns c =
    let a = c.args in
    sym (c.loop-i.invariant ∙ slots_end a.names a.depth c.loop-i.i (search rules))

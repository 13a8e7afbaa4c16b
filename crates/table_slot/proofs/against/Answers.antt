-- `against` meets its contract: a row by its depth, an entry by its name.
use mathlib.Core.Path.{◌≡◌, sym, ap}
use native.Mathlib.Omega.{arith}
use Prim.Native.Nat.{suc, ◌<◌}
use Rattle.tree.specs.Key.{key}
use Rattle.table_row.specs.Table.{row_at, depth}
use Rattle.table_row.specs.Order.{ordered}
use Rattle.table_row.specs.Keyed.{keyed_row}
use Rattle.table_row.proofs.Table.{depth-at}
use Rattle.table_slot.proofs.Search.{row-has-key, against-over, against-entry, against-deep}
use Rattle.table_slot.proofs.against.Goals as goal

pub returns-then-e-d : goal.returns-then-e-d
returns-then-e-d c =
    let a = c.args in
    let k = row-has-key a.profile a.t.now a.i c.requires in
    sym (ap ordered (against-over a.d (key a.profile a.name) (keyed_row a.profile (row_at a.t.now a.i)) (rw (k.depth_is, depth-at) c.if-e-d.true)))

pub returns-then-e-d-eq1 : goal.returns-then-e-d-eq1
returns-then-e-d-eq1 c =
    let a = c.args in
    let r = keyed_row a.profile (row_at a.t.now a.i) in
    let k = row-has-key a.profile a.t.now a.i c.requires in
    let e : depth r ≡ suc a.d = rw (k.depth_is, depth-at) (let z = c.if-e-d-eq1.true in omega arith) in
    rw (against-entry a.d (key a.profile a.name) r e, k.name-is, ← c.name.ensures.0) c.compare_keys.ensures

pub returns : goal.returns
returns c =
    let a = c.args in
    let r = keyed_row a.profile (row_at a.t.now a.i) in
    let k = row-has-key a.profile a.t.now a.i c.requires in
    let g : a.d < depth r = rw (k.depth_is, depth-at) (let z = c.if-e-d.false in omega arith) in
    sym (ap ordered (against-deep a.d (key a.profile a.name) r g (rw (k.depth_is, depth-at) (λ e. c.if-e-d-eq1.false (omega arith)))))

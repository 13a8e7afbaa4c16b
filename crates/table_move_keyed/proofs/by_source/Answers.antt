-- `table_move_keyed::by_source` meets its contract: the source is looked at by its keys.
use mathlib.Core.Path.{ap}
use native.Mathlib.Omega.{arith}
use lib.ListN.{length, length-replicate}
use Prim.Native.Nat.{ℕ}
use Rattle.tree.specs.declared.Profile.TheVariants.{Folded}
use Rattle.table_row.proofs.Keyed.{length-keyed}
use Rattle.table_rules.proofs.Passed.{passed-whole, passed-some}
use Rattle.table_move_keyed.proofs.Made.{keys-are}
use Rattle.table_move_keyed.proofs.by_source.Goals as goal

pub key_table-requires : goal.key_table-requires
key_table-requires g c =
    let r = length-replicate {A = ℕ} g.row.ROOM 0 in
    (passed-whole Folded _ c.requires.keyed.source-passes, omega (arith, r, c.requires.room))

pub span_at-span-requires : goal.span_at-span-requires
span_at-span-requires g c =
    let P = c.requires.keyed.source-passes in
    let w = c.args.source.now in
    let e = keys-are w _ _ P c.key_table.ensures in
    omega (arith, ap length e, length-keyed Folded w (passed-whole Folded w P), passed-some Folded w P)

pub carry_in-requires : goal.carry_in-requires
carry_in-requires g c =
    let k = c.requires.keyed in
    record {
      target-passes = k.target-passes;
      source-passes = k.source-passes;
      keyed-target = k.keyed-target;
      spanned = rw (keys-are c.args.source.now _ _ k.source-passes c.key_table.ensures) at c.span_at-span.ensures;
      named = k.named;
      low = k.low;
      high = k.high;
    }

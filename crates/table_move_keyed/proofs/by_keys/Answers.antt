-- `table_move_keyed::by_keys` meets its contract: the target's keys and the path's are made.
use native.Mathlib.Omega.{arith}
use lib.ListN.{length-replicate}
use Prim.Native.Nat.{ℕ}
use Rattle.tree.specs.declared.Profile.TheVariants.{Folded}
use Rattle.table_rules.proofs.Passed.{passed-whole}
use Rattle.table_moved.proofs.Carry.{by-keys, folded-carried}
use Rattle.table_move_keyed.proofs.Made.{keys-are}
use Rattle.table_move_keyed.proofs.by_keys.Goals as goal

pub key_table-requires : goal.key_table-requires
key_table-requires g c =
    let r = length-replicate {A = ℕ} g.row.ROOM 0 in
    (passed-whole Folded _ c.requires.passes.0, omega (arith, r, c.requires.room))

pub carry_keyed-requires : goal.carry_keyed-requires
carry_keyed-requires g c =
    let h = c.requires.passes in
    by-keys c.args.target.now _ c.args.source.now _ _ c.args.depth h c.key_names.ensures (keys-are c.args.target.now _ _ h.0 c.key_table.ensures)

pub returns : goal.returns
returns g c = folded-carried c.args.target.now c.args.source.now c.args.names _ c.args.depth _ _ _ c.key_names.ensures c.carry_keyed.ensures

-- `settle_keyed` meets its contract: each table's keys fill their part.
use mathlib.Core.Path.{◌≡◌, refl, ◌∙◌}
use mathlib.Core.List.{List, append-nil}
use native.Mathlib.Omega.{arith}
use lib.ListN.{length, drop_of_length-le}
use Prim.Native.Nat.{ℕ, ◌%◌}
use Rattle.tree.specs.declared.Profile.TheVariants.{Folded}
use Rattle.table_row.specs.Buffer.{over}
use Rattle.table_row.specs.Keyed.{keyed}
use Rattle.table_row.proofs.Keyed.{length-keyed}
use Rattle.plan_cursor.specs.Three.{Three}
use Rattle.plan.specs.Settle.{settled}
use Rattle.plan_settle.proofs.settle_keyed.Goals as goal

keys-are : (w b e : List ℕ) → length w % 20 ≡ 0 → length b ≡ length w → e ≡ over b (keyed Folded w) → e ≡ keyed Folded w
unfolding over
keys-are w b e W L h = h ∙ rw (drop_of_length-le b {i = length (keyed Folded w)} (omega (arith, length-keyed Folded w W)), append-nil)

-- the plan of the three parts is that of the tables' keys
settled-keys : (o l r a b c x y z : List ℕ) → Three o l r → length a ≡ length o → length b ≡ length l → length c ≡ length r
    → x ≡ over a (keyed Folded o) → y ≡ over b (keyed Folded l) → z ≡ over c (keyed Folded r)
    → settled x y z ≡ settled (keyed Folded o) (keyed Folded l) (keyed Folded r)
settled-keys o l r a b c x y z T u v w i j k = rw (keys-are o a x T.o-whole u i, keys-are l b y T.l-whole v j, keys-are r c z T.r-whole w k) refl

pub settle-requires : goal.settle-requires
settle-requires g c =
    let t = c.args.t in
    rw (settled-keys t.o.now t.l.now t.r.now _ _ _ _ _ _ t.three c.split_at_mut-o.ensures.front_len c.split_at_mut-l.ensures.front_len c.split_at_mut-r.ensures.front_len c.key_table.ensures c.key_table-2.ensures c.key_table-3.ensures) c.requires.fits

pub returns : goal.returns
returns g c =
    let t = c.args.t in
    rw (settled-keys t.o.now t.l.now t.r.now _ _ _ _ _ _ t.three c.split_at_mut-o.ensures.front_len c.split_at_mut-l.ensures.front_len c.split_at_mut-r.ensures.front_len c.key_table.ensures c.key_table-2.ensures c.key_table-3.ensures) at c.settle.ensures

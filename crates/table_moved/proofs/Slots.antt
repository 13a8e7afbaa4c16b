-- The name slots of a path, from slot i on.
use mathlib.Core.Path.{◌≡◌, refl}
use mathlib.Core.List.{List, []}
use mathlib.Core.Bool.{Bool, true, false, ◌&&◌}
use native.Mathlib.Omega.{arith}
use native.Mathlib.Numerals.{add-one}
use lib.Dec.{ltb}
use lib.ListN.{length, drop, get_or, drop_of_length-le}
use lib.Seq.{drop-cons}
use Prim.Native.Nat.{ℕ, suc, ◌+◌, ◌-◌, ◌≤◌, ◌<◌}
use borrow.Author.Tests.{ltb-true, ltb-false}
use Rattle.tree.specs.Name.{Name}
use Rattle.table_moved.specs.Path.{slots}
use Rattle.table_moved.specs.Pieces.{slot_rule}

module _ (ms : List Name) (n i : ℕ) where
  pub slots_end : length ms ≤ i → slots (n - i) (drop i ms) ≡ true
  unfolding slots
  slots_end h = rw (drop_of_length-le ms h)

  -- the slot, and those after it
  slots-cons : i < length ms → slots (n - i) (drop i ms) ≡ (slot_rule (ltb i n) (get_or ms i []) && slots (n - (i + 1)) (drop (i + 1) ms))
  unfolding slots
  slots-cons h = go (ltb i n) refl
    where
      go : (b : Bool) → ltb i n ≡ b → slots (n - i) (drop i ms) ≡ (slot_rule b (get_or ms i []) && slots (n - (i + 1)) (drop (i + 1) ms))
      go true e =
          let l = ltb-true i n e in
          let d : n - i ≡ suc (n - (i + 1)) = omega arith in
          rw (d, drop-cons ms i [] h, add-one i)
      go false e =
          let l = ltb-false i n e in
          let d : n - i ≡ 0 = omega arith in
          let z : n - (i + 1) ≡ 0 = omega arith in
          rw (d, z, drop-cons ms i [] h, add-one i)

  pub slots_next : i < length ms → slot_rule (ltb i n) (get_or ms i []) ≡ true → slots (n - i) (drop i ms) ≡ slots (n - (i + 1)) (drop (i + 1) ms)
  slots_next h e = rw (slots-cons h, e)

  pub slots-bad : i < length ms → slot_rule (ltb i n) (get_or ms i []) ≡ false → slots (n - i) (drop i ms) ≡ false
  slots-bad h e = rw (slots-cons h, e)

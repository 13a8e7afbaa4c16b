-- Runs and searches at the rows from a row on, in the words that the code reads, and the part that it lends.
use mathlib.Core.Path.{◌≡◌}
use mathlib.Core.List.{List, []}
use mathlib.Core.Bool.{Bool, true, false}
use native.Mathlib.Omega.{arith}
use native.Mathlib.Numerals.{add-one}
use lib.ListN.{length, take, drop, get_or, drop_of_length-le, length-take, length-drop}
use lib.Seq.{take-nil}
use Prim.Native.Nat.{ℕ, suc, ◌+◌, ◌*◌, ◌-◌, ◌/◌, ◌%◌, ◌≤◌, ◌<◌}
use borrow.Author.Tests.{lt-ltb, le-ltb, eq-eqb, ne_eqb}
use Rattle.tree.specs.Name.{Name}
use Rattle.table_row.specs.Table.{row_at, rows, name}
use Rattle.table_row.proofs.Table.{rows-cons, rows-nil, depth-at}
use Rattle.table_find.specs.Subtree.{run, subtree}
use Rattle.table_find.specs.Entry.{Stop.entry, Stop.over, seek}

module _ (w : List ℕ) (d e : ℕ) where
  pub run_end : length w / 20 ≤ e → run d (drop e (rows w)) ≡ 0
  unfolding run
  run_end h = rw (rows-nil w e h)

  pub run-stop : e < length w / 20 → get_or w (20 * e) 0 ≤ d → run d (drop e (rows w)) ≡ 0
  unfolding run
  run-stop h g = rw (rows-cons w e h, depth-at, le-ltb _ _ g)

  pub run-next : e < length w / 20 → d < get_or w (20 * e) 0 → run d (drop e (rows w)) ≡ suc (run d (drop (e + 1) (rows w)))
  unfolding run
  run-next h g = rw (rows-cons w e h, depth-at, lt-ltb _ _ g, add-one)

module _ (p : Name → Bool) (w : List ℕ) (d i : ℕ) where
  pub seek-end : length w / 20 ≤ i → seek p d i (drop i (rows w)) ≡ over i
  unfolding seek
  seek-end h = rw (rows-nil w i h)

  module _ (h : i < length w / 20) where
    pub seek_stop : get_or w (20 * i) 0 ≤ d → seek p d i (drop i (rows w)) ≡ over i
    unfolding seek
    seek_stop g = rw (rows-cons w i h, depth-at, le-ltb _ _ g)

    pub seek-deep : d < get_or w (20 * i) 0 → (get_or w (20 * i) 0 - d ≡ 1 → ⊥) → seek p d i (drop i (rows w)) ≡ seek p d (i + 1) (drop (i + 1) (rows w))
    unfolding seek
    seek-deep g o =
        let q : get_or w (20 * i) 0 ≡ suc d → ⊥ = λ z. o (omega arith) in
        rw (rows-cons w i h, depth-at, lt-ltb _ _ g, ne_eqb _ _ q, add-one)

    module _ (o : get_or w (20 * i) 0 - d ≡ 1) where
      pub seek-other : p (name (row_at w i)) ≡ false → seek p d i (drop i (rows w)) ≡ seek p d (i + 1) (drop (i + 1) (rows w))
      unfolding seek
      seek-other s =
          let g : d < get_or w (20 * i) 0 = omega arith in
          let q : get_or w (20 * i) 0 ≡ suc d = omega arith in
          rw (rows-cons w i h, depth-at, lt-ltb _ _ g, eq-eqb _ _ q, s, add-one)

      pub seek-here : p (name (row_at w i)) ≡ true → seek p d i (drop i (rows w)) ≡ entry i
      unfolding seek
      seek-here s =
          let g : d < get_or w (20 * i) 0 = omega arith in
          let q : get_or w (20 * i) 0 ≡ suc d = omega arith in
          rw (rows-cons w i h, depth-at, lt-ltb _ _ g, eq-eqb _ _ q, s)

-- the rows from row i up to row e, as the part that code lends
pub part_length : (w : List ℕ) (i e : ℕ) → i ≤ e → 20 * e ≤ length w → length (take (20 * e - 20 * i) (drop (20 * i) w)) ≡ 20 * e - 20 * i
part_length w i e h k = simp (length-take, length-drop) (omega arith)

pub subtree-none : (w : List ℕ) (i : ℕ) → length w % 20 ≡ 0 → length w / 20 ≤ i → subtree w i ≡ []
subtree-none w i m h = rw (drop_of_length-le w {i = 20 * i} (omega arith)) (simp take-nil)

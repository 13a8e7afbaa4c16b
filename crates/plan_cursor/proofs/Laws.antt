-- The search for the next entry from row i on, in the words that the code reads; and heads that have one name.
use mathlib.Core.Path.{◌≡◌, ◌∙◌}
use mathlib.Core.List.{List}
use mathlib.Core.Bool.{true}
use native.Mathlib.Omega.{arith}
use native.Mathlib.Numerals.{add-one}
use lib.ListN.{length, drop, get_or}
use Prim.Native.Nat.{ℕ, ◌+◌, ◌*◌, ◌/◌, ◌≤◌, ◌<◌}
use borrow.Author.Tests.{lt-ltb, le-ltb, eq-eqb, ne_eqb}
use Rattle.tree.specs.Same.{same_words}
use Rattle.tree.proofs.Order.{cmp-refl}
use Rattle.tree.proofs.Same.{same_words-eq}
use Rattle.table_row.specs.Table.{rows, row_at, name}
use Rattle.std.specs.declared.cmp.Ordering.TheVariants.{Equal}
use Rattle.table_row.proofs.Table.{rows-cons, rows-nil, depth-at}
use Rattle.plan_cursor.specs.Cursor.{none, seek, order_at, least}
use Rattle.plan_cursor.specs.declared.Rows.{Rows}

module _ (w : List ℕ) (d i : ℕ) where
  pub seek-end : length w / 20 ≤ i → seek d i (drop i (rows w)) ≡ none
  unfolding seek
  seek-end h = rw (rows-nil w i h)

  pub seek-here : i < length w / 20 → get_or w (20 * i) 0 ≡ d → seek d i (drop i (rows w)) ≡ i
  unfolding seek
  seek-here h e = rw (rows-cons w i h, depth-at, eq-eqb _ _ e)

  pub seek_stop : i < length w / 20 → get_or w (20 * i) 0 < d → seek d i (drop i (rows w)) ≡ none
  unfolding seek
  seek_stop h e =
      let n : get_or w (20 * i) 0 ≡ d → ⊥ = omega arith in
      rw (rows-cons w i h, depth-at, ne_eqb _ _ n, lt-ltb _ _ e)

  pub seek-deep : i < length w / 20 → d < get_or w (20 * i) 0 → seek d i (drop i (rows w)) ≡ seek d (i + 1) (drop (i + 1) (rows w))
  unfolding seek
  seek-deep h e =
      let g : d ≤ get_or w (20 * i) 0 = omega arith in
      let n : get_or w (20 * i) 0 ≡ d → ⊥ = omega arith in
      rw (rows-cons w i h, depth-at, ne_eqb _ _ n, le-ltb _ _ g, add-one)

order_same : (w : List ℕ) (a : ℕ) (v : List ℕ) (b : ℕ) → a < length w / 20 → b < length v / 20
    → name (row_at w a) ≡ name (row_at v b) → order_at w a v b ≡ Equal
unfolding order_at
order_same w a v b i j e = rw (lt-ltb _ _ i, lt-ltb _ _ j, e, cmp-refl)

-- three rows with one name are all of the least name
pub least-same : (o l r : List ℕ) (h : Rows) → h.o < length o / 20 → h.l < length l / 20 → h.r < length r / 20
    → same_words (name (row_at o h.o)) (name (row_at l h.l)) ≡ true
    → same_words (name (row_at l h.l)) (name (row_at r h.r)) ≡ true
    → least o l r h ≡ h
least-same o l r h a b c s t =
    let x = same_words-eq (name (row_at o h.o)) (name (row_at l h.l)) s in
    let y = same_words-eq (name (row_at l h.l)) (name (row_at r h.r)) t in
    rw (order_same o h.o l h.l a b x, order_same l h.l r h.r b c y, order_same o h.o r h.r a c (x ∙ y))

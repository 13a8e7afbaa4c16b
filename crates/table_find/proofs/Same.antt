-- Two subtrees compared row by row: one row more that is the same, and each way in which they can be told to be the same or not.
use mathlib.Core.Path.{◌≡◌, refl, sym, ap, ◌∙◌}
use mathlib.Core.List.{List, [], ◌++◌}
use mathlib.Core.Bool.{Bool, true, false, false≢true}
use native.Mathlib.Omega.{arith}
use lib.Dec.{leb}
use lib.ListN.{length, take, drop, length-take, length-drop}
use lib.Seq.{take-take, take-add, drop-drop}
use Prim.Native.Nat.{ℕ, ◌+◌, ◌*◌, ◌-◌, ◌/◌, ◌%◌, ◌≤◌, ◌<◌}
use borrow.Author.Tests.{leb-true, leb-false}
use Rattle.tree.specs.Same.{same_words}
use Rattle.tree.proofs.Same.{same_words-refl, same_words-eq, same_words-false}
use Rattle.table_row.specs.Table.{row_at}
use Rattle.table_row.proofs.Table.{drop-take}
use Rattle.table_row.proofs.Compare.{alike-lengths}
use Rattle.table_find.specs.Subtree.{end_of, subtree}
use Rattle.table_find.proofs.Walk.{part_length, subtree-none}

-- n rows from row i on
abbrev pub block : List ℕ → ℕ → ℕ → List ℕ
block w i n = take (20 * n) (drop (20 * i) w)

module _ (w : List ℕ) (i : ℕ) where
  row_on : (k : ℕ) → row_at (drop (20 * i) w) k ≡ row_at w (i + k)
  row_on k = let e : 20 * i + 20 * k ≡ 20 * (i + k) = omega arith in rw (drop-drop, e)

  block_more : (k : ℕ) → block w i (k + 1) ≡ block w i k ++ row_at w (i + k)
  block_more k = let e : 20 * (k + 1) ≡ 20 * k + 20 = omega arith in rw (e, take-add (20 * k) 20, row_on k)

  subtree-block : subtree w i ≡ block w i (end_of w i - i)
  subtree-block = let e : 20 * end_of w i - 20 * i ≡ 20 * (end_of w i - i) = omega arith in rw e

  subtree-some : 20 * (i + 1) ≤ length w → 20 ≤ length (subtree w i)
  subtree-some h = simp (length-take, length-drop) (omega arith)

  -- row k of the subtree
  subtree-row : (k : ℕ) → i + k < end_of w i → row_at (subtree w i) k ≡ row_at w (i + k)
  subtree-row k h =
      let n = 20 * end_of w i - 20 * (i + k) in
      let e : 20 * end_of w i - 20 * i ≡ 20 * k + n = omega arith in
      let g : 20 ≤ n = omega arith in
      rw (e, drop-take (20 * k) n, take-take 20 n _ g, row_on k)

module _ (w : List ℕ) (i : ℕ) (v : List ℕ) (j : ℕ) where
  -- one row more that is the same
  pub block-next : (k : ℕ) → block w i k ≡ block v j k → same_words (row_at w (i + k)) (row_at v (j + k)) ≡ true → block w i (k + 1) ≡ block v j (k + 1)
  block-next k e s = let r = same_words-eq _ _ s in block_more w i k ∙ rw (e, r) (sym (block_more v j k))

  -- a row that differs
  pub subtrees-differ : (k : ℕ) → i + k < end_of w i → j + k < end_of v j → same_words (row_at w (i + k)) (row_at v (j + k)) ≡ false → false ≡ same_words (subtree w i) (subtree v j)
  subtrees-differ k h g s =
      sym (same_words-false _ _ (λ e.
      let r : row_at w (i + k) ≡ row_at v (j + k) = sym (subtree-row w i k h) ∙ ap (λ (u : List ℕ). row_at u k) e ∙ subtree-row v j k g in
      false≢true (sym s ∙ rw r (same_words-refl _))))

  -- as many rows, and all the same
  pub subtrees-same : (k : ℕ) → k ≡ end_of w i - i → k ≡ end_of v j - j → block w i k ≡ block v j k → true ≡ same_words (subtree w i) (subtree v j)
  subtrees-same k n m e =
      let f : subtree w i ≡ subtree v j = subtree-block w i ∙ rw (← n, ← m) e ∙ sym (subtree-block v j) in
      rw f (sym (same_words-refl _))

  -- not as many rows
  pub subtrees-uneven : 20 * end_of w i ≤ length w → 20 * end_of v j ≤ length v → (end_of w i - i ≡ end_of v j - j → ⊥) → false ≡ same_words (subtree w i) (subtree v j)
  subtrees-uneven h g d =
      alike-lengths _ _ (λ e. d (omega (arith, e, part_length w i (end_of w i) (omega arith) h, part_length v j (end_of v j) (omega arith) g)))

  -- the other is not there
  pub subtrees-one : 20 * (i + 1) ≤ length w → length v % 20 ≡ 0 → length v / 20 ≤ j → false ≡ same_words (subtree w i) (subtree v j)
  subtrees-one h m g = rw (subtree-none v j m g) (alike-lengths _ _ (λ e. omega (arith, e, subtree-some w i h)))

  -- the first is not there
  pub subtrees-none : length w % 20 ≡ 0 → length w / 20 ≤ i → length v % 20 ≡ 0 → leb (length v / 20) j ≡ same_words (subtree w i) (subtree v j)
  subtrees-none m h n = rw (subtree-none w i m h) (go (leb (length v / 20) j) refl)
    where
      go : (b : Bool) → leb (length v / 20) j ≡ b → b ≡ same_words [] (subtree v j)
      go true e = rw (subtree-none v j n (leb-true _ _ e)) (sym (same_words-refl []))
      go false e = let l = leb-false (length v / 20) j e in alike-lengths _ _ (λ z. omega (arith, z, subtree-some v j (omega (arith, l))))

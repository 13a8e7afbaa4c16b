-- The part of a table that an entry's rows are: where it stands, and that its places have 32 bits.
use mathlib.Core.Path.{◌≡◌, refl, sym}
use mathlib.Core.List.{List, [], ◌∷◌}
use mathlib.Core.Bool.{Bool, true, false, cond, ◌&&◌}
use native.Mathlib.Omega.{arith}
use lib.Dec.{eqb}
use lib.ListN.{length, take, drop, get_or, length-take, length-drop}
use Prim.Native.Nat.{ℕ, zero, suc, ◌*◌, ◌-◌, ◌≤◌}
use borrow.Author.Tests.{eqb-true, eqb-false}
use Rattle.tree.specs.declared.Profile.{Profile}
use Rattle.table_rules.specs.Keyed.{Passes}
use Rattle.table_rules.proofs.Passed.{passed_words}
use Rattle.table_find.specs.Subtree.{subtree, end_of}
use Rattle.table_carry.specs.Carried.{passes, carried_rows}
use Rattle.table_carry.proofs.Checks.{both-pass}
use Rattle.kantifero_calls.specs.Carried.{part_words, Within, table_on}

take_own : (k : ℕ) (w : List ℕ) → take (length (take k w)) w ≡ take k w
take_own zero w = refl
take_own (suc k) [] = refl
take_own (suc k) (x ∷ w) = rw (take_own k w)

none : (w : List ℕ) → length w ≡ 0 → w ≡ []
none [] e = refl
none (x ∷ w) e = absurd (omega arith)

-- a row's words are at most the table's, and where there are some the row is in it
subtree-most : (w : List ℕ) (i : ℕ) → length (subtree w i) ≤ length w - 20 * i
subtree-most w i = simp (length-take, length-drop) (omega arith)

module _ (p : Profile) (left right : List ℕ) (kind left_row right_row : ℕ) where
  abbrev rows : Bool → Bool → Bool → List ℕ
  rows b x y = cond b (cond x (subtree right right_row) (cond y (subtree left left_row) [])) []

  pub carried-within : Within kind left_row right_row (length (carried_rows p left right kind left_row right_row))
  unfolding carried_rows
  carried-within = go (passes p left && passes p right) (both-pass p left right) (eqb kind 1) refl (eqb kind 2)
    where
      go : (b : Bool) → (b ≡ true → Passes p left × Passes p right) → (x : Bool) → eqb kind 1 ≡ x → (y : Bool)
          → Within kind left_row right_row (length (rows b x y))
      go true f true e y =
          let n = subtree-most right right_row in let m = passed_words p right (f refl).1 in
          record { words = omega arith; right = λ h k. omega arith; left = λ h k. absurd (k (eqb-true kind 1 e)) }
      go true f false e true =
          let n = subtree-most left left_row in let m = passed_words p left (f refl).0 in
          record { words = omega arith; right = λ h k. absurd (eqb-false kind 1 e k); left = λ h k. omega arith }
      go true f false e false = record { words = omega arith; right = λ h k. absurd (omega arith); left = λ h k. absurd (omega arith) }
      go false f x e y = record { words = omega arith; right = λ h k. absurd (omega arith); left = λ h k. absurd (omega arith) }

  -- what eight words tell of
  abbrev told : List ℕ → List ℕ
  told a = take (get_or a 2 0) (drop (get_or a 1 0) (table_on (get_or a 0 0) left right))

  -- words that are some of the source's, where there are any
  part-some : (w : List ℕ) (z : Bool) → eqb (length w) 0 ≡ z → (x : Bool) → eqb kind 1 ≡ x → take (length w) (drop (20 * cond x right_row left_row) (cond x right left)) ≡ w
      → told (part_words kind left_row right_row (length w)) ≡ w
  unfolding part_words
  part-some w true q x e h = rw q (sym (none w (eqb-true (length w) 0 q)))
  part-some w false q true e h = rw (q, e) h
  part-some w false q false e h = rw (q, e) h

  pub carried-part : told (part_words kind left_row right_row (length (carried_rows p left right kind left_row right_row))) ≡ carried_rows p left right kind left_row right_row
  unfolding carried_rows
  carried-part = go (passes p left && passes p right) (eqb kind 1) refl (eqb kind 2)
    where
      go : (b x : Bool) → eqb kind 1 ≡ x → (y : Bool) → told (part_words kind left_row right_row (length (rows b x y))) ≡ rows b x y
      go true true e y = part-some (subtree right right_row) (eqb (length (subtree right right_row)) 0) refl true e (take_own (20 * end_of right right_row - 20 * right_row) (drop (20 * right_row) right))
      go true false e true = part-some (subtree left left_row) (eqb (length (subtree left left_row)) 0) refl false e (take_own (20 * end_of left left_row - 20 * left_row) (drop (20 * left_row) left))
      go true false e false = part-some [] true refl false e refl
      go false x e y = part-some [] true refl x e refl

-- What one turn of the settle cycle adds to the plan.
use mathlib.Core.Path.{◌≡◌, refl, ap, ◌∙◌}
use mathlib.Core.List.{List, [], ◌∷◌, ◌++◌}
use mathlib.Core.Bool.{true, false}
use mathlib.Core.Logic.{◌⊎◌, ⊎_elim}
use native.Mathlib.Nat.{not-suc-le-zero}
use native.Mathlib.Numerals.{sub-one}
use lib.ListN.{length}
use Prim.Native.Nat.{ℕ, zero, suc, ◌+◌, ◌-◌, ◌≤◌, ◌<◌}
use Rattle.table_row.specs.Buffer.{written}
use Rattle.plan_cursor.specs.Cursor.{least, decision}
use Rattle.plan_cursor.specs.declared.Rows.{Rows}
use Rattle.plan_cursor.specs.declared.Decision.{Decision}
use Rattle.plan_cursor.specs.declared.Decision.TheVariants.{Agreed, LeftGets, RightGets, Clash}
use Rattle.plan.specs.Settle.{four, decision_words, ended, past, merge, flatten, firsts, both, entry, folder}
use Rattle.plan.specs.Writes.{Writes}
use Rattle.plan.proofs.Ended.{least-ended}
use Rattle.plan.proofs.Writes.{then, onward}

pub length-words : (x : Decision) → length (decision_words x) ≡ 4
unfolding decision_words
length-words (Agreed h) = refl
length-words (LeftGets h) = refl
length-words (RightGets h) = refl
length-words (Clash h) = refl

merge-next : (o l r : List ℕ) (d m : ℕ) (h : Rows) → 0 < m → ended o l r h ≡ false
    → merge o l r d m h ≡ least o l r h ∷ merge o l r d (m - 1) (past o l r d h (least o l r h))
unfolding merge
merge-next o l r d zero h p e = absurd (not-suc-le-zero p)
merge-next o l r d (suc m) h p e = rw (least-ended, e, sub-one)

module _ (o l r : List ℕ) where
  pub entry-folder : (k d : ℕ) (h : Rows) → 0 < k → both l r h ≡ true
      → entry o l r k d h ≡ four 0 h ++ folder o l r (k - 1) (d + 1) (firsts o l r (d + 1) h)
  unfolding entry
  entry-folder zero d h p e = absurd (not-suc-le-zero p)
  entry-folder (suc k) d h p e = rw (e, sub-one)

  entry-last : (k d : ℕ) (h : Rows) → k ≤ 0 → entry o l r k d h ≡ decision_words (decision o l r h)
  unfolding entry
  entry-last zero d h p = refl
  entry-last (suc k) d h p = absurd (not-suc-le-zero p)

  entry-single : (k d : ℕ) (h : Rows) → both l r h ≡ false → entry o l r k d h ≡ decision_words (decision o l r h)
  unfolding entry
  entry-single zero d h e = refl
  entry-single (suc k) d h e = rw e

  -- an entry that is no folder on both sides, or has no depth left
  pub entry-decided : {A B : Type 0} (k d : ℕ) (h : Rows) → (A → both l r h ≡ false) → (B → k ≤ 0) → A ⊎ B
      → entry o l r k d h ≡ decision_words (decision o l r h)
  entry-decided k d h f g = ⊎_elim (λ x. entry-single k d h (f x)) (λ x. entry-last k d h (g x))

module _ (o l r : List ℕ) (k d : ℕ) where
  -- the words of m entries at most from the heads g on
  abbrev pub rest : ℕ → Rows → List ℕ
  rest m g = flatten (entry o l r k d) (merge o l r d m g)

  pub rest-zero : (m : ℕ) (g : Rows) → m ≤ 0 → rest m g ≡ []
  unfolding merge flatten
  rest-zero zero g p = refl
  rest-zero (suc m) g p = absurd (not-suc-le-zero p)

  pub rest_ended : (m : ℕ) (g : Rows) → ended o l r g ≡ true → rest m g ≡ []
  unfolding merge flatten
  rest_ended zero g n = refl
  rest_ended (suc m) g n = rw (least-ended, n)

  -- where there is an entry left
  pub rest-next : (m : ℕ) (g e : Rows) → 0 < m → ended o l r g ≡ false → e ≡ least o l r g
      → rest m g ≡ entry o l r k d e ++ rest (m - 1) (past o l r d g e)
  unfolding flatten
  rest-next m g e p n i = ap (flatten (entry o l r k d)) (merge-next o l r d m g p n) ∙ rw i

  -- a turn of the loop: the entry e is written, and the rest is what comes behind it
  pub turn : {plan₀ plan plan' all : List ℕ} {at q q' : ℕ} (m n : ℕ) (g g' e : Rows)
      → 0 < m → n ≡ m - 1 → ended o l r g ≡ false → e ≡ least o l r g → g' ≡ past o l r d g e
      → q ≤ length plan → Writes plan q (entry o l r k d e) plan' q'
      → Writes plan₀ at all (written plan q (rest m g)) (q + length (rest m g))
      → Writes plan₀ at all (written plan' q' (rest n g')) (q' + length (rest n g'))
  turn m n g g' e p s x i j h w v =
      rw (s, j) (onward (rest (m - 1) (past o l r d g e)) h (rest-next m g e p x i) w v)

  -- an entry that is a folder on both sides
  pub down : {plan plan' last : List ℕ} {at q p : ℕ} (h g : Rows) → 0 < k → both l r h ≡ true → g ≡ firsts o l r (d + 1) h
      → at ≤ length plan → Writes plan at (decision_words (Agreed h)) plan' q → Writes plan' q (folder o l r (k - 1) (d + 1) g) last p
      → Writes plan at (entry o l r k d h) last p
  unfolding decision_words
  down h g z b i a w v = rw (entry-folder o l r k d h z b, ← i) (then a w v)

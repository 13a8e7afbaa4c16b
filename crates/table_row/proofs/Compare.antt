-- Comparing word by word, from word k on and from the back.
use mathlib.Core.Path.{◌≡◌, ap, sym, ◌∙◌}
use mathlib.Core.List.{List}
use mathlib.Core.Bool.{true, false}
use native.Mathlib.Omega.{arith}
use native.Mathlib.Numerals.{add-one}
use lib.Dec.{compare_is_eq}
use lib.ListN.{drop_of_length-le, length, drop, get_or}
use lib.Seq.{drop-cons, drop-length}
use Prim.Native.Nat.{Ordering}
use Prim.Native.Nat.{ℕ, suc, ◌+◌, ◌-◌, ◌≤◌, ◌<◌}
use Rattle.tree.specs.Name.{cmp}
use Rattle.tree.specs.Same.{same_words}
use Rattle.tree.proofs.Order.{compare_refl, compare-below, compare-above}
use Rattle.tree.proofs.Same.{same_words-refl, same_words-false}

module _ (a b : List ℕ) (k : ℕ) where
  pub cmp-end : length a ≤ k → length b ≤ k → cmp (drop k a) (drop k b) ≡ Ordering.eq
  unfolding cmp
  cmp-end ha hb = rw (drop_of_length-le a ha, drop_of_length-le b hb)

  pub cmp-less : k < length a → k < length b → get_or a k 0 < get_or b k 0 → cmp (drop k a) (drop k b) ≡ Ordering.lt
  unfolding cmp
  cmp-less ha hb h = rw (drop-cons a k 0 ha, drop-cons b k 0 hb, compare-below _ _ h)

  pub cmp-greater : k < length a → k < length b → get_or b k 0 < get_or a k 0 → cmp (drop k a) (drop k b) ≡ Ordering.gt
  unfolding cmp
  cmp-greater ha hb h = rw (drop-cons a k 0 ha, drop-cons b k 0 hb, compare-above _ _ h)

  pub cmp-next : k < length a → k < length b → get_or a k 0 ≡ get_or b k 0 → cmp (drop k a) (drop k b) ≡ cmp (drop (k + 1) a) (drop (k + 1) b)
  unfolding cmp
  cmp-next ha hb e = rw (drop-cons a k 0 ha, drop-cons b k 0 hb, e, compare_refl, add-one)

  pub same_end : length a ≤ k → length b ≤ k → same_words (drop k a) (drop k b) ≡ true
  unfolding same_words
  same_end ha hb = rw (cmp-end ha hb)

  pub same_next : k < length a → k < length b → get_or a k 0 ≡ get_or b k 0 → same_words (drop k a) (drop k b) ≡ same_words (drop (k + 1) a) (drop (k + 1) b)
  unfolding same_words
  same_next ha hb e = ap compare_is_eq (cmp-next ha hb e)

pub alike-lengths : (a b : List ℕ) → (length a ≡ length b → ⊥) → false ≡ same_words a b
alike-lengths a b h = sym (same_words-false a b (λ e. h (ap length e)))

pub alike-differ : (a b : List ℕ) (k : ℕ) → (get_or a k 0 ≡ get_or b k 0 → ⊥) → false ≡ same_words a b
alike-differ a b k h = sym (same_words-false a b (λ e. h (ap (λ (w : List ℕ). get_or w k 0) e)))

-- a loop that looks for a difference, before place k is looked at: what comes before it is the same
pub record Alike (a b : List ℕ) (k : ℕ) : Type 0 where
  pub within : k ≤ length a
  pub rest : same_words a b ≡ same_words (drop k a) (drop k b)

module _ {a b : List ℕ} {k : ℕ} (s : Alike a b k) where
  pub alike_next : length a ≡ length b → k < length a → get_or a k 0 ≡ get_or b k 0 → Alike a b (k + 1)
  alike_next l h e = record { within = omega arith; rest = s.rest ∙ same_next a b k h (omega arith) e }

  pub alike_end : length a ≡ length b → length a ≤ k → true ≡ same_words a b
  alike_end l h = sym (s.rest ∙ same_end a b k h (omega arith))

-- a loop that looks for a difference from the back, before the place in front of place k is looked at: what begins at k is the same
pub record Back (a b : List ℕ) (k : ℕ) : Type 0 where
  pub within : k ≤ length a
  pub rest : drop k a ≡ drop k b

pub back_start : (a b : List ℕ) → length a ≡ length b → Back a b (length a)
back_start a b l = record { within = omega arith; rest = rw (drop-length a, l, drop-length b) }

module _ {a b : List ℕ} {k : ℕ} (s : Back a b k) where
  pub back-next : length a ≡ length b → 0 < k → get_or a (k - 1) 0 ≡ get_or b (k - 1) 0 → Back a b (k - 1)
  back-next l h e =
      let u = s.within in
      let n : suc (k - 1) ≡ k = omega arith in
      record { within = omega arith; rest = rw (drop-cons a (k - 1) 0 (omega arith), drop-cons b (k - 1) 0 (omega arith), n, e, s.rest) }

  pub back_end : k ≤ 0 → true ≡ same_words a b
  back_end h = let z : k ≡ 0 = omega arith in let e : a ≡ b = (rw z at s).rest in rw e (sym (same_words-refl b))

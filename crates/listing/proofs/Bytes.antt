-- The class of a byte and the value of a digit, range by range.
use mathlib.Core.Bool.{cond, false, true}
use mathlib.Core.List.{[], ◌∷◌}
use mathlib.Core.Logic.{inl, inr}
use mathlib.Core.Path.{◌≡◌}
use native.Mathlib.Omega.{arith}
use Prim.Native.Nat.{ℕ, ◌-◌, ◌<◌, ◌≤◌}
use borrow.Author.Tests.{le-leb, lt-leb, ne_eqb}
use types.Run.{OneOf}
use Rattle.listing.specs.Bytes.{Digit, class_of, digit_value, within}
use Rattle.listing.specs.declared.Class.TheVariants.{Plain, Refused}

pub in-range : (low high b : ℕ) → low ≤ b → b ≤ high → within low high b ≡ true
in-range low high b p q = rw (le-leb low b p, le-leb b high q)

pub under : (low high b : ℕ) → b < low → within low high b ≡ false
under low high b p = rw (lt-leb low b p)

pub over : (low high b : ℕ) → low ≤ b → high < b → within low high b ≡ false
over low high b p q = rw (le-leb low b p, lt-leb b high q)

module _ {b : ℕ} where
  pub digit-decimal : 48 ≤ b → b ≤ 57 → Digit b (b - 48)
  unfolding digit_value
  digit-decimal p q = record { value = rw (in-range 48 57 b p q); small = omega arith }

  pub digit-upper : 65 ≤ b → b ≤ 70 → Digit b (b - 55)
  unfolding digit_value
  digit-upper p q = record { value = rw (over 48 57 b (omega arith) (omega arith), in-range 65 70 b p q); small = omega arith }

  pub digit-lower : 97 ≤ b → b ≤ 102 → Digit b (b - 87)
  unfolding digit_value
  digit-lower p q =
      record { value = rw (over 48 57 b (omega arith) (omega arith), over 65 70 b (omega arith) (omega arith), in-range 97 102 b p q); small = omega arith }

  pub none-under : b < 48 → Digit b 16
  unfolding digit_value
  none-under p =
      record { value = rw (under 48 57 b p, under 65 70 b (omega arith), under 97 102 b (omega arith)); small = omega arith }

  pub none_between : 57 < b → b < 65 → Digit b 16
  unfolding digit_value
  none_between p q =
      record { value = rw (over 48 57 b (omega arith) p, under 65 70 b q, under 97 102 b (omega arith)); small = omega arith }

  pub none_above : 70 < b → b < 97 → Digit b 16
  unfolding digit_value
  none_above p q =
      record { value = rw (over 48 57 b (omega arith) (omega arith), over 65 70 b (omega arith) p, under 97 102 b q); small = omega arith }

  pub none_over : 102 < b → Digit b 16
  unfolding digit_value
  none_over p =
      record { value = rw (over 48 57 b (omega arith) (omega arith), over 65 70 b (omega arith) (omega arith), over 97 102 b (omega arith) p); small = omega arith }

-- what the match on a byte leaves when no single byte fitted
module _ {b : ℕ} (n1 : OneOf (10 ∷ []) b → ⊥) (n2 : OneOf (9 ∷ 32 ∷ []) b → ⊥) (n3 : OneOf (92 ∷ []) b → ⊥) (n4 : OneOf (35 ∷ []) b → ⊥) (n5 : OneOf (42 ∷ 47 ∷ 63 ∷ 91 ∷ []) b → ⊥) where
  pub by-range : class_of b ≡ cond (within 33 126 b) Plain Refused
  unfolding class_of
  by-range =
      simp (
        ne_eqb b 10 n1,
        ne_eqb b 9 (λ e. n2 (inl e)),
        ne_eqb b 32 (λ e. n2 (inr e)),
        ne_eqb b 92 n3,
        ne_eqb b 35 n4,
        ne_eqb b 42 (λ e. n5 (inl e)),
        ne_eqb b 47 (λ e. n5 (inr (inl e))),
        ne_eqb b 63 (λ e. n5 (inr (inr (inl e)))),
        ne_eqb b 91 (λ e. n5 (inr (inr (inr e)))),
      )

  pub plain : 32 ≤ b → b < 127 → Plain ≡ class_of b
  plain lo hi = let not-32 : b ≡ 32 → ⊥ = λ e. n2 (inr e) in rw (by-range, in-range 33 126 b (omega arith) (omega arith))

  pub low : b < 32 → Refused ≡ class_of b
  low lo = rw (by-range, under 33 126 b (omega arith))

  pub high : 127 ≤ b → Refused ≡ class_of b
  high lo = rw (by-range, over 33 126 b (omega arith) (omega arith))

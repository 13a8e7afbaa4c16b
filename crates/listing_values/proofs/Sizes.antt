-- A size's digits, one more, and the sizes that are refused.
use mathlib.Core.Path.{◌≡◌, refl}
use mathlib.Core.List.{List, [], ◌∷◌}
use mathlib.Core.Bool.{Bool, true, false, cond, ◌&&◌}
use native.Mathlib.Omega.{arith}
use native.Mathlib.Nat.{le_refl, le_trans}
use lib.Dec.{leb, ltb}
use lib.ListN.{length, drop, get_or}
use Prim.Native.Nat.{ℕ, suc, zero, ◌+◌, ◌*◌, ◌≤◌, ◌<◌}
use borrow.Author.Tests.{le-leb, lt-leb}
use Rattle.listing.specs.Bytes.{digit_value}
use Rattle.listing.specs.Values.{digits, decimal_from, size_of, is_size}
use Rattle.listing_scan.proofs.Scan.{byte-first}

module _ (l : List ℕ) (i : ℕ) (h : i < length l) where
  pub digits-at : (base : ℕ) → digits base (drop i l) ≡ cond (ltb (digit_value (get_or l i 0)) base) (digits base (drop (i + 1) l)) false
  unfolding digits
  digits-at base = rw (byte-first l i h)

  pub decimal-at : (v : ℕ) → decimal_from v (drop i l) ≡ decimal_from (10 * v + digit_value (get_or l i 0)) (drop (i + 1) l)
  unfolding decimal_from
  decimal-at v = rw (byte-first l i h)

pub decimal-grows : (v : ℕ) (l : List ℕ) → v ≤ decimal_from v l
unfolding decimal_from
decimal-grows v [] = le_refl v
decimal-grows v (b ∷ bs) = le_trans (let h : v ≤ 10 * v + digit_value b = omega arith in h) (decimal-grows (10 * v + digit_value b) bs)

and-false : (t : Bool) → (t && false) ≡ false
and-false true = refl
and-false false = refl

module _ (v : List ℕ) where
  pub size-empty : length v ≡ 0 → is_size v ≡ false
  unfolding is_size
  size-empty e = rw e

  pub size-long : 20 < length v → is_size v ≡ false
  unfolding is_size
  size-long h = rw (lt-leb (length v) 20 h, and-false (leb 1 (length v)))

  pub size-digits : digits 10 v ≡ false → is_size v ≡ false
  unfolding is_size
  size-digits e = rw (e, and-false (leb 1 (length v) && leb (length v) 20))

  pub size-large : 18446744073709551615 < size_of v → is_size v ≡ false
  unfolding is_size
  size-large h = rw (lt-leb _ _ h, and-false (leb 1 (length v) && leb (length v) 20 && digits 10 v))

  pub size-good : (length v ≡ 0 → ⊥) → length v ≤ 20 → digits 10 v ≡ true → size_of v ≤ 18446744073709551615 → is_size v ≡ true
  unfolding is_size
  size-good a b c d = rw (le-leb 1 (length v) (some (length v) a), le-leb _ _ b, c, le-leb _ _ d)
    where
      some : (n : ℕ) → (n ≡ 0 → ⊥) → 1 ≤ n
      some zero h = absurd (h refl)
      some (suc n) h = omega arith

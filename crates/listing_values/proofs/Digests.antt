-- The values of hex digits and the bytes that they say, one more place at a time.
use mathlib.Core.Path.{◌≡◌, refl, ◌∙◌}
use mathlib.Core.List.{List, [], ◌∷◌, ◌++◌, map, append_assoc, append-nil}
use mathlib.Core.Bool.{true, false, cond}
use native.Mathlib.Omega.{arith}
use native.Mathlib.Numerals.{add-one}
use lib.Dec.{ltb}
use lib.ListN.{length, take, drop, get_or, set, length-set}
use lib.Seq.{take-suc-set, take_all}
use Prim.Native.Nat.{ℕ, zero, suc, ◌+◌, ◌*◌, ◌≤◌, ◌<◌}
use borrow.Author.Tests.{ltb-true}
use Rattle.tree.proofs.Same.{both_true}
use Rattle.listing.specs.Bytes.{digit_value}
use Rattle.listing.specs.Values.{digits, hex_bytes}
use Rattle.listing_scan.proofs.Scan.{byte-first}
use Rattle.listing_values.specs.Values.{all_below, pairs}

-- what digits say is what their values do
pub digits-below : (base : ℕ) (v : List ℕ) → all_below base (map digit_value v) ≡ digits base v
unfolding all_below digits
digits-below base [] = refl
digits-below base (b ∷ bs) = rw (digits-below base bs)

pub bytes-pairs : (v : List ℕ) → pairs (map digit_value v) ≡ hex_bytes v
unfolding pairs hex_bytes
bytes-pairs [] = refl
bytes-pairs (a ∷ []) = refl
bytes-pairs (a ∷ b ∷ bs) = rw (bytes-pairs bs)

-- the list that is to be written is the i elements that are, and a rest
pub record Filled (whole out rest : List ℕ) (n i : ℕ) : Type 0 where
  pub long : length out ≡ n
  pub said : whole ≡ take i out ++ rest

pub fill_none : {whole out : List ℕ} {n : ℕ} → length out ≡ n → Filled whole out whole n 0
fill_none e = record { long = e; said = refl }

module _ {whole out rest : List ℕ} {n i : ℕ} (c : Filled whole out rest n i) where
  pub fill_one : (x : ℕ) (more : List ℕ) → i < n → rest ≡ x ∷ more → Filled whole (set out i x) more n (i + 1)
  fill_one x more h e =
      let g : i < length out = let l = c.long in omega arith in
      record {
        long = simp length-set c.long;
        said = c.said ∙ rw (e, add-one i, take-suc-set out i x g, append_assoc);
      }

  pub filled : n ≤ i → rest ≡ [] → out ≡ whole
  filled h e = let l = c.long in rw (c.said, e, append-nil, take_all i out (omega arith))

-- a value that is read
module _ (d : List ℕ) (i : ℕ) (h : i < length d) where
  pub value-first : map digit_value (drop i d) ≡ digit_value (get_or d i 0) ∷ map digit_value (drop (i + 1) d)
  value-first = rw (byte-first d i h)

  pub below-first : (base : ℕ) → all_below base (drop i d) ≡ cond (ltb (get_or d i 0) base) (all_below base (drop (i + 1) d)) false
  unfolding all_below
  below-first base = rw (byte-first d i h)

-- two values to a byte
pub pair-first : (d : List ℕ) (i : ℕ) → 2 * i + 1 < length d
    → pairs (drop (2 * i) d) ≡ (16 * get_or d (2 * i) 0 + get_or d (2 * i + 1) 0) ∷ pairs (drop (2 * (i + 1)) d)
unfolding pairs
pair-first d i h =
    let e : 2 * (i + 1) ≡ 2 * i + 1 + 1 = omega arith in
    rw (e, byte-first d (2 * i) (omega arith), byte-first d (2 * i + 1) h)

-- each value is below, where all are
pub each_below : (base : ℕ) (d : List ℕ) (i : ℕ) → all_below base d ≡ true → i < length d → get_or d i 0 < base
unfolding all_below
each_below base [] i e h = omega arith
each_below base (x ∷ d) zero e h = ltb-true x base (both_true (ltb x base) _ e).0
each_below base (x ∷ d) (suc i) e h = each_below base d i (both_true (ltb x base) _ e).1 (omega arith)

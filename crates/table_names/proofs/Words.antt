-- The rules for words and names, from word or byte k on.
use mathlib.Core.Path.{◌≡◌, refl, sym, ◌∙◌}
use mathlib.Core.List.{List, [], ◌∷◌, ◌++◌}
use mathlib.Core.Bool.{Bool, true, false, cond, false≢true}
use native.Mathlib.Omega.{arith}
use native.Mathlib.Nat.{not-suc-le-zero}
use native.Mathlib.Numerals.{add-one}
use lib.ListN.{length, take, drop, get_or, length-drop, drop_of_length-le}
use lib.Seq.{drop-cons, take_all}
use Prim.Native.Nat.{ℕ, zero, suc, ◌+◌, ◌-◌, ◌*◌, ◌/◌, ◌%◌, ◌≤◌, ◌<◌}
use lib.Dec.{eqb}
use borrow.Author.Tests.{eq-eqb, eqb-true, ne_eqb}
use Rattle.std.specs.Int.{to_be_bytes}
use Rattle.std.proofs.Common.{w32}
use Rattle.tree.specs.Rules.{zeros, bytes, zero_filled}
use Rattle.table_names.specs.Low.{low_bytes}

module _ (s : List ℕ) (k : ℕ) where
  pub zeros-next : k < length s → get_or s k 0 ≡ 0 → zeros (drop k s) ≡ zeros (drop (k + 1) s)
  unfolding zeros
  zeros-next h e = rw (drop-cons s k 0 h, eq-eqb _ _ e, add-one)

  pub zeros-not : k < length s → (get_or s k 0 ≡ 0 → ⊥) → zeros (drop k s) ≡ false
  unfolding zeros
  zeros-not h e = rw (drop-cons s k 0 h, ne_eqb _ _ e)

  pub zeros-end : length s ≤ k → zeros (drop k s) ≡ true
  unfolding zeros
  zeros-end h = rw (drop_of_length-le s h)

  pub filled_zero : k < length s → get_or s k 0 ≡ 0 → zero_filled (drop k s) ≡ zeros (drop (k + 1) s)
  unfolding zero_filled
  filled_zero h e = rw (drop-cons s k 0 h, eq-eqb _ _ e, add-one)

  pub filled-slash : k < length s → get_or s k 0 ≡ 47 → zero_filled (drop k s) ≡ false
  unfolding zero_filled
  filled-slash h e = let n : get_or s k 0 ≡ 0 → ⊥ = omega arith in rw (drop-cons s k 0 h, ne_eqb _ _ n, eq-eqb _ _ e)

  pub filled_next : k < length s → (get_or s k 0 ≡ 0 → ⊥) → (get_or s k 0 ≡ 47 → ⊥) → zero_filled (drop k s) ≡ zero_filled (drop (k + 1) s)
  unfolding zero_filled
  filled_next h e n = rw (drop-cons s k 0 h, ne_eqb _ _ e, ne_eqb _ _ n, add-one)

  pub filled-end : length s ≤ k → zero_filled (drop k s) ≡ true
  unfolding zero_filled
  filled-end h = rw (drop_of_length-le s h)

-- a part that goes to the end is what is left
pub rest-is : (s : List ℕ) (k : ℕ) → take (length s - k) (drop k s) ≡ drop k s
rest-is s k = take_all (length s - k) (drop k s) (omega (arith, length-drop k s))

-- a word's bytes, the highest first
pub be-bytes : (x : ℕ) → x < 4294967296 → to_be_bytes w32 x ≡ bytes (x ∷ [])
unfolding bytes
be-bytes x h = let e : x / 16777216 % 256 ≡ x / 16777216 = omega arith in rw e

-- byte k is byte k % 4 of word k / 4
pub byte-is : (w : List ℕ) (k : ℕ) → k < 4 * length w → get_or (bytes (get_or w (k / 4) 0 ∷ [])) (k % 4) 0 ≡ get_or (bytes w) k 0
unfolding bytes
byte-is [] k h = absurd (not-suc-le-zero h)
byte-is (x ∷ xs) zero h = refl
byte-is (x ∷ xs) (suc zero) h = refl
byte-is (x ∷ xs) (suc (suc zero)) h = refl
byte-is (x ∷ xs) (suc (suc (suc zero))) h = refl
byte-is (x ∷ xs) (suc (suc (suc (suc k)))) h =
    let e : suc (suc (suc (suc k))) / 4 ≡ suc (k / 4) = omega arith in
    let f : suc (suc (suc (suc k))) % 4 ≡ k % 4 = omega arith in
    rw (e, f) (byte-is xs k (omega arith))

-- some bytes l before others: zeros, where a number v is 0 exactly where those bytes are
pub zero-head : (x : ℕ) (l : List ℕ) → zeros (x ∷ l) ≡ true → (x ≡ 0) × (zeros l ≡ true)
unfolding zeros
zero-head x l h = go (eqb x 0) refl h
  where
    go : (t : Bool) → eqb x 0 ≡ t → cond t (zeros l) false ≡ true → (x ≡ 0) × (zeros l ≡ true)
    go true e q = (eqb-true x 0 e, q)
    go false e q = absurd (false≢true q)

pub zeros-before : (l t : List ℕ) → zeros (l ++ t) ≡ cond (zeros l) (zeros t) false
unfolding zeros
zeros-before [] t = refl
zeros-before (x ∷ l) t = go (eqb x 0) (zeros-before l t)
  where
    go : (b : Bool) → zeros (l ++ t) ≡ cond (zeros l) (zeros t) false → cond b (zeros (l ++ t)) false ≡ cond (cond b (zeros l) false) (zeros t) false
    go true h = h
    go false h = refl

zeros_by : (v : ℕ) (l t : List ℕ) → (v ≡ 0 → zeros l ≡ true) → (zeros l ≡ true → v ≡ 0) → zeros (l ++ t) ≡ cond (eqb v 0) (zeros t) false
zeros_by v l t f g = zeros-before l t ∙ go (zeros l) refl
  where
    go : (b : Bool) → zeros l ≡ b → cond b (zeros t) false ≡ cond (eqb v 0) (zeros t) false
    go true e = rw (eq-eqb v 0 (g e))
    go false e = rw (ne_eqb v 0 (λ z. false≢true (sym e ∙ f z)))

-- the bytes of a word, from the last to all four
module _ (x : ℕ) (t : List ℕ) where
  abbrev a : ℕ
  a = x / 16777216

  abbrev b : ℕ
  b = x / 65536 % 256

  abbrev c : ℕ
  c = x / 256 % 256

  abbrev d : ℕ
  d = x % 256

  last-zero : zeros (d ∷ []) ≡ true → x % 256 ≡ 0
  last-zero h = (zero-head d [] h).0

  two-zero : zeros (c ∷ d ∷ []) ≡ true → x % 65536 ≡ 0
  two-zero h = let p = zero-head c (d ∷ []) h in let e = p.0 in let q = last-zero p.1 in omega arith

  three-zero : zeros (b ∷ c ∷ d ∷ []) ≡ true → x % 16777216 ≡ 0
  three-zero h = let p = zero-head b (c ∷ d ∷ []) h in let e = p.0 in let q = two-zero p.1 in omega arith

  four-zero : zeros (a ∷ b ∷ c ∷ d ∷ []) ≡ true → x ≡ 0
  four-zero h = let p = zero-head a (b ∷ c ∷ d ∷ []) h in let e = p.0 in let q = three-zero p.1 in omega arith

  pub zero-last : x % 256 ≡ 0 → zeros (d ∷ []) ≡ true
  unfolding zeros
  zero-last h = rw (eq-eqb d 0 h)

  pub zero-two : x % 65536 ≡ 0 → zeros (c ∷ d ∷ []) ≡ true
  unfolding zeros
  zero-two h = rw (eq-eqb c 0 (omega arith)) (zero-last (omega arith))

  pub zero-three : x % 16777216 ≡ 0 → zeros (b ∷ c ∷ d ∷ []) ≡ true
  unfolding zeros
  zero-three h = rw (eq-eqb b 0 (omega arith)) (zero-two (omega arith))

  pub zero-four : x ≡ 0 → zeros (a ∷ b ∷ c ∷ d ∷ []) ≡ true
  unfolding zeros
  zero-four h = rw (eq-eqb a 0 (omega arith)) (zero-three (omega arith))

  pub from-word : zeros (a ∷ b ∷ c ∷ d ∷ t) ≡ cond (eqb x 0) (zeros t) false
  from-word = zeros_by x (a ∷ b ∷ c ∷ d ∷ []) t zero-four four-zero

  pub from_second : zeros (b ∷ c ∷ d ∷ t) ≡ cond (eqb (x % 16777216) 0) (zeros t) false
  from_second = zeros_by (x % 16777216) (b ∷ c ∷ d ∷ []) t zero-three three-zero

  pub from-third : zeros (c ∷ d ∷ t) ≡ cond (eqb (x % 65536) 0) (zeros t) false
  from-third = zeros_by (x % 65536) (c ∷ d ∷ []) t zero-two two-zero

  pub from-fourth : zeros (d ∷ t) ≡ cond (eqb (x % 256) 0) (zeros t) false
  from-fourth = zeros_by (x % 256) (d ∷ []) t zero-last last-zero

pub zeros-words : (w : List ℕ) → zeros (bytes w) ≡ zeros w
unfolding bytes zeros
zeros-words [] = refl
zeros-words (x ∷ xs) = from-word x (bytes xs) ∙ rw (zeros-words xs)

-- the bytes from byte k on are zero where the rest of its word and the words after it are
pub zeros-low : (w : List ℕ) (k : ℕ) → k < 4 * length w → zeros (drop k (bytes w)) ≡ cond (eqb (low_bytes (get_or w (k / 4) 0) (k % 4)) 0) (zeros (drop (k / 4 + 1) w)) false
unfolding bytes low_bytes
zeros-low [] k h = absurd (not-suc-le-zero h)
zeros-low (x ∷ xs) zero h = from-word x (bytes xs) ∙ rw (zeros-words xs)
zeros-low (x ∷ xs) (suc zero) h = from_second x (bytes xs) ∙ rw (zeros-words xs)
zeros-low (x ∷ xs) (suc (suc zero)) h = from-third x (bytes xs) ∙ rw (zeros-words xs)
zeros-low (x ∷ xs) (suc (suc (suc zero))) h = from-fourth x (bytes xs) ∙ rw (zeros-words xs)
zeros-low (x ∷ xs) (suc (suc (suc (suc k)))) h =
    let e : suc (suc (suc (suc k))) / 4 ≡ suc (k / 4) = omega arith in
    let f : suc (suc (suc (suc k))) % 4 ≡ k % 4 = omega arith in
    let g : suc (k / 4) + 1 ≡ suc (k / 4 + 1) = omega arith in
    rw (e, f, g) (zeros-low xs k (omega arith))

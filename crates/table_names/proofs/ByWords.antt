-- The rule for a name's bytes, word by word: a plain word leaves the rest to decide, a word that is plain but for its last zero
-- bytes wants zeros after it.
use mathlib.Core.Path.{◌≡◌, refl, sym, ◌∙◌}
use mathlib.Core.List.{List, [], ◌∷◌, ◌++◌}
use mathlib.Core.Bool.{Bool, true, false, not, false≢true}
use native.Mathlib.Omega.{arith}
use native.Mathlib.Decide.{ℕ_discrete}
use native.Mathlib.Nat.{div-div-eq-div-mul}
use native.Mathlib.Numerals.{add-one}
use lib.Dec.{eqb}
use lib.ListN.{length, drop, get_or, drop_of_length-le}
use lib.Seq.{drop-cons, drop-nil}
use Prim.Native.Nat.{ℕ, zero, suc, ◌+◌, ◌*◌, ◌/◌, ◌%◌, ◌≤◌, ◌<◌}
use borrow.Author.Tests.{eqb-false, ne_eqb, not-true}
use Rattle.tree.specs.Rules.{zeros, bytes, zero_filled, good_name}
use Rattle.tree.proofs.Same.{and-true}
use Rattle.table_names.specs.Plain.{plain_byte, plain_word, filled_word}
use Rattle.table_names.proofs.Words.{filled_next, filled_zero, zero-head, zeros-before, zeros-words, zero-last, zero-two, zero-three, zero-four}

-- a byte that leaves the rest to decide
abbrev Inner : ℕ → Type 0
Inner b = (b ≡ 0 → ⊥) × (b ≡ 47 → ⊥)

plain-inner : (b : ℕ) → plain_byte b ≡ true → Inner b
plain-inner b h =
    let t = and-true (not (eqb (b % 128) 0)) (not (eqb (b % 128) 47)) h in
    let z = eqb-false (b % 128) 0 (not-true _ t.0) in
    let s = eqb-false (b % 128) 47 (not-true _ t.1) in
    (λ e. z (rw e refl), λ e. s (rw e refl))

plain-bytes : (x : ℕ) → plain_word x ≡ true
    → Inner (x / 16777216) × Inner (x / 65536 % 256) × Inner (x / 256 % 256) × Inner (x % 256)
unfolding plain_word
plain-bytes x h =
    let r = and-true _ _ h in
    let q = and-true _ _ r.0 in
    let p = and-true _ _ q.0 in
    (plain-inner _ p.0, plain-inner _ p.1, plain-inner _ q.1, plain-inner _ r.1)

-- numbers that are the same over m are so over m * n
above : (y x m n : ℕ) → y / m ≡ x / m → y / (m * n) ≡ x / (m * n)
above y x m n e = sym (div-div-eq-div-mul y m n) ∙ rw e (div-div-eq-div-mul x m n)

inner-next : (b : ℕ) (t : List ℕ) → Inner b → zero_filled (b ∷ t) ≡ zero_filled t
inner-next b t h = filled_next (b ∷ t) 0 (omega arith) h.0 h.1

zero-next : (b : ℕ) (t : List ℕ) → b ≡ 0 → zero_filled (b ∷ t) ≡ zeros t
zero-next b t e = filled_zero (b ∷ t) 0 (omega arith) e

zeros-filled : (t : List ℕ) → zeros t ≡ true → zero_filled t ≡ true
unfolding zeros zero_filled
zeros-filled [] h = refl
zeros-filled (b ∷ t) h = let p = zero-head b t h in zero-next b t p.0 ∙ p.1

-- zero bytes, of which there are some, before others
zeros-then : (b : ℕ) (l t : List ℕ) → zeros (b ∷ l) ≡ true → zero_filled (b ∷ l ++ t) ≡ zeros t
zeros-then b l t h = let p = zero-head b l h in zero-next b (l ++ t) p.0 ∙ zeros-before l t ∙ rw p.1

-- a word before others
module _ (x : ℕ) (w : List ℕ) where
  plain_then : plain_word x ≡ true → zero_filled (bytes (x ∷ w)) ≡ zero_filled (bytes w)
  unfolding bytes
  plain_then h =
      let p = plain-bytes x h in
      inner-next _ _ p.0 ∙ inner-next _ _ p.1 ∙ inner-next _ _ p.2 ∙ inner-next _ _ p.3

  filled-then : plain_word (filled_word x) ≡ true → plain_word x ≡ false → zero_filled (bytes (x ∷ w)) ≡ zeros w
  unfolding bytes filled_word
  filled-then h n =
      go (ℕ_discrete (x % 256) 0) (ℕ_discrete (x % 65536) 0) (ℕ_discrete (x % 16777216) 0) (ℕ_discrete x 0) ∙ zeros-words w
    where
      go : Dec (x % 256 ≡ 0) → Dec (x % 65536 ≡ 0) → Dec (x % 16777216 ≡ 0) → Dec (x ≡ 0) → zero_filled (bytes (x ∷ w)) ≡ zeros (bytes w)
      go (no d) q r s = absurd (false≢true (sym n ∙ rw (ne_eqb (x % 256) 0 d) at h))
      go (yes e) (no d) r s =
          let k : (x + 97) / 256 ≡ x / 256 = omega arith in
          let y = plain-bytes (x + 97) (rw (e, ne_eqb (x % 65536) 0 d) at h) in
          let p = rw (above (x + 97) x 256 65536 k, above (x + 97) x 256 256 k, k) at y in
          inner-next _ _ p.0 ∙ inner-next _ _ p.1 ∙ inner-next _ _ p.2 ∙ zeros-then _ [] _ (zero-last x w e)
      go (yes e) (yes f) (no d) s =
          let k : (x + 24929) / 65536 ≡ x / 65536 = omega arith in
          let y = plain-bytes (x + 24929) (rw (e, f, ne_eqb (x % 16777216) 0 d) at h) in
          let p = rw (above (x + 24929) x 65536 256 k, k) at y in
          inner-next _ _ p.0 ∙ inner-next _ _ p.1 ∙ zeros-then _ (x % 256 ∷ []) _ (zero-two x w f)
      go (yes e) (yes f) (yes g) (no d) =
          let k : (x + 6381921) / 16777216 ≡ x / 16777216 = omega arith in
          let p = rw k at (plain-bytes (x + 6381921) (rw (e, f, g, ne_eqb x 0 d) at h)) in
          inner-next _ _ p.0 ∙ zeros-then _ (x / 256 % 256 ∷ x % 256 ∷ []) _ (zero-three x w g)
      go (yes e) (yes f) (yes g) (yes z) = zeros-then _ (x / 65536 % 256 ∷ x / 256 % 256 ∷ x % 256 ∷ []) _ (zero-four x w z)

pub word_end : (s : List ℕ) (k : ℕ) → length s ≤ k → zero_filled (bytes (drop k s)) ≡ true
unfolding bytes zero_filled
word_end s k h = rw (drop_of_length-le s h)

-- from word k on
module _ (s : List ℕ) (k : ℕ) (h : k < length s) where
  abbrev x : ℕ
  x = get_or s k 0

  pub word-plain : plain_word x ≡ true → zero_filled (bytes (drop k s)) ≡ zero_filled (bytes (drop (k + 1) s))
  word-plain p = rw (drop-cons s k 0 h, add-one) (plain_then x (drop (suc k) s) p)

  pub word-filled : plain_word (filled_word x) ≡ true → plain_word x ≡ false → zero_filled (bytes (drop k s)) ≡ zeros (drop (k + 1) s)
  word-filled p n = rw (drop-cons s k 0 h, add-one) (filled-then x (drop (suc k) s) p n)

  -- where zeros are after it, the word may be plain too
  pub word-last : plain_word (filled_word x) ≡ true → zeros (drop (k + 1) s) ≡ true → zero_filled (bytes (drop k s)) ≡ true
  word-last p z = go (plain_word x) refl
    where
      go : (t : Bool) → plain_word x ≡ t → zero_filled (bytes (drop k s)) ≡ true
      go true e = word-plain e ∙ zeros-filled _ (zeros-words (drop (k + 1) s) ∙ z)
      go false e = word-filled p e ∙ z

-- a plain word is none of the first words that no name has: its last byte is not zero
pub first_plain : (s : List ℕ) → plain_word (get_or s 0 0) ≡ true → zero_filled (bytes s) ≡ true → good_name s ≡ true
unfolding good_name
first_plain s p f =
    let x = get_or s 0 0 in
    let d = (plain-bytes x p).3.0 in
    rw (ne_eqb x 0 (λ e. d (rw e refl)), ne_eqb x 0x2E000000 (λ e. d (rw e refl)), ne_eqb x 0x2E2E0000 (λ e. d (rw e refl))) f

-- the bytes from a word's first on are those of the words from it on
pub drop-bytes : (k : ℕ) (s : List ℕ) → drop (4 * k) (bytes s) ≡ bytes (drop k s)
unfolding bytes
drop-bytes zero s = refl
drop-bytes (suc k) [] = drop-nil (4 * suc k)
drop-bytes (suc k) (x ∷ s) = let e : 4 * suc k ≡ suc (suc (suc (suc (4 * k)))) = omega arith in rw e (drop-bytes k s)

-- A size and a digest that are written and read again.
use mathlib.Core.Bool.{Bool, ◌&&◌, cond, false, true}
use mathlib.Core.List.{List, [], ◌∷◌}
use mathlib.Core.Path.{◌∙◌, ◌≡◌, ap, ap₂, refl}
use native.Mathlib.Nat.{lt_of_lt_of_le, pow-suc}
use native.Mathlib.Omega.{arith}
use lib.Dec.{eqb, lit<, lit≤, ltb}
use lib.ListN.{length}
use Prim.Native.Nat.{ℕ, suc, zero, ◌%◌, ◌*◌, ◌+◌, ◌/◌, ◌<◌, ◌^◌, ◌≤◌}
use borrow.Author.Tests.{eq-eqb, eqb-true, le-leb, lt-ltb, ltb-true, ltb-false}
use Rattle.tree.specs.Forest.{Content}
use Rattle.tree.specs.Rules.{ContentRule, Words32, bytes}
use Rattle.tree.proofs.Same.{and-true}
use Rattle.tree.proofs.Rules.{length-bytes}
use Rattle.listing.specs.Bytes.{class_of, digit_value}
use Rattle.listing.specs.Names.{packed}
use Rattle.listing.specs.Values.{content_of, decimal_from, digest_of, digits, hex_bytes, is_digest, is_size, size_of}
use Rattle.listing.specs.Writing.{decimal, digest_text, hex, hex_digit, size_text}
use Rattle.listing.proofs.Spelling.{Small, bytes_small, is_plain, packed-bytes}
use Rattle.tree.proofs.Every.{every, every-at}

-- bytes that stand in words as they are
unfoldable pub all_plain : List ℕ → Bool
all_plain [] = true
all_plain (b ∷ bs) = is_plain (class_of b) && all_plain bs

digit_test : ℕ → Bool
digit_test d = eqb (digit_value (hex_digit d)) d && is_plain (class_of (hex_digit d))

digit-all : every 16 digit_test ≡ true
unfolding digit_test digit_value class_of
digit-all = refl

pub record IsDigit (d b : ℕ) : Type 0 where
  pub value : digit_value b ≡ d
  pub plain : is_plain (class_of b) ≡ true

hex-digit : (d : ℕ) → d < 16 → IsDigit d (hex_digit d)
unfolding digit_test
hex-digit d h =
    let q = and-true _ _ (every-at 16 digit_test digit-all d h) in record { value = eqb-true _ d q.0; plain = q.1 }

pub decimal_digit : (d : ℕ) → d < 10 → IsDigit d (48 + d)
decimal_digit d h = let q = hex-digit d (omega arith) in rw (lt-ltb d 10 h) at q

-- digits of the base, each of which stands in a word as it is
record Digits (base : ℕ) (l : List ℕ) : Type 0 where
  good : digits base l ≡ true
  plain : all_plain l ≡ true

digits-cons : (base d b : ℕ) (l : List ℕ) → d < base → IsDigit d b → Digits base l → Digits base (b ∷ l)
unfolding digits all_plain
digits-cons base d b l h i r = record { good = rw (i.value, lt-ltb d base h) r.good; plain = rw i.plain r.plain }

decimal-digits : (k n : ℕ) (acc : List ℕ) → Digits 10 acc → Digits 10 (decimal k n acc)
unfolding decimal
decimal-digits zero n acc r = r
decimal-digits (suc k) n acc r = go (ltb n 10) refl (decimal-digits k (n / 10) ((48 + n % 10) ∷ acc))
  where
    go : (t : Bool) → ltb n 10 ≡ t → (Digits 10 ((48 + n % 10) ∷ acc) → Digits 10 (decimal k (n / 10) ((48 + n % 10) ∷ acc)))
        → Digits 10 (cond t ((48 + n) ∷ acc) (decimal k (n / 10) ((48 + n % 10) ∷ acc)))
    go true e f = let h = ltb-true n 10 e in digits-cons 10 n (48 + n) acc h (decimal_digit n h) r
    go false e f = f (digits-cons 10 (n % 10) (48 + n % 10) acc (omega arith) (decimal_digit (n % 10) (omega arith)) r)

pub decimal-length : (k n : ℕ) (acc : List ℕ) → (length (decimal k n acc) ≤ k + length acc) × (length acc ≤ length (decimal k n acc))
unfolding decimal
decimal-length zero n acc = omega arith
decimal-length (suc k) n acc = go (ltb n 10) (decimal-length k (n / 10) ((48 + n % 10) ∷ acc))
  where
    go : (t : Bool) → (length (decimal k (n / 10) ((48 + n % 10) ∷ acc)) ≤ k + suc (length acc)) × (suc (length acc) ≤ length (decimal k (n / 10) ((48 + n % 10) ∷ acc)))
        → (length (cond t ((48 + n) ∷ acc) (decimal k (n / 10) ((48 + n % 10) ∷ acc))) ≤ suc k + length acc)
        × (length acc ≤ length (cond t ((48 + n) ∷ acc) (decimal k (n / 10) ((48 + n % 10) ∷ acc))))
    go true h = omega arith
    go false h = omega arith

positive : (k : ℕ) {n : ℕ} → n / 10 < 10 ^ k → 10 ≤ n → 0 < k
positive zero h b = absurd (omega arith)
positive (suc k) h b = omega arith

decimal-back : (k n : ℕ) (acc : List ℕ) → n < 10 ^ k → 0 < k → decimal_from 0 (decimal k n acc) ≡ decimal_from n acc
unfolding decimal decimal_from
decimal-back zero n acc h z = absurd (omega arith)
decimal-back (suc k) n acc h z = go (ltb n 10) refl (rw (pow-suc 10 k) at h) (decimal-back k (n / 10) ((48 + n % 10) ∷ acc))
  where
    go : (t : Bool) → ltb n 10 ≡ t → n < 10 ^ k * 10
        → (n / 10 < 10 ^ k → 0 < k → decimal_from 0 (decimal k (n / 10) ((48 + n % 10) ∷ acc)) ≡ decimal_from (10 * (n / 10) + digit_value (48 + n % 10)) acc)
        → decimal_from 0 (cond t ((48 + n) ∷ acc) (decimal k (n / 10) ((48 + n % 10) ∷ acc))) ≡ decimal_from n acc
    go true e p f =
        let v = (decimal_digit n (ltb-true n 10 e)).value in
        let sum : 10 * 0 + digit_value (48 + n) ≡ n = omega arith in
        ap (λ (x : ℕ). decimal_from x acc) sum
    go false e p f =
        let big = ltb-false n 10 e in
        let less : n / 10 < 10 ^ k = omega arith in
        let v = (decimal_digit (n % 10) (omega arith)).value in
        let sum : 10 * (n / 10) + digit_value (48 + n % 10) ≡ n = omega arith in
        f less (positive k less big) ∙ ap (λ (x : ℕ). decimal_from x acc) sum

size_back : (n : ℕ) → n < 18446744073709551616 → size_of (decimal 20 n []) ≡ n
unfolding decimal_from
size_back n h = decimal-back 20 n [] (lt_of_lt_of_le h (lit≤ tt)) (lit< tt)

no-digits : (base : ℕ) → Digits base []
unfolding digits all_plain
no-digits base = record { good = refl; plain = refl }

decimal-some : (n : ℕ) → 0 < length (decimal 20 n [])
unfolding decimal
decimal-some n = go (ltb n 10)
  where
    go : (t : Bool) → 0 < length (cond t ((48 + n) ∷ []) (decimal 19 (n / 10) ((48 + n % 10) ∷ [])))
    go true = omega arith
    go false = omega (arith, decimal-length 19 (n / 10) ((48 + n % 10) ∷ []))

size-good : (n : ℕ) → n < 18446744073709551616 → is_size (decimal 20 n []) ≡ true
unfolding is_size
size-good n h =
    let l = decimal-length 20 n [] in
    rw (le-leb 1 (length (decimal 20 n [])) (decimal-some n), le-leb (length (decimal 20 n [])) 20 l.0, (decimal-digits 20 n [] (no-digits 10)).good, size_back n h, le-leb n 18446744073709551615 (omega arith))

hex-digits : (bs : List ℕ) → Small bs → Digits 16 (hex bs)
unfolding hex Small
hex-digits [] s = no-digits 16
hex-digits (b ∷ bs) s =
    let h = s.0 in
    digits-cons 16 (b / 16) _ _ (omega arith) (hex-digit (b / 16) (omega arith))
    (digits-cons 16 (b % 16) _ _ (omega arith) (hex-digit (b % 16) (omega arith)) (hex-digits bs s.1))

hex-back : (bs : List ℕ) → Small bs → hex_bytes (hex bs) ≡ bs
unfolding hex hex_bytes Small
hex-back [] s = refl
hex-back (b ∷ bs) s =
    let h = s.0 in
    let u = (hex-digit (b / 16) (omega arith)).value in
    let v = (hex-digit (b % 16) (omega arith)).value in
    let sum : 16 * digit_value (hex_digit (b / 16)) + digit_value (hex_digit (b % 16)) ≡ b = omega arith in
    ap₂ (λ (x : ℕ) (l : List ℕ). x ∷ l) sum (hex-back bs s.1)

hex-length : (bs : List ℕ) → length (hex bs) ≡ 2 * length bs
unfolding hex
hex-length [] = refl
hex-length (b ∷ bs) = omega (arith, hex-length bs)

digest-good : (ws : List ℕ) → length ws ≡ 8 → Words32 ws → is_digest (hex (bytes ws)) ≡ true
unfolding is_digest
digest-good ws e w =
    let l : length (hex (bytes ws)) ≡ 64 = omega (arith, hex-length (bytes ws), length-bytes ws) in
    rw (eq-eqb _ 64 l, (hex-digits (bytes ws) (bytes_small ws w)).good)

digest-back : (ws : List ℕ) → length ws ≡ 8 → Words32 ws → digest_of (hex (bytes ws)) ≡ ws
digest-back ws e w = ap packed (hex-back (bytes ws) (bytes_small ws w)) ∙ packed-bytes ws e w

-- a file's words, read back
pub record Back (c : Content) : Type 0 where
  pub size : is_size (size_text c) ≡ true
  pub digest : is_digest (digest_text c) ≡ true
  pub content : content_of (size_of (size_text c)) (digest_of (digest_text c)) ≡ c
  pub plain_size : all_plain (size_text c) ≡ true
  pub plain-digest : all_plain (digest_text c) ≡ true

pub content-back : (c : Content) → ContentRule c → Back c
unfolding Words32
content-back [] r = absurd (omega (arith, r.eleven))
content-back (k ∷ []) r = absurd (omega (arith, r.eleven))
content-back (k ∷ h ∷ []) r = absurd (omega (arith, r.eleven))
content-back (k ∷ h ∷ l ∷ ds) r =
    let w = r.small in
    let eight : length ds ≡ 8 = omega (arith, r.eleven) in
    let fits : 4294967296 * h + l < 18446744073709551616 = omega (arith, w.1.0, w.1.1.0) in
    let high : (4294967296 * h + l) / 4294967296 ≡ h = omega (arith, w.1.1.0) in
    let low : (4294967296 * h + l) % 4294967296 ≡ l = omega (arith, w.1.1.0) in
    record {
      size = size-good _ fits;
      digest = digest-good ds eight w.1.1.1;
      content = rw (size_back _ fits, high, low, digest-back ds eight w.1.1.1, r.kind);
      plain_size = (decimal-digits 20 (4294967296 * h + l) [] (no-digits 10)).plain;
      plain-digest = (hex-digits (bytes ds) (bytes_small ds w.1.1.1)).plain;
    }

-- Bytes that are neither 0 nor 47 told in all of a word at once, as `plain_word` does it: it goes byte by byte.
use mathlib.Core.Path.{◌≡◌, refl, sym, ◌∙◌}
use mathlib.Core.Bool.{Bool, true, false, cond, ◌&&◌, and-false}
use native.Mathlib.Omega.{arith}
use native.Mathlib.Decide.{ℕ_discrete}
use lib.Dec.{eqb}
use lib.Bits.{bit_and, bit_xor, and_block, xor_block, and_le_r, and_lt, xor_lt}
use Prim.Native.Nat.{ℕ, ◌+◌, ◌*◌, ◌/◌, ◌%◌, ◌≤◌, ◌<◌}
use borrow.Author.Tests.{eqb-true, eq-eqb, ne_eqb}
use Rattle.tree.proofs.Every.{every, every-at}
use Rattle.table_names.specs.Plain.{plain_byte, plain_word}

-- bit 7 of each byte whose lower seven bits are neither 0 nor 47: l has the lower seven bits of each byte, s 47, h bit 7
abbrev marks : ℕ → ℕ → ℕ → ℕ → ℕ
marks l s h x = bit_and (bit_and (bit_and x l + l) (bit_xor (bit_and x l) s + l)) h

abbrev mark : ℕ → ℕ
mark b = marks 127 47 128 b

mark_test : ℕ → Bool
mark_test b = eqb (mark b) (cond (plain_byte b) 128 0)

mark-all : every 256 mark_test ≡ true
unfolding mark_test
mark-all = refl

mark-is : (b : ℕ) → b < 256 → mark b ≡ cond (plain_byte b) 128 0
unfolding mark_test
mark-is b h = eqb-true _ _ (every-at 256 mark_test mark-all b h)

-- with one more byte, which is the last
one_more : (l s h x b : ℕ) → b < 256
    → marks (l * 256 + 127) (s * 256 + 47) (h * 256 + 128) (x * 256 + b) ≡ marks l s h x * 256 + mark b
one_more l s h x b lb =
    let r = bit_and b 127 in
    let low : r ≤ 127 = and_le_r b 127 in
    let t = bit_xor r 47 in
    let j : t < 128 = xor_lt 7 r 47 (omega arith) (omega arith) in
    let y = bit_and x l in
    let p : (y * 256 + r) + (l * 256 + 127) ≡ (y + l) * 256 + (r + 127) = omega arith in
    let q : (bit_xor y s * 256 + t) + (l * 256 + 127) ≡ (bit_xor y s + l) * 256 + (t + 127) = omega arith in
    let m : bit_and (r + 127) (t + 127) < 256 = and_lt 8 (r + 127) (t + 127) (omega arith) (omega arith) in
    rw (
      and_block 8 x l b 127 lb (omega arith),
      xor_block 8 y s r 47 (omega arith) (omega arith),
      p,
      q,
      and_block 8 (y + l) (bit_xor y s + l) (r + 127) (t + 127) (omega arith) (omega arith),
    )
    (and_block 8 (bit_and (y + l) (bit_xor y s + l)) h (bit_and (r + 127) (t + 127)) 128 m (omega arith))

-- whether every byte has its mark
abbrev marked : ℕ → ℕ → ℕ → ℕ → Bool
marked l s h x = eqb (marks l s h x) h

same_block : (m h : ℕ) (p : Bool) → eqb (m * 256 + cond p 128 0) (h * 256 + 128) ≡ eqb m h && p
same_block m h false = ne_eqb (m * 256 + 0) (h * 256 + 128) (omega arith) ∙ sym (and-false (eqb m h))
same_block m h true = go (ℕ_discrete m h)
  where
    go : Dec (m ≡ h) → eqb (m * 256 + 128) (h * 256 + 128) ≡ eqb m h && true
    go (yes e) = rw (e, eq-eqb (h * 256 + 128) (h * 256 + 128) refl, eq-eqb h h refl)
    go (no n) = rw (ne_eqb (m * 256 + 128) (h * 256 + 128) (omega arith), ne_eqb m h n)

marked_more : (l s h x b : ℕ) → b < 256
    → marked (l * 256 + 127) (s * 256 + 47) (h * 256 + 128) (x * 256 + b) ≡ marked l s h x && plain_byte b
marked_more l s h x b lb = rw (one_more l s h x b lb, mark-is b lb) (same_block (marks l s h x) h (plain_byte b))

four : (a b c d : ℕ) → a < 256 → b < 256 → c < 256 → d < 256
    → marked 2139062143 791621423 2155905152 ((((0 * 256 + a) * 256 + b) * 256 + c) * 256 + d)
    ≡ plain_byte a && plain_byte b && plain_byte c && plain_byte d
four a b c d la lb lc ld =
    marked_more 8355711 3092271 8421504 (((0 * 256 + a) * 256 + b) * 256 + c) d ld
    ∙ rw (
      marked_more 32639 12079 32896 ((0 * 256 + a) * 256 + b) c lc,
      marked_more 127 47 128 (0 * 256 + a) b lb,
      marked_more 0 0 0 0 a la,
    ) refl

-- all four bytes of a word
pub plain-at-once : (x : ℕ) → x < 4294967296 → marked 2139062143 791621423 2155905152 x ≡ plain_word x
unfolding plain_word
plain-at-once x h =
    let a = x / 16777216 in
    let b = x / 65536 % 256 in
    let c = x / 256 % 256 in
    let d = x % 256 in
    let e : (((0 * 256 + a) * 256 + b) * 256 + c) * 256 + d ≡ x = omega arith in
    rw e at (four a b c d (omega arith) (omega arith) (omega arith) (omega arith))

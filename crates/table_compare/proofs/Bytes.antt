-- Capital letters found in all bytes of a word at once, as `lower_word` does it: it goes byte by byte.
use mathlib.Core.Path.{◌≡◌, refl, ◌∙◌}
use mathlib.Core.Bool.{Bool, true, ◌&&◌}
use native.Mathlib.Omega.{arith}
use lib.Dec.{eqb}
use lib.Bits.{bit_and, bit_xor, and_block, xor_block, and_le_r, and_lt, xor_lt}
use Prim.Native.Nat.{ℕ, ◌+◌, ◌*◌, ◌/◌, ◌%◌, ◌≤◌, ◌<◌}
use borrow.Author.Tests.{eqb-true}
use Rattle.tree.specs.Key.{lower, lower_word}
use Rattle.tree.proofs.Same.{and-true}
use Rattle.tree.proofs.Every.{every, every-at}

-- bit 7 of each byte that is a capital letter: l has the lower seven bits of each byte, s and t what takes 65 and 91 to 128, h bit 7
abbrev pub capitals : ℕ → ℕ → ℕ → ℕ → ℕ → ℕ
capitals l s t h x = bit_and (bit_and (bit_xor (bit_and x l + s) (bit_and x l + t)) h) (bit_xor x h)

abbrev capital : ℕ → ℕ
capital b = capitals 127 63 37 128 b

-- with one more byte, which is the last
one_more : (l s t h x b : ℕ) → b < 256 → capitals (l * 256 + 127) (s * 256 + 63) (t * 256 + 37) (h * 256 + 128) (x * 256 + b) ≡ capitals l s t h x * 256 + capital b
one_more l s t h x b lb =
    let r = bit_and b 127 in
    let low : r ≤ 127 = and_le_r b 127 in
    let p : (bit_and x l * 256 + r) + (s * 256 + 63) ≡ (bit_and x l + s) * 256 + (r + 63) = omega arith in
    let q : (bit_and x l * 256 + r) + (t * 256 + 37) ≡ (bit_and x l + t) * 256 + (r + 37) = omega arith in
    let m : bit_xor (r + 63) (r + 37) < 256 = xor_lt 8 (r + 63) (r + 37) (omega arith) (omega arith) in
    let i : bit_and (bit_xor (r + 63) (r + 37)) 128 < 256 = and_lt 8 (bit_xor (r + 63) (r + 37)) 128 m (omega arith) in
    let j : bit_xor b 128 < 256 = xor_lt 8 b 128 lb (omega arith) in
    rw (
      and_block 8 x l b 127 lb (omega arith),
      p,
      q,
      xor_block 8 (bit_and x l + s) (bit_and x l + t) (r + 63) (r + 37) (omega arith) (omega arith),
      and_block 8 (bit_xor (bit_and x l + s) (bit_and x l + t)) h (bit_xor (r + 63) (r + 37)) 128 m (omega arith),
      xor_block 8 x h b 128 lb (omega arith),
    )
    (and_block 8 (bit_and (bit_xor (bit_and x l + s) (bit_and x l + t)) h) (bit_xor x h) (bit_and (bit_xor (r + 63) (r + 37)) 128) (bit_xor b 128) i j)

four : (a b c d : ℕ) → b < 256 → c < 256 → d < 256
    → capitals 2139062143 1061109567 623191333 2155905152 (((a * 256 + b) * 256 + c) * 256 + d) ≡ ((capital a * 256 + capital b) * 256 + capital c) * 256 + capital d
four a b c d lb lc ld =
    one_more 8355711 4144959 2434341 8421504 ((a * 256 + b) * 256 + c) d ld
    ∙ rw (one_more 32639 16191 9509 32896 (a * 256 + b) c lc, one_more 127 63 37 128 a b lb) refl

-- what is found in a byte is four times what takes it to the small letter
letter_test : ℕ → Bool
letter_test b = eqb (lower b) (b + capital b / 4) && eqb (capital b) (4 * (capital b / 4))

letter-all : every 256 letter_test ≡ true
unfolding letter_test lower
letter-all = refl

letter : (b : ℕ) → b < 256 → (lower b ≡ b + capital b / 4) × (capital b ≡ 4 * (capital b / 4))
unfolding letter_test
letter b h =
    let t = and-true (eqb (lower b) (b + capital b / 4)) (eqb (capital b) (4 * (capital b / 4))) (every-at 256 letter_test letter-all b h) in
    (eqb-true _ _ t.0, eqb-true _ _ t.1)

-- all four bytes of a word
pub lower-at-once : (x : ℕ) → x < 4294967296 → x + capitals 2139062143 1061109567 623191333 2155905152 x / 4 ≡ lower_word x
unfolding lower_word
lower-at-once x h =
    let a = x / 16777216 in
    let b = x / 65536 % 256 in
    let c = x / 256 % 256 in
    let d = x % 256 in
    let A = letter a (omega arith) in
    let B = letter b (omega arith) in
    let C = letter c (omega arith) in
    let D = letter d (omega arith) in
    let e : ((a * 256 + b) * 256 + c) * 256 + d ≡ x = omega arith in
    rw (rw e at (four a b c d (omega arith) (omega arith) (omega arith))) (omega (arith, A.0, A.1, B.0, B.1, C.0, C.1, D.0, D.1))

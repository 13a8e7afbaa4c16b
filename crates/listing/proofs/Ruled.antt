-- What is read of a name or a file obeys the rules for names and contents.
use mathlib.Core.Bool.{Bool, ◌&&◌, cond, false, false≢true, not, true}
use mathlib.Core.List.{List, [], ◌∷◌}
use mathlib.Core.Path.{◌∙◌, ◌≡◌, ap, refl, sym}
use native.Mathlib.Omega.{arith}
use lib.Dec.{eqb, leb, ltb}
use lib.ListN.{get_or, length}
use Prim.Native.Nat.{ℕ, suc, zero, ◌*◌, ◌+◌, ◌<◌}
use borrow.Author.Tests.{leb-true, ltb-true}
use Rattle.tree.specs.Rules.{ContentRule, NameRule, Words32, good_name}
use Rattle.tree.proofs.Same.{and-true, both_true}
use Rattle.listing.specs.Bytes.{among, class_of, digit_value, within}
use Rattle.listing.specs.Names.{decode, decode_from, is_name, name_of, octal, packed, quad, spelt_as}
use Rattle.listing.specs.Values.{content_of, digest_of, digits, hex_bytes, is_digest, is_size, size_of}
use Rattle.listing.specs.declared.Class.{Class}
use Rattle.listing.specs.declared.Class.TheVariants.{Plain, Escape, Blank, LineEnd, Hash, Mark, Refused}
use Rattle.listing.proofs.Spelling.{Small, is_plain}

-- a test that did not lead to Plain leaves the next
past : (t : Bool) (x y : Class) → is_plain x ≡ false → cond t x y ≡ Plain → y ≡ Plain
past true x y n e = absurd (false≢true (sym n ∙ ap is_plain e))
past false x y n e = e

in-range : (t : Bool) → cond t Plain Refused ≡ Plain → t ≡ true
in-range true e = refl
in-range false e = absurd (false≢true (ap is_plain e))

plain-small : (b : ℕ) → class_of b ≡ Plain → b < 256
unfolding class_of
plain-small b e =
    let e1 = past (eqb b 10) LineEnd _ refl e in
    let e2 = past (among b (9 ∷ 32 ∷ [])) Blank _ refl e1 in
    let e3 = past (eqb b 92) Escape _ refl e2 in
    let e4 = past (eqb b 35) Hash _ refl e3 in
    let e5 = past (among b (42 ∷ 47 ∷ 63 ∷ 91 ∷ [])) Mark _ refl e4 in
    let q = and-true (leb 33 b) (leb b 126) (in-range (within 33 126 b) e5) in
    omega (arith, leb-true b 126 q.1)

octal-small : (a b c : ℕ) → octal a b c < 256
octal-small a b c = go (leb a 3 && leb b 7 && leb c 7) (not (eqb (64 * a + 8 * b + c) 47)) refl
  where
    go : (t u : Bool) → leb a 3 && leb b 7 && leb c 7 ≡ t → cond (t && u) (64 * a + 8 * b + c) 0 < 256
    go true true e =
        let q = and-true (leb a 3 && leb b 7) (leb c 7) e in
        let r = and-true (leb a 3) (leb b 7) q.0 in
        omega (arith, leb-true a 3 r.0, leb-true b 7 r.1, leb-true c 7 q.1)
    go true false e = omega arith
    go false u e = omega arith

spelt-small : (c : Class) (b : ℕ) (bs : List ℕ) → class_of b ≡ c → spelt_as c b bs < 256
spelt-small Plain b bs e = plain-small b e
spelt-small Escape b bs e = octal-small (digit_value (get_or bs 0 0)) (digit_value (get_or bs 1 0)) (digit_value (get_or bs 2 0))
spelt-small Blank b bs e = omega arith
spelt-small LineEnd b bs e = omega arith
spelt-small Hash b bs e = omega arith
spelt-small Mark b bs e = omega arith
spelt-small Refused b bs e = omega arith

pub decode-small : (k : ℕ) (w : List ℕ) → Small (decode_from k w)
unfolding Small decode_from
decode-small zero [] = tt
decode-small (suc k) [] = tt
decode-small (suc k) (b ∷ bs) = decode-small k bs
decode-small zero (b ∷ bs) = (spelt-small (class_of b) b bs refl, decode-small (cond (eqb b 92) 3 0) bs)

pub small_at : (l : List ℕ) → Small l → (i : ℕ) → get_or l i 0 < 256
unfolding Small
small_at [] s i = omega arith
small_at (b ∷ bs) s zero = s.0
small_at (b ∷ bs) s (suc i) = small_at bs s.1 i

quad-small : (l : List ℕ) → Small l → (i : ℕ) → quad l i < 4294967296
quad-small l s i = omega (arith, small_at l s i, small_at l s (i + 1), small_at l s (i + 2), small_at l s (i + 3))

packed-small : (l : List ℕ) → Small l → Words32 (packed l)
unfolding packed Words32
packed-small l s =
    let q = quad-small l s in
    (q 0, (q 4, (q 8, (q 12, (q 16, (q 20, (q 24, (q 28, tt))))))))

pub name-rule : (w : List ℕ) → is_name w ≡ true → NameRule (name_of w)
unfolding is_name packed
name-rule w h =
    record { eight = refl; small = packed-small (decode w) (decode-small 0 w); good = (and-true (not (among 0 (decode w)) && leb (length (decode w)) 32) (good_name (name_of w)) h).1 }

hex-small : (v : List ℕ) → digits 16 v ≡ true → Small (hex_bytes v)
unfolding Small hex_bytes digits
hex-small [] h = tt
hex-small (a ∷ []) h = tt
hex-small (a ∷ b ∷ bs) h =
    let p = both_true (ltb (digit_value a) 16) _ h in
    let q = both_true (ltb (digit_value b) 16) _ p.1 in
    (omega (arith, ltb-true (digit_value a) 16 p.0, ltb-true (digit_value b) 16 q.0), hex-small bs q.1)

pub content-rule : (s d : List ℕ) → is_size s ≡ true → is_digest d ≡ true → ContentRule (content_of (size_of s) (digest_of d))
unfolding is_size is_digest packed Words32
content-rule s d p q =
    let n = leb-true (size_of s) 18446744073709551615 (and-true (leb 1 (length s) && leb (length s) 20 && digits 10 s) _ p).1 in
    record { eleven = refl; small = (omega arith, (omega arith, (omega arith, packed-small (hex_bytes d) (hex-small d (and-true (eqb (length d) 64) (digits 16 d) q).1)))); kind = refl }

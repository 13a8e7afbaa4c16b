-- A name that is spelled and read again: each byte, the bytes up to the first zero, and the words.
use mathlib.Core.Bool.{Bool, ◌&&◌, cond, false, not, true, false≢true}
use mathlib.Core.List.{List, [], ◌++◌, ◌∷◌}
use mathlib.Core.Path.{◌∙◌, ◌≡◌, ap, refl, sym}
use native.Mathlib.Omega.{arith}
use lib.Dec.{eqb}
use lib.ListN.{get_or, length}
use Prim.Native.Nat.{ℕ, zero, suc, ◌%◌, ◌*◌, ◌+◌, ◌/◌, ◌<◌, ◌≤◌}
use borrow.Author.Tests.{eqb-false, eqb-true, le-leb, ne_eqb, not-true}
use Rattle.tree.specs.Name.{Name}
use Rattle.tree.specs.Rules.{NameRule, Words32, bytes, good_name, zero_filled, zeros}
use Rattle.tree.proofs.Same.{and-true}
use Rattle.tree.proofs.Rules.{length-bytes}
use Rattle.listing.specs.Bytes.{among, class_of, digit_value}
use Rattle.listing.specs.Names.{decode, decode_from, is_name, name_of, octal, packed}
use Rattle.listing.specs.Writing.{as_it_is, name_text, spell, spell_byte}
use Rattle.listing.specs.declared.Class.{Class}
use Rattle.listing.specs.declared.Class.TheVariants.{Plain, Escape, Blank, LineEnd, Hash, Mark, Refused}
use Rattle.tree.proofs.Every.{every, every-at}

abbrev pub is_plain : Class → Bool
is_plain Plain = true
is_plain Escape = false
is_plain Blank = false
is_plain LineEnd = false
is_plain Hash = false
is_plain Mark = false
is_plain Refused = false

pub is-plain : (c : Class) → is_plain c ≡ true → c ≡ Plain
is-plain Plain e = refl
is-plain Escape e = absurd (false≢true e)
is-plain Blank e = absurd (false≢true e)
is-plain LineEnd e = absurd (false≢true e)
is-plain Hash e = absurd (false≢true e)
is-plain Mark e = absurd (false≢true e)
is-plain Refused e = absurd (false≢true e)

-- a byte that is written as it is reads as itself
plain_test : ℕ → Bool
plain_test b = cond (as_it_is b) (is_plain (class_of b) && not (eqb b 92)) true

-- and one that is escaped too
octal_of : ℕ → ℕ
octal_of b = octal (digit_value (48 + b / 64)) (digit_value (48 + b / 8 % 8)) (digit_value (48 + b % 8))

octal_test : ℕ → Bool
octal_test b = cond (eqb b 47) true (eqb (octal_of b) b)

plain-all : every 256 plain_test ≡ true
unfolding plain_test as_it_is class_of
plain-all = refl

octal-all : every 256 octal_test ≡ true
unfolding octal_test octal_of digit_value
octal-all = refl

spelt-plain : (b : ℕ) (rest : List ℕ) → class_of b ≡ Plain → eqb b 92 ≡ false → decode (b ∷ rest) ≡ b ∷ decode rest
unfolding decode_from
spelt-plain b rest e d = rw (e, d)

spelt-octal : (b : ℕ) (rest : List ℕ) → octal_of b ≡ b → decode (92 ∷ (48 + b / 64) ∷ (48 + b / 8 % 8) ∷ (48 + b % 8) ∷ rest) ≡ b ∷ decode rest
unfolding decode_from class_of octal_of
spelt-octal b rest e = ap (λ (x : ℕ). x ∷ decode rest) e

pub plain_byte : (b : ℕ) → b < 256 → as_it_is b ≡ true → is_plain (class_of b) && not (eqb b 92) ≡ true
unfolding plain_test
plain_byte b lt e = rw e at (every-at 256 plain_test plain-all b lt)

spelt : (b : ℕ) (rest : List ℕ) → b < 256 → eqb b 47 ≡ false → decode (spell_byte b ++ rest) ≡ b ∷ decode rest
unfolding spell_byte octal_test
spelt b rest lt n = go (as_it_is b) refl (plain_byte b lt) (every-at 256 octal_test octal-all b lt)
  where
    go : (t : Bool) → as_it_is b ≡ t → (as_it_is b ≡ true → is_plain (class_of b) && not (eqb b 92) ≡ true) → octal_test b ≡ true
        → decode (cond t (b ∷ []) (92 ∷ (48 + b / 64) ∷ (48 + b / 8 % 8) ∷ (48 + b % 8) ∷ []) ++ rest) ≡ b ∷ decode rest
    go true e p o =
        let q = and-true (is_plain (class_of b)) (not (eqb b 92)) (p e) in
        spelt-plain b rest (is-plain (class_of b) q.0) (not-true (eqb b 92) q.1)
    go false e p o = spelt-octal b rest (eqb-true (octal_of b) b (rw n at o))

-- the bytes before the first zero
unfoldable pub up_to : List ℕ → List ℕ
up_to [] = []
up_to (b ∷ bs) = cond (eqb b 0) [] (b ∷ up_to bs)

-- all are bytes
unfoldable pub Small : List ℕ → Type 0
Small [] = Unit {0}
Small (b ∷ bs) = (b < 256) × Small bs

decode-nil : decode [] ≡ []
unfolding decode_from
decode-nil = refl

decode-spell : (bs : List ℕ) → Small bs → zero_filled bs ≡ true → decode (spell bs) ≡ up_to bs
unfolding Small zero_filled spell up_to
decode-spell [] s z = decode-nil
decode-spell (b ∷ bs) s z = go (eqb b 0) (eqb b 47) refl z (decode-spell bs s.1)
  where
    go : (t u : Bool) → eqb b 47 ≡ u → cond t (zeros bs) (cond u false (zero_filled bs)) ≡ true → (zero_filled bs ≡ true → decode (spell bs) ≡ up_to bs)
        → decode (cond t [] (spell_byte b ++ spell bs)) ≡ cond t [] (b ∷ up_to bs)
    go true u e h k = decode-nil
    go false true e h k = absurd (false≢true h)
    go false false e h k = spelt b (spell bs) s.0 e ∙ ap (λ (l : List ℕ). b ∷ l) (k h)

no_zero : (bs : List ℕ) → among 0 (up_to bs) ≡ false
unfolding up_to
no_zero [] = refl
no_zero (b ∷ bs) = go (eqb b 0) refl (no_zero bs)
  where
    go : (t : Bool) → eqb b 0 ≡ t → among 0 (up_to bs) ≡ false → among 0 (cond t [] (b ∷ up_to bs)) ≡ false
    go true e h = refl
    go false e h = rw (ne_eqb 0 b (λ q. eqb-false b 0 e (sym q))) h

up-to-length : (bs : List ℕ) → length (up_to bs) ≤ length bs
unfolding up_to
up-to-length [] = omega arith
up-to-length (b ∷ bs) = go (eqb b 0) (up-to-length bs)
  where
    go : (t : Bool) → length (up_to bs) ≤ length bs → length (cond t [] (b ∷ up_to bs)) ≤ suc (length bs)
    go true h = omega arith
    go false h = omega arith

zeros-at : (bs : List ℕ) → zeros bs ≡ true → (i : ℕ) → get_or bs i 0 ≡ 0
unfolding zeros
zeros-at [] z i = refl
zeros-at (b ∷ bs) z i = go (eqb b 0) refl z i (zeros-at bs)
  where
    go : (t : Bool) → eqb b 0 ≡ t → cond t (zeros bs) false ≡ true → (i : ℕ) → (zeros bs ≡ true → (j : ℕ) → get_or bs j 0 ≡ 0) → get_or (b ∷ bs) i 0 ≡ 0
    go true e h zero k = eqb-true b 0 e
    go true e h (suc j) k = k h j
    go false e h j k = absurd (false≢true h)

-- what is cut off is zero
up-to-at : (bs : List ℕ) → zero_filled bs ≡ true → (i : ℕ) → get_or (up_to bs) i 0 ≡ get_or bs i 0
unfolding up_to zero_filled
up-to-at [] z i = refl
up-to-at (b ∷ bs) z i = go (eqb b 0) refl z i (up-to-at bs)
  where
    go : (t : Bool) → eqb b 0 ≡ t → cond t (zeros bs) (cond (eqb b 47) false (zero_filled bs)) ≡ true → (i : ℕ)
        → (zero_filled bs ≡ true → (j : ℕ) → get_or (up_to bs) j 0 ≡ get_or bs j 0) → get_or (cond t [] (b ∷ up_to bs)) i 0 ≡ get_or (b ∷ bs) i 0
    go true e h zero k = sym (eqb-true b 0 e)
    go true e h (suc j) k = sym (zeros-at bs h j)
    go false e h zero k = refl
    go false e h (suc j) k = k (tail (eqb b 47) h) j
      where
        tail : (u : Bool) → cond u false (zero_filled bs) ≡ true → zero_filled bs ≡ true
        tail true q = absurd (false≢true q)
        tail false q = q

pub packed-same : (a b : List ℕ) → ((i : ℕ) → get_or a i 0 ≡ get_or b i 0) → packed a ≡ packed b
unfolding packed
packed-same a b h = simp h

quad-of : (x : ℕ) → x < 4294967296 → 16777216 * (x / 16777216) + 65536 * (x / 65536 % 256) + 256 * (x / 256 % 256) + x % 256 ≡ x
quad-of x h = omega arith

pub packed-bytes : (n : List ℕ) → length n ≡ 8 → Words32 n → packed (bytes n) ≡ n
unfolding packed bytes Words32
packed-bytes [] e w = absurd (omega arith)
packed-bytes (a ∷ []) e w = absurd (omega arith)
packed-bytes (a ∷ b ∷ []) e w = absurd (omega arith)
packed-bytes (a ∷ b ∷ c ∷ []) e w = absurd (omega arith)
packed-bytes (a ∷ b ∷ c ∷ d ∷ []) e w = absurd (omega arith)
packed-bytes (a ∷ b ∷ c ∷ d ∷ f ∷ []) e w = absurd (omega arith)
packed-bytes (a ∷ b ∷ c ∷ d ∷ f ∷ g ∷ []) e w = absurd (omega arith)
packed-bytes (a ∷ b ∷ c ∷ d ∷ f ∷ g ∷ h ∷ []) e w = absurd (omega arith)
packed-bytes (a ∷ b ∷ c ∷ d ∷ f ∷ g ∷ h ∷ i ∷ []) e w =
    simp (quad-of, w.0, w.1.0, w.1.1.0, w.1.1.1.0, w.1.1.1.1.0, w.1.1.1.1.1.0, w.1.1.1.1.1.1.0, w.1.1.1.1.1.1.1.0)
packed-bytes (a ∷ b ∷ c ∷ d ∷ f ∷ g ∷ h ∷ i ∷ j ∷ l) e w = absurd (omega arith)

pub bytes_small : (ws : List ℕ) → Words32 ws → Small (bytes ws)
unfolding Small bytes Words32
bytes_small [] w = tt
bytes_small (x ∷ xs) w =
    let h = w.0 in (omega arith, (omega arith, (omega arith, (omega arith, bytes_small xs w.1))))

-- what the rules for names give: the word reads as the name
module _ (n : Name) (rule : NameRule n) where
  filled : zero_filled (bytes n) ≡ true
  unfolding good_name
  filled = go (eqb (get_or n 0 0) 0) (eqb (get_or n 0 0) 0x2E000000) (eqb (get_or n 0 0) 0x2E2E0000) rule.good
    where
      go : (t u v : Bool) → cond t false (cond u false (cond v false (zero_filled (bytes n)))) ≡ true → zero_filled (bytes n) ≡ true
      go true u v h = absurd (false≢true h)
      go false true v h = absurd (false≢true h)
      go false false true h = absurd (false≢true h)
      go false false false h = h

  decoded : decode (name_text n) ≡ up_to (bytes n)
  decoded = decode-spell (bytes n) (bytes_small n rule.small) filled

  pub name_back : name_of (name_text n) ≡ n
  name_back = ap packed decoded ∙ packed-same (up_to (bytes n)) (bytes n) (up-to-at (bytes n) filled) ∙ packed-bytes n rule.eight rule.small

  pub is_name-text : is_name (name_text n) ≡ true
  unfolding is_name
  is_name-text =
      let h : length (up_to (bytes n)) ≤ 32 = omega (arith, up-to-length (bytes n), length-bytes n, rule.eight) in
      rw (decoded, no_zero (bytes n), le-leb _ 32 h, ← decoded, name_back, rule.good)

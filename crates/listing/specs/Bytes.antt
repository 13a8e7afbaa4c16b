-- Bytes: quoted text as bytes, the class of a byte, the values of digits.
use Rattle.std.specs.Prelude.{◌≡◌, List, [], ◌∷◌, Bool, true, false, cond, ◌&&◌, leb, eqb, ℕ, ◌-◌, ◌≤◌}
use Prim.Native.Char.{code}
use Prim.Native.String.{String}
use Rattle.listing.specs.declared.Class.{Class}
use Rattle.listing.specs.declared.Class.TheVariants.{Plain, Escape, Blank, LineEnd, Hash, Mark, Refused}
use Prim.Native.String

-- the bytes of a text in quotes
abbrev pub text : String → List ℕ
text String.[] = []
text (String.◌∷◌ c s) = code c ∷ text s

-- one of the numbers
abbrev pub among : ℕ → List ℕ → Bool
among b [] = false
among b (x ∷ xs) = cond (eqb b x) true (among b xs)

-- low to high, both included
abbrev pub within : ℕ → ℕ → ℕ → Bool
within low high b = leb low b && leb b high

-- plain name bytes are 33 to 126 but # \ / * ? [; Hash starts a comment, Mark is good outside names only
unfoldable pub class_of : ℕ → Class
class_of b =
    cond (eqb b 10) LineEnd
    (cond (among b (9 ∷ 32 ∷ [])) Blank
    (cond (eqb b 92) Escape
    (cond (eqb b 35) Hash
    (cond (among b (42 ∷ 47 ∷ 63 ∷ 91 ∷ [])) Mark
    (cond (within 33 126 b) Plain Refused)))))

-- the value of a digit: decimal, octal, or hex of either case; 16 where it is none
unfoldable pub digit_value : ℕ → ℕ
digit_value b = cond (within 48 57 b) (b - 48) (cond (within 65 70 b) (b - 55) (cond (within 97 102 b) (b - 87) 16))

-- what the digits' match answers: the value, and a bound
pub record Digit (b r : ℕ) : Type 0 where
  pub value : r ≡ digit_value b
  pub small : r ≤ 16

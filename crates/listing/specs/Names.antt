-- What a word says as a name.
use Rattle.std.specs.Prelude.{List, [], ◌∷◌, Bool, not, cond, ◌&&◌, length, get_or, leb, eqb, ℕ, zero, suc, ◌+◌, ◌*◌}
use Rattle.tree.specs.Name.{Name}
use Rattle.tree.specs.Rules.{good_name}
use Rattle.listing.specs.Bytes.{among, class_of, digit_value}
use Rattle.listing.specs.declared.Class.{Class}
use Rattle.listing.specs.declared.Class.TheVariants.{Plain, Escape, Blank, LineEnd, Hash, Mark, Refused}

-- the byte that three octal values say, 1 to 255 but 47; else 0
abbrev pub octal : ℕ → ℕ → ℕ → ℕ
octal a b c =
    cond (leb a 3 && leb b 7 && leb c 7 && not (eqb (64 * a + 8 * b + c) 47)) (64 * a + 8 * b + c) 0

-- the byte that a byte of this class, with those after it, spells; a bad spot spells 0
abbrev pub spelt_as : Class → ℕ → List ℕ → ℕ
spelt_as Plain b bs = b
spelt_as Escape b bs = octal (digit_value (get_or bs 0 0)) (digit_value (get_or bs 1 0)) (digit_value (get_or bs 2 0))
spelt_as Blank b bs = 0
spelt_as LineEnd b bs = 0
spelt_as Hash b bs = 0
spelt_as Mark b bs = 0
spelt_as Refused b bs = 0

-- the bytes that a word spells, past k bytes of an escape already taken
unfoldable pub decode_from : ℕ → List ℕ → List ℕ
decode_from k [] = []
decode_from (suc k) (b ∷ bs) = decode_from k bs
decode_from zero (b ∷ bs) = spelt_as (class_of b) b bs ∷ decode_from (cond (eqb b 92) 3 0) bs

-- all the bytes that a word spells
abbrev pub decode : List ℕ → List ℕ
decode w = decode_from 0 w

-- four bytes from place i on as a word, first byte highest
abbrev pub quad : List ℕ → ℕ → ℕ
quad l i = 16777216 * get_or l i 0 + 65536 * get_or l (i + 1) 0 + 256 * get_or l (i + 2) 0 + get_or l (i + 3) 0

-- bytes as eight words, zero filled
unfoldable pub packed : List ℕ → List ℕ
packed l = quad l 0 ∷ quad l 4 ∷ quad l 8 ∷ quad l 12 ∷ quad l 16 ∷ quad l 20 ∷ quad l 24 ∷ quad l 28 ∷ []

-- the name that a word spells
abbrev pub name_of : List ℕ → Name
name_of w = packed (decode w)

-- no bad spot, at most 32 bytes, and a name that a table may hold
unfoldable pub is_name : List ℕ → Bool
is_name w = not (among 0 (decode w)) && leb (length (decode w)) 32 && good_name (name_of w)

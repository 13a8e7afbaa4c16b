-- What a file's keywords say: a size and a digest.
use Rattle.std.specs.Prelude.{List, [], ◌∷◌, Bool, true, false, cond, ◌&&◌, length, ltb, leb, eqb, ℕ, ◌+◌, ◌*◌, ◌/◌, ◌%◌}
use Rattle.tree.specs.Forest.{Content}
use Rattle.listing.specs.Bytes.{digit_value}
use Rattle.listing.specs.Names.{packed}

-- every byte is a digit of the base
unfoldable pub digits : ℕ → List ℕ → Bool
digits base [] = true
digits base (b ∷ bs) = cond (ltb (digit_value b) base) (digits base bs) false

-- the number that decimal digits say, v before them
unfoldable pub decimal_from : ℕ → List ℕ → ℕ
decimal_from v [] = v
decimal_from v (b ∷ bs) = decimal_from (10 * v + digit_value b) bs

-- the number that a size says
abbrev pub size_of : List ℕ → ℕ
size_of v = decimal_from 0 v

-- 1 to 20 decimal digits, at most 2^64 - 1
unfoldable pub is_size : List ℕ → Bool
is_size v = leb 1 (length v) && leb (length v) 20 && digits 10 v && leb (size_of v) 18446744073709551615

-- two hex digits to a byte
unfoldable pub hex_bytes : List ℕ → List ℕ
hex_bytes [] = []
hex_bytes (a ∷ []) = []
hex_bytes (a ∷ b ∷ bs) = (16 * digit_value a + digit_value b) ∷ hex_bytes bs

-- the eight words that a digest says
abbrev pub digest_of : List ℕ → List ℕ
digest_of v = packed (hex_bytes v)

-- 64 hex digits, either case
unfoldable pub is_digest : List ℕ → Bool
is_digest v = eqb (length v) 64 && digits 16 v

-- a file's kind, its size, high word then low, and its digest
abbrev pub content_of : ℕ → List ℕ → Content
content_of n d = 1 ∷ n / 4294967296 ∷ n % 4294967296 ∷ d

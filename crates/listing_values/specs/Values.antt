-- What reading a value hands back: its words, if it is good.
use Rattle.std.specs.Prelude.{◌≡◌, List, [], ◌∷◌, Bool, true, false, cond, ltb, ℕ, ◌+◌, ◌*◌, ◌/◌, ◌%◌, Option, Some, None}
use Rattle.listing.specs.Values.{digits, size_of, is_size, hex_bytes, digest_of, is_digest}
use Rattle.listing_values.specs.declared.Size.{Size}

-- a size, its high word and its low one
abbrev pub IsSize : List ℕ → Option Size → Type 0
IsSize v (Some s) = (is_size v ≡ true) × (s.high ≡ size_of v / 4294967296) × (s.low ≡ size_of v % 4294967296)
IsSize v None = is_size v ≡ false

-- every value is a digit's of the base
unfoldable pub all_below : ℕ → List ℕ → Bool
all_below base [] = true
all_below base (d ∷ ds) = cond (ltb d base) (all_below base ds) false

-- two values of hex digits to a byte
unfoldable pub pairs : List ℕ → List ℕ
pairs [] = []
pairs (a ∷ []) = []
pairs (a ∷ b ∷ ds) = (16 * a + b) ∷ pairs ds

-- two hex digits to a byte
abbrev pub IsHex : List ℕ → Option (List ℕ) → Type 0
IsHex v (Some b) = (digits 16 v ≡ true) × (b ≡ hex_bytes v)
IsHex v None = digits 16 v ≡ false

-- a digest
abbrev pub IsDigest : List ℕ → Option (List ℕ) → Type 0
IsDigest v (Some w) = (is_digest v ≡ true) × (w ≡ digest_of v)
IsDigest v None = is_digest v ≡ false

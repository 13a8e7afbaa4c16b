-- What reading a name hands back: its bytes or its words, if it is good.
use Rattle.std.specs.Prelude.{◌≡◌, List, Bool, true, false, not, ◌&&◌, leb, length, ℕ, ◌≤◌, ◌<◌, Option, Some, None}
use Rattle.listing.specs.Bytes.{among}
use Rattle.listing.specs.Names.{decode, packed, name_of, is_name}

-- no bad spot, and at most 32 bytes
unfoldable pub fits : List ℕ → Bool
fits w = not (among 0 (decode w)) && leb (length (decode w)) 32

-- a digit of this value, if it is an octal one
abbrev pub IsOctal : ℕ → Option ℕ → Type 0
IsOctal n (Some v) = (v ≡ n) × (v ≤ 7)
IsOctal n None = 7 < n

-- a byte that is spelt, if it is no bad spot
abbrev pub IsByte : ℕ → Option ℕ → Type 0
IsByte n (Some v) = (v ≡ n) × (0 < v)
IsByte n None = n ≡ 0

-- the bytes that a word spells, as far as a name's words tell
abbrev pub IsSpelt : List ℕ → Option (List ℕ) → Type 0
IsSpelt w (Some b) = (fits w ≡ true) × (packed b ≡ name_of w)
IsSpelt w None = fits w ≡ false

-- the name that a word spells
abbrev pub IsName : List ℕ → Option (List ℕ) → Type 0
IsName w (Some n) = (is_name w ≡ true) × (n ≡ name_of w)
IsName w None = is_name w ≡ false

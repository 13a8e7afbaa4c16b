-- Words of a name looked at whole.
use Rattle.std.specs.Prelude.{Bool, cond, ◌&&◌, not, eqb, ℕ, ◌+◌, ◌/◌, ◌%◌}

-- a byte whose lower seven bits are neither 0 nor 47: so it is neither
abbrev pub plain_byte : ℕ → Bool
plain_byte b = not (eqb (b % 128) 0) && not (eqb (b % 128) 47)

-- a word of four of them
unfoldable pub plain_word : ℕ → Bool
plain_word x = plain_byte (x / 16777216) && plain_byte (x / 65536 % 256) && plain_byte (x / 256 % 256) && plain_byte (x % 256)

-- a word with its last zero bytes made 97
unfoldable pub filled_word : ℕ → ℕ
filled_word x =
    cond (eqb (x % 256) 0)
    (cond (eqb (x % 65536) 0) (cond (eqb (x % 16777216) 0) (cond (eqb x 0) 1633771873 (x + 6381921)) (x + 24929)) (x + 97))
    x

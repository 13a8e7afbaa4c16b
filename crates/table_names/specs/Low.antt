-- A part of the check's own contracts: a word's last bytes.
use Rattle.std.specs.Prelude.{cond, eqb, ℕ, ◌%◌}

-- the bytes of a word from byte j on, as a number
unfoldable pub low_bytes : ℕ → ℕ → ℕ
low_bytes x j = cond (eqb j 0) x (cond (eqb j 1) (x % 16777216) (cond (eqb j 2) (x % 65536) (x % 256)))

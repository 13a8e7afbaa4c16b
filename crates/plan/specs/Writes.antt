-- What a function that writes words into a lent buffer answers and leaves there.
use Rattle.std.specs.Prelude.{◌≡◌, List, length, ℕ, ◌+◌}
use Rattle.table_row.specs.Buffer.{written, over}

-- the words s at place at of d, which is e then; q is the place behind them
pub record Writes (d : List ℕ) (at : ℕ) (s e : List ℕ) (q : ℕ) : Type 0 where
  pub next : q ≡ at + length s
  pub words : e ≡ written d at s

-- the words s at the start of d, which is e then; n is how many they are
pub record Fills (d s e : List ℕ) (n : ℕ) : Type 0 where
  pub count : n ≡ length s
  pub words : e ≡ over d s

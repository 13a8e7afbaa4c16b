-- Bytes that are passed sixteen at a time.
use Rattle.std.specs.Prelude.{◌≡◌, List, length, get_or, ℕ, ◌≤◌, ◌<◌}

-- from least to 126, and no backslash
pub record PlainFrom (least b : ℕ) : Type 0 where
  pub low : least ≤ b
  pub high : b ≤ 126
  pub solid : b ≡ 92 → ⊥

-- a place from another on, with such bytes alone between them
pub record Past (least : ℕ) (l : List ℕ) (from r : ℕ) : Type 0 where
  pub low : from ≤ r
  pub fits : r ≤ length l
  pub plain : (i : ℕ) → from ≤ i → i < r → PlainFrom least (get_or l i 0)

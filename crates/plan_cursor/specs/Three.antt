-- What is asked of three tables that are looked at together.
use Rattle.std.specs.Prelude.{◌≡◌, List, length, ℕ, ◌%◌, ◌≤◌}

-- three tables of whole rows, 4,096 at most
pub record Three (o l r : List ℕ) : Type 0 where
  pub o-small : length o ≤ 81920
  pub l-small : length l ≤ 81920
  pub r_small : length r ≤ 81920
  pub o-whole : length o % 20 ≡ 0
  pub l-whole : length l % 20 ≡ 0
  pub r-whole : length r % 20 ≡ 0

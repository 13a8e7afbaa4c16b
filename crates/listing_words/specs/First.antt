-- What taking a word off a line hands back.
use Rattle.std.specs.Prelude.{◌≡◌, List, length, take, drop, ℕ, ◌+◌, ◌-◌, ◌≤◌, ◌<◌, Option, Some, None}
use Rattle.std.specs.Borrow.{Bor}
use Rattle.listing.specs.Words.{span}
use Rattle.listing_scan.specs.Places.{skip}

-- a line's first word, and what is left after it
pub record First (l word left : List ℕ) : Type 0 where
  pub start : ℕ
  pub end : ℕ
  pub begins : start ≡ skip l
  pub ends : end ≡ start + span (drop start l)
  pub some : start < length l
  pub is : word ≡ take (end - start) (drop start l)
  pub past : left ≡ drop end l

-- the same, if there is a word
abbrev pub IsFirst : List ℕ → Option (Bor (List ℕ) × Bor (List ℕ)) → Type 0
IsFirst l (Some (word, left)) = First l word.now left.now
IsFirst l None = length l ≤ skip l

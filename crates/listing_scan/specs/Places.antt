-- What is counted in a text besides lines and words: the blanks before a word, and LFs.
use Rattle.std.specs.Prelude.{◌≡◌, List, [], ◌∷◌, Bool, true, false, cond, eqb, length, ℕ, suc, ◌≤◌}
use Rattle.std.specs.Bool.{beq}
use Rattle.listing.specs.Words.{blank}
use Rattle.listing.specs.declared.Mode.{Mode}
use Rattle.listing.specs.declared.Mode.TheVariants.{Lead, LeadBack, Body, BodyBack, Comment, Done}

-- how many bytes a text begins with that part words, or that do not
unfoldable pub stretch : Bool → List ℕ → ℕ
stretch blanks [] = 0
stretch blanks (b ∷ bs) = cond (beq (blank b bs) blanks) (suc (stretch blanks bs)) 0

-- the blanks before the first other byte
abbrev pub skip : List ℕ → ℕ
skip l = stretch true l

-- the physical lines that end in a part
unfoldable pub line_ends : List ℕ → ℕ
line_ends [] = 0
line_ends (b ∷ bs) = cond (eqb b 10) (suc (line_ends bs)) (line_ends bs)

-- a word has begun, and no backslash stands right before
abbrev pub is_body : Mode → Bool
is_body Body = true
is_body Lead = false
is_body LeadBack = false
is_body BodyBack = false
is_body Comment = false
is_body Done = false

-- a number of bytes, at most all
pub record Counted (l : List ℕ) (n r : ℕ) : Type 0 where
  pub is : r ≡ n
  pub fits : r ≤ length l

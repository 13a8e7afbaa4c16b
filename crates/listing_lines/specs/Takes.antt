-- What a function does for a line: as the definitions have it, whatever state struct and table stand for; in every profile,
-- where no entry is matched.
use Rattle.std.specs.Prelude.{List, ◌≡◌, cond, eqb, length, get_or, ℕ, Result}
use Rattle.tree.specs.Same.{same_words}
use Rattle.tree.specs.declared.Profile.{Profile}
use Rattle.listing.specs.Bytes.{text}
use Rattle.listing.specs.Words.{Words}
use Rattle.listing.specs.Reading.{State, Step, close_line, entry_line, most_rows, root_line, slash_line}
use Rattle.listing.specs.Accepted.{GoodState}
use Rattle.listing_reader.specs.declared.Reader.{Reader}
use Rattle.listing_reader.specs.State.{Reads}
use Rattle.listing_reader.specs.Does.{Did}

-- a line that leaves the table
pub record Alters (g : State → Step) (s : Reader) (r : Result Reader ℕ) : Type 0 where
  pub does : (p : Profile) (most : ℕ) (w : List ℕ) (t : State) → GoodState p most t → Reads p w s t → Did p (g t) w r

-- a line that may put a row into the table w
pub record Takes (p : Profile) (g : ℕ → State → Step) (w : List ℕ) (s : Reader) (after : List ℕ) (r : Result Reader ℕ) : Type 0 where
  pub does : (t : State) → GoodState p (most_rows (length w)) t → Reads p w s t → Did p (g (most_rows (length w)) t) after r

-- the root's line, for a table of so many words
pub record Roots (ws : Words) (room : ℕ) (s : Reader) (r : Result Reader ℕ) : Type 0 where
  pub does : (p : Profile) (w : List ℕ) (t : State) → length w ≡ room → Reads p w s t → Did p (root_line (most_rows room) ws t) w r

-- a line whose bytes are all text, by its first word and the words after it
abbrev pub first_does : Profile → ℕ → List ℕ → Words → State → Step
first_does p most w ws s =
    cond (eqb (get_or w 0 0) 47) (slash_line w ws s)
    (cond (same_words w (text "..")) (close_line ws s)
    (cond (same_words w (text ".")) (root_line most ws s) (entry_line p most w ws s)))

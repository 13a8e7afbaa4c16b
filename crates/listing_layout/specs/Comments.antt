-- Comments and blank lines change nothing but the numbers of the lines after them.
use Rattle.std.specs.Prelude.{◌≡◌, List, [], ◌∷◌, ◌++◌, Bool, true, cond, ◌&&◌, eqb, leb, length, get_or, ℕ, ◌+◌, ◌≤◌}
use Rattle.tree.specs.declared.Profile.{Profile}
use Rattle.listing.specs.Words.{Words, words}
use Rattle.listing.specs.Reading.{Outcome, Outcome.refused, Outcome.accepted, reading}
use Rattle.listing_scan.specs.Places.{line_ends}
use Rattle.listing_layout.specs.Whole.{whole, pieces}

-- no word, or a first word that begins with #
abbrev pub silent : Words → Bool
silent [] = true
silent (w ∷ ws) = eqb (get_or w 0 0) 35

-- every line is blank or a comment
unfoldable pub all_silent : List (List ℕ) → Bool
all_silent [] = true
all_silent (l ∷ ls) = silent (words l) && all_silent ls

-- the same, but for a refusal past physical line k, which comes d physical lines later
abbrev pub later : ℕ → ℕ → Outcome → Outcome
later k d (refused n line) = refused n (cond (leb line k) line (line + d))
later k d (accepted f) = accepted f

-- whole lines c that are blank or comments, of any bytes, put between whole lines a and any text b
abbrev pub CommentsChangeNothing : Type 0
CommentsChangeNothing =
    (p : Profile) (a c b : List ℕ) (room : ℕ) → whole a ≡ true → whole c ≡ true → all_silent (pieces c) ≡ true → length (a ++ (c ++ b)) ≤ 65536
    → reading p (a ++ (c ++ b)) room ≡ later (line_ends a) (line_ends c) (reading p (a ++ b) room)

-- What a text says: the words of its lines, comments and blank lines left out. Nothing else of it is read.
use Rattle.std.specs.Prelude.{◌≡◌, List, [], ◌∷◌, true, cond, ℕ}
use Rattle.tree.specs.declared.Profile.{Profile}
use Rattle.listing.specs.Words.{Words, words}
use Rattle.listing.specs.Reading.{Outcome, Outcome.refused, Outcome.accepted, has_form, reading}
use Rattle.listing_layout.specs.Whole.{pieces}
use Rattle.listing_layout.specs.Comments.{silent}

unfoldable pub said_by : List (List ℕ) → List Words
said_by [] = []
said_by (l ∷ ls) = cond (silent (words l)) (said_by ls) (words l ∷ said_by ls)

abbrev pub said : List ℕ → List Words
said t = said_by (pieces t)

-- the same tree, or the same number, at whatever line
abbrev pub Alike : Outcome → Outcome → Type 0
Alike (refused n i) (refused m j) = n ≡ m
Alike (refused n i) (accepted g) = ⊥
Alike (accepted f) (refused m j) = ⊥
Alike (accepted f) (accepted g) = f ≡ g

-- spaces, tabs, joined lines, comments and blank lines say nothing
abbrev pub WordsDecide : Type 0
WordsDecide =
    (p : Profile) (t u : List ℕ) (room : ℕ) → has_form t ≡ true → has_form u ≡ true → said t ≡ said u → Alike (reading p t room) (reading p u room)

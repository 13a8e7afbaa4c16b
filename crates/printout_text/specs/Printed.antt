-- What syncplan prints in a profile for the texts of archive, left and right: the plan, or the first file that is refused.
use Rattle.std.specs.Prelude.{List, ◌++◌, cond, leb, length, ℕ}
use Rattle.tree.specs.Forest.{Forest}
use Rattle.tree.specs.declared.Profile.{Profile}
use Rattle.listing.specs.Bytes.{text}
use Rattle.listing.specs.Reading.{Outcome, Outcome.refused, Outcome.accepted, reading}
use Rattle.plan_text.specs.Text.{count_text}
use Rattle.plan_text.specs.Spelled.{run_text}

-- a file's text: at most 16,384 bytes, and at most 128 rows of 20 words
unfoldable pub file_read : Profile → List ℕ → Outcome
file_read p t = cond (leb (length t) 16384) (reading p t 2560) (refused 6 0)

-- which file, the number and the place
unfoldable pub refused_text : List ℕ → ℕ → ℕ → List ℕ
refused_text file n place =
    text "refused " ++ (file ++ (text " " ++ (count_text n ++ (text " " ++ (count_text place ++ text "\n")))))

-- a refused file ends the run with that one line
abbrev pub or_refused : List ℕ → Outcome → (Forest → List ℕ) → List ℕ
or_refused file (refused n place) k = refused_text file n place
or_refused file (accepted f) k = k f

-- the files are taken in order, and then the plan of the three trees is printed
unfoldable pub printed : Profile → List ℕ → List ℕ → List ℕ → List ℕ
printed p archive left right =
    or_refused (text "archive") (file_read p archive)
    (λ o. or_refused (text "left") (file_read p left) (λ l. or_refused (text "right") (file_read p right) (λ r. run_text p o l r)))

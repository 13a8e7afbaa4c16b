-- What document 01 prints for C12 and C13.
use Rattle.std.specs.Prelude.{◌≡◌, List, [], ◌∷◌, map, drop, ℕ}
use Rattle.settle.specs.Results.{outcome}
use Rattle.settle.specs.Cases.{Case, cases}
use Rattle.listing.specs.Bytes.{text}
use Rattle.plan_text.specs.Text.{plan_text}

-- the text of a case's list
abbrev pub printed : Case → List ℕ
printed c = plan_text (outcome c.archive c.left c.right).lines

-- C12 and C13 are the last two of thirteen
abbrev pub PrintedAsDocumented : Type 0
PrintedAsDocumented =
    map printed (drop 11 cases) ≡
    text "! ./L/d1\n< ./L/d2\n< ./R/d1\n= 2 0 1\n" ∷
    text "! ./L/d1\n< ./R/d1\n= 1 0 1\n" ∷
    []

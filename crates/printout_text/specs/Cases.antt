-- What is printed for the listings of C12 and C13, and for days that differ in letter case.
use Rattle.std.specs.Prelude.{◌≡◌, List, [], ◌∷◌, map, drop, ℕ}
use Rattle.tree.specs.declared.Profile.TheVariants.{Exact, Folded}
use Rattle.settle.specs.Cases.{Case, cases}
use Rattle.listing.specs.Bytes.{text}
use Rattle.listing.specs.Writing.{text_of}
use Rattle.printout_text.specs.Printed.{printed}

-- from the texts of a case's trees, as they are written
abbrev pub printed_for : Case → List ℕ
printed_for c = printed Exact (text_of c.archive) (text_of c.left) (text_of c.right)

-- C12 and C13 are the last two of thirteen
abbrev pub PrintedFromTexts : Type 0
PrintedFromTexts =
    map printed_for (drop 11 cases) ≡
    text "! ./L/d1\n< ./L/d2\n< ./R/d1\n= 2 0 1\n" ∷
    text "! ./L/d1\n< ./R/d1\n= 1 0 1\n" ∷
    []

-- left's `Day` and right's `day` are one day where letter case is ignored, and two where it counts
abbrev one : List ℕ
one = text ".  type=dir\nL type=dir\nDay type=file size=1 sha256digest=e3b0c44298fc1c149afbf4c8996fb92427ae41e4649b934ca495991b7852b855\n"

abbrev two : List ℕ
two = text ".  type=dir\nl type=dir\nday type=file size=2 sha256digest=e3b0c44298fc1c149afbf4c8996fb92427ae41e4649b934ca495991b7852b855\n"

abbrev none : List ℕ
none = text ". type=dir\n"

abbrev pub PrintedInProfiles : Type 0
PrintedInProfiles =
    (printed Folded none one two ∷ printed Folded one none two ∷ printed Folded two two one ∷ printed Exact none one two ∷ [])
    ≡ text "! ./L/Day\n= 0 0 1\n" ∷ text "! ./l\n= 0 0 1\n" ∷ text "< ./l/day\n= 1 0 0\n" ∷ text "> ./L\n< ./l\n= 1 1 0\n" ∷ []

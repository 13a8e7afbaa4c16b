-- One tree in two layouts, and two texts whose order matters, in each profile.
use Rattle.std.specs.Prelude.{◌≡◌, List, [], ◌∷◌, ◌++◌, ℕ}
use Rattle.tree.specs.Name.{Name}
use Rattle.tree.specs.Forest.{Content, Forest, Forest.end, Forest.leaf, Forest.dir}
use Rattle.tree.specs.declared.Profile.{Profile}
use Rattle.listing.specs.Bytes.{text}
use Rattle.listing.specs.Reading.{Outcome.refused, Outcome.accepted, reading}
use Rattle.listing_layout.specs.Relaid.{Relaid}

-- the root's lines, those of two folders in it, and the root's end: the first folder leaves another default, and the second says
-- its type itself
abbrev pub top : List ℕ
top = text "/set type=dir\n.\n"

abbrev pub first : List ℕ
first = text "a\n/set type=file\n# within a\nf size=1 sha256digest=00112233445566778899aabbccddeeff0123456789ABCDEFfedcba9876543210\n..\n"

abbrev pub second : List ℕ
second = text "b type=dir\n..\n"

abbrev pub bottom : List ℕ
bottom = text "..\n"

-- the second folder first, with other blanks, comments and joined lines
abbrev pub loose : List ℕ
loose =
    text "#mtree\n\t/set  type=dir\n\n.\\\n\nb\\\n type=dir \n..\n"
    ++ text "a\n/set type=file\nf size=1 \\\n  sha256digest=00112233445566778899aabbccddeeff0123456789ABCDEFfedcba9876543210\n..\n# after a\n..\n"

-- the second folder, its type left to the default
abbrev pub bare : List ℕ
bare = text "b\n..\n"

-- the two folders
abbrev pub short : ℕ → Name
short w = w ∷ 0 ∷ 0 ∷ 0 ∷ 0 ∷ 0 ∷ 0 ∷ 0 ∷ []

abbrev pub content : Content
content = 1 ∷ 0 ∷ 1 ∷ 0x00112233 ∷ 0x44556677 ∷ 0x8899aabb ∷ 0xccddeeff ∷ 0x01234567 ∷ 0x89abcdef ∷ 0xfedcba98 ∷ 0x76543210 ∷ []

abbrev pub folder_a : Forest → Forest
folder_a s = dir (short 0x61000000) (leaf (short 0x66000000) content end) s

abbrev pub folder_b : Forest
folder_b = dir (short 0x62000000) end end

-- where the second folder leaves its type to the default, it comes first or is a file that has no size
pub record ExamplesHold (p : Profile) : Type 0 where
  pub relaid : Relaid p 20 (top ++ (first ++ (second ++ bottom))) loose
  pub comes-first : reading p (top ++ (bare ++ (first ++ bottom))) 400 ≡ accepted (folder_a folder_b)
  pub comes-second : reading p (top ++ (first ++ (bare ++ bottom))) 400 ≡ refused 9 8

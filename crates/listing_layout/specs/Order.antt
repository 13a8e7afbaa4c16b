-- The order in which a folder's entries are listed changes nothing, in a profile: they are put in by key. A part may say nothing of
-- types and leave them to the default, so two parts change places where each gives the same entries from the default that it then
-- meets, and both orders leave the same default.
use Rattle.std.specs.Prelude.{◌≡◌, List, ◌++◌, true, ℕ}
use Rattle.tree.specs.Forest.{Forest, TreePath}
use Rattle.tree.specs.declared.Profile.{Profile}
use Rattle.listing.specs.Entries.{Said, Said.none}
use Rattle.listing.specs.Reading.{State.before, State.inside, Step.goes, Outcome.accepted, most_rows, reading}
use Rattle.listing_layout.specs.Whole.{whole, pieces}
use Rattle.listing_layout.specs.Parts.{through, Part}

-- x, then y, from the default d to e: the one gives the entries j, the other k
pub record InTurn (p : Profile) (most : ℕ) (d : Said) (x : List ℕ) (j : Forest) (y : List ℕ) (k : Forest) (e : Said) : Type 0 where
  pub between : Said
  pub first : Part p most d j between (pieces x)
  pub second : Part p most between k e (pieces y)

-- whole lines a, after which a folder is open, then two parts of it, x and y
pub record Neighbours (p : Profile) (most : ℕ) (a x y : List ℕ) : Type 0 where
  pub whole-a : whole a ≡ true
  pub whole-x : whole x ≡ true
  pub whole-y : whole y ≡ true
  pub tree : Forest
  pub path : TreePath
  pub default : Said
  pub open-there : through p most (pieces a) (before none) ≡ goes (inside tree path default)
  pub entries-x : Forest
  pub entries-y : Forest
  pub left : Said
  pub x-first : InTurn p most default x entries-x y entries-y left
  pub y-first : InTurn p most default y entries-y x entries-x left

-- neighbours swapped, at any place, any number of times
pub data Reordered (p : Profile) (most : ℕ) : List ℕ → List ℕ → Type 0 where
  same : {t : List ℕ} → Reordered p most t t
  swapped : {u : List ℕ} (a x y b : List ℕ) → Neighbours p most a x y → Reordered p most (a ++ (y ++ (x ++ b))) u
      → Reordered p most (a ++ (x ++ (y ++ b))) u

-- a text that is accepted is accepted as the same tree when neighbours are swapped
abbrev pub OrderChangesNothing : Type 0
OrderChangesNothing =
    (p : Profile) (t u : List ℕ) (room : ℕ) (f : Forest) → Reordered p (most_rows room) t u → reading p t room ≡ accepted f → reading p u room ≡ accepted f

-- What reading in a profile accepts, a tree that a table may hold with room for its rows, and what every line keeps of the state.
use Rattle.std.specs.Prelude.{◌≡◌, List, length, ℕ, suc, ◌≤◌}
use Rattle.tree.specs.Forest.{Forest, Node, Node.absent, Node.file, Node.folder, TreePath, size}
use Rattle.tree.specs.Rules.{NameRule, AllNames}
use Rattle.tree.specs.Key.{FormedIn}
use Rattle.tree.specs.declared.Profile.{Profile}
use Rattle.listing.specs.Reading.{Outcome.accepted, State, State.before, State.inside, State.closed, Step, Step.stops, Step.goes, at_key, most_rows, reading}

-- the row rules, and at most that many rows
pub record Fit (p : Profile) (most : ℕ) (f : Forest) : Type 0 where
  pub good : FormedIn p f
  pub room : suc (size f) ≤ most

-- only a folder is open
abbrev pub IsFolder : Node → Type 0
IsFolder absent = ⊥
IsFolder (file c) = ⊥
IsFolder (folder k) = Unit {0}

-- the open path leads, by key, to a folder of a tree that fits
pub record Inside (p : Profile) (most : ℕ) (f : Forest) (q : TreePath) : Type 0 where
  pub fit : Fit p most f
  pub here : IsFolder (at_key p f q)
  pub named : AllNames NameRule q
  pub deep : length q ≤ 16

abbrev pub GoodState : Profile → ℕ → State → Type 0
GoodState p most (before d) = Unit {0}
GoodState p most (inside f q d) = Inside p most f q
GoodState p most (closed f) = Fit p most f

abbrev pub GoodStep : Profile → ℕ → Step → Type 0
GoodStep p most (stops n) = Unit {0}
GoodStep p most (goes s) = GoodState p most s

-- whatever the text
abbrev pub AcceptedFits : Type 0
AcceptedFits = (p : Profile) (t : List ℕ) (room : ℕ) (f : Forest) → reading p t room ≡ accepted f → Fit p (most_rows room) f

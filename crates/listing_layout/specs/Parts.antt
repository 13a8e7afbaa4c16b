-- A part of a folder: lines, and what they do where they are tried, alone in an empty root, in a profile.
use Rattle.std.specs.Prelude.{◌≡◌, List, [], ◌∷◌, ℕ}
use Rattle.tree.specs.Forest.{Forest, Forest.end, TreePath}
use Rattle.tree.specs.declared.Profile.{Profile}
use Rattle.listing.specs.Accepted.{Inside}
use Rattle.listing.specs.Entries.{Said}
use Rattle.listing.specs.Reading.{State, State.inside, Step, Step.stops, Step.goes, line_does}

-- a fault is the last step
abbrev pub and_then : Step → (State → Step) → Step
and_then (stops n) k = stops n
and_then (goes s) k = k s

-- lines in turn, each given by its bytes
unfoldable pub through : Profile → ℕ → List (List ℕ) → State → Step
through p most [] s = goes s
through p most (l ∷ ls) s = and_then (line_does p most l s) (λ t. through p most ls t)

-- the lines give an empty root the entries k, leave no other folder open, and take the default from d to e
abbrev pub Part : Profile → ℕ → Said → Forest → Said → List (List ℕ) → Type 0
Part p most d k e ls = through p most ls (inside end [] d) ≡ goes (inside k [] e)

-- no lines are left out: whatever takes an open folder back to itself is a part
abbrev pub EveryStretchIsAPart : Type 0
EveryStretchIsAPart =
    (p : Profile) (most : ℕ) (ls : List (List ℕ)) (f g : Forest) (q : TreePath) (d e : Said) → Inside p most f q → through p most ls (inside f q d) ≡ goes (inside g q e)
    → (k : Forest) × Part p most d k e ls

-- Lines in turn, one part after the other; and a run is its lines in turn, and a fault's line.
use mathlib.Core.Path.{◌≡◌, refl, ap, ◌∙◌}
use mathlib.Core.List.{List, [], ◌∷◌, ◌++◌}
use mathlib.Core.Bool.{Bool, true, false, cond}
use Prim.Native.Nat.{ℕ}
use Rattle.tree.specs.Forest.{Forest}
use Rattle.tree.specs.declared.Profile.{Profile}
use Rattle.tree.proofs.Never.{never}
use Rattle.listing.specs.Lines.{Line, lines}
use Rattle.listing.specs.Entries.{Said.none}
use Rattle.listing.specs.Reading.{State, State.before, Step, Step.stops, Step.goes, Outcome, Outcome.refused, Outcome.accepted, line_does, ended, on_step, run, has_form, most_rows, reading}
use Rattle.listing_layout.specs.Whole.{bytes_of}
use Rattle.listing_layout.specs.Parts.{and_then, through}

pub through-append : (p : Profile) (most : ℕ) (xs ys : List (List ℕ)) (s : State) → through p most (xs ++ ys) s ≡ and_then (through p most xs s) (λ t. through p most ys t)
unfolding through
through-append p most [] ys s = refl
through-append p most (x ∷ xs) ys s = go (line_does p most x s) (through-append p most xs ys)
  where
    go : (r : Step) → ((t : State) → through p most (xs ++ ys) t ≡ and_then (through p most xs t) (λ u. through p most ys u))
        → and_then r (λ t. through p most (xs ++ ys) t) ≡ and_then (and_then r (λ t. through p most xs t)) (λ t. through p most ys t)
    go (stops n) ih = refl
    go (goes t) ih = ih t

-- a step, and what comes after it
pub record Both (r : Step) (k : State → Step) (s : State) : Type 0 where
  pub between : State
  pub first : r ≡ goes between
  pub second : k between ≡ goes s

pub both : (r : Step) (k : State → Step) (s : State) → and_then r k ≡ goes s → Both r k s
both (stops n) k s e = never (cc)
both (goes t) k s e = record { between = t; first = refl; second = e }

-- what the last step says, a fault at line i
abbrev pub verdict : Step → ℕ → Outcome
verdict (stops n) i = refused n i
verdict (goes s) i = ended s

pub run-verdict : (p : Profile) (most : ℕ) (ls : List Line) (s : State) → (i : ℕ) × (run p most ls s ≡ verdict (through p most (bytes_of ls) s) i)
unfolding run through
run-verdict p most [] s = (0, refl)
run-verdict p most (l ∷ ls) s = go (line_does p most l.bytes s) (run-verdict p most ls)
  where
    go : (r : Step) → ((t : State) → (i : ℕ) × (run p most ls t ≡ verdict (through p most (bytes_of ls) t) i))
        → (i : ℕ) × (on_step r l.number (λ t. run p most ls t) ≡ verdict (and_then r (λ t. through p most (bytes_of ls) t)) i)
    go (stops n) ih = (l.number, refl)
    go (goes t) ih = ih t

pub run-goes : (p : Profile) (most : ℕ) (ls : List Line) (s t : State) → through p most (bytes_of ls) s ≡ goes t → run p most ls s ≡ ended t
run-goes p most ls s t e = let r = run-verdict p most ls s in r.1 ∙ ap (λ (x : Step). verdict x r.0) e

pub run-back : (p : Profile) (most : ℕ) (ls : List Line) (s : State) (f : Forest) → run p most ls s ≡ accepted f → (t : State) × (through p most (bytes_of ls) s ≡ goes t) × (ended t ≡ accepted f)
run-back p most ls s f e = let r = run-verdict p most ls s in go (through p most (bytes_of ls) s) refl r.0 r.1
  where
    go : (x : Step) → through p most (bytes_of ls) s ≡ x → (i : ℕ) → run p most ls s ≡ verdict x i → (t : State) × (through p most (bytes_of ls) s ≡ goes t) × (ended t ≡ accepted f)
    go (stops n) q i h = never (cc)
    go (goes t) q i h = (t, q, cc)

-- a text that is accepted is short enough, ends in LF, and its run accepts
pub record Passed (p : Profile) (t : List ℕ) (room : ℕ) (f : Forest) : Type 0 where
  pub form : has_form t ≡ true
  pub runs : run p (most_rows room) (lines t) (before none) ≡ accepted f

pub passed : (p : Profile) (t : List ℕ) (room : ℕ) (f : Forest) → reading p t room ≡ accepted f → Passed p t room f
unfolding reading
passed p t room f e = go (has_form t) refl e
  where
    go : (b : Bool) → has_form t ≡ b → cond b (run p (most_rows room) (lines t) (before none)) (refused 6 0) ≡ accepted f → Passed p t room f
    go true q h = record { form = q; runs = h }
    go false q h = never (cc)

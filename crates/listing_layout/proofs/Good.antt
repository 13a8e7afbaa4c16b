-- What is known of a state is kept by a line, and through lines.
use mathlib.Core.Path.{◌≡◌, subst}
use mathlib.Core.List.{List, [], ◌∷◌}
use Prim.Native.Nat.{ℕ}
use Rattle.tree.specs.declared.Profile.{Profile}
use Rattle.listing.specs.Accepted.{GoodState, GoodStep}
use Rattle.listing.specs.Words.{is_text, words}
use Rattle.listing.specs.Reading.{State, Step, Step.stops, Step.goes, line_does}
use Rattle.listing.proofs.Accepted.{good-words}
use Rattle.listing_layout.specs.Parts.{and_then, through}

module _ (p : Profile) (most : ℕ) where
  pub good-line : (l : List ℕ) (s t : State) → GoodState p most s → line_does p most l s ≡ goes t → GoodState p most t
  good-line l s t h e = subst (GoodStep p most) e (good-words p most (is_text l) (words l) s h)

  lines-kept : (ls : List (List ℕ)) (s : State) → GoodState p most s → GoodStep p most (through p most ls s)
  unfolding through
  lines-kept [] s h = h
  lines-kept (l ∷ ls) s h = go (line_does p most l s) (good-words p most (is_text l) (words l) s h) (lines-kept ls)
    where
      go : (x : Step) → GoodStep p most x → ((t : State) → GoodState p most t → GoodStep p most (through p most ls t))
          → GoodStep p most (and_then x (λ t. through p most ls t))
      go (stops n) g ih = tt
      go (goes t) g ih = ih t g

  pub good-through : (ls : List (List ℕ)) (s t : State) → GoodState p most s → through p most ls s ≡ goes t → GoodState p most t
  good-through ls s t h e = subst (GoodStep p most) e (lines-kept ls s h)

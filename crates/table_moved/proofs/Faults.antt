-- The first of several checks that fails.
use Rattle.std.proofs.Common.{Ok, Err}
use mathlib.Core.Path.{◌≡◌, refl}
use mathlib.Core.List.{List, [], ◌∷◌, ◌++◌}
use mathlib.Core.Bool.{Bool, true, false}
use Prim.Native.Nat.{ℕ}
use Rattle.table_rules.specs.Answer.{is_accepted, Answer}
use Rattle.table_rules.specs.Faults.{first_refusal, unless}
use Rattle.tree.proofs.Never.{never}
use Rattle.table_rules.proofs.Says.{All}

-- some checks made together, and then a last one
pub with-last : (xs : List Answer) (a : Answer) (b : Bool) (n side : ℕ)
    → first_refusal (first_refusal xs a ∷ []) (unless b n side) ≡ first_refusal (xs ++ (a ∷ unless b n side ∷ [])) (Ok 0)
unfolding first_refusal
with-last [] (Ok p) true n side = refl
with-last [] (Ok p) false n side = refl
with-last [] (Err r) b n side = refl
with-last (Ok p ∷ xs) a b n side = with-last xs a b n side
with-last (Err r ∷ xs) a b n side = refl

-- where no check fails, each is passed
pub all-passed : (xs : List Answer) (last : Answer) (p : ℕ) → first_refusal xs last ≡ Ok p → All (λ (a : Answer). is_accepted a ≡ true) xs
unfolding first_refusal All
all-passed [] last p e = tt
all-passed (Ok q ∷ more) last p e = (refl, all-passed more last p e)
all-passed (Err r ∷ more) last p e = never (cc)

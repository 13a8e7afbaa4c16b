-- Words that are lowered one by one.
use mathlib.Core.Path.{◌≡◌, refl, ap₂}
use mathlib.Core.List.{List, [], ◌∷◌, map}
use native.Mathlib.Omega.{arith}
use lib.ListN.{length, get_or}
use Prim.Native.Nat.{ℕ, suc, ◌<◌}

pub by-places : (f : ℕ → ℕ) (l m : List ℕ) → length m ≡ length l → ((i : ℕ) → i < length l → get_or m i 0 ≡ f (get_or l i 0)) → m ≡ map f l
by-places f [] [] e h = refl
by-places f [] (y ∷ m) e h = absurd (omega arith)
by-places f (x ∷ l) [] e h = absurd (omega arith)
by-places f (x ∷ l) (y ∷ m) e h = ap₂ (λ (a : ℕ) (b : List ℕ). a ∷ b) (h 0 (omega arith)) (by-places f l m (omega arith) (λ i g. h (suc i) (omega arith)))

-- A test that holds of every number below a bound, by one computation.
use mathlib.Core.Bool.{Bool, ◌&&◌, true}
use mathlib.Core.Path.{◌≡◌}
use native.Mathlib.Decide.{ℕ_discrete}
use native.Mathlib.Omega.{arith}
use Prim.Native.Nat.{ℕ, suc, zero, ◌<◌}
use Rattle.tree.proofs.Same.{and-true}

abbrev pub every : ℕ → (ℕ → Bool) → Bool
every zero t = true
every (suc n) t = t n && every n t

pub every-at : (n : ℕ) (t : ℕ → Bool) → every n t ≡ true → (i : ℕ) → i < n → t i ≡ true
every-at zero t h i lt = absurd (omega arith)
every-at (suc n) t h i lt = go (ℕ_discrete i n) (and-true (t n) (every n t) h) (λ q d. every-at n t q i (omega arith))
  where
    go : Dec (i ≡ n) → (t n ≡ true) × (every n t ≡ true) → (every n t ≡ true → (i ≡ n → ⊥) → t i ≡ true) → t i ≡ true
    go (yes e) p k = rw e p.0
    go (no d) p k = k p.1 d

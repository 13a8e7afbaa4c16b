-- Which bytes stand for themselves in a name, range by range.
use mathlib.Core.Path.{◌≡◌, refl, sym}
use mathlib.Core.Bool.{Bool, true, false, ◌||◌, not}
use native.Mathlib.Omega.{arith}
use lib.Dec.{eqb}
use Prim.Native.Nat.{ℕ, ◌+◌, ◌-◌, ◌≤◌, ◌<◌}
use borrow.Author.Tests.{ne_eqb}
use Rattle.listing.specs.Writing.{as_it_is}
use Rattle.tree.proofs.Every.{every, every-at}

abbrev agrees : Bool → Bool → Bool
agrees true x = x
agrees false x = not x

agrees-same : (v x : Bool) → agrees v x ≡ true → v ≡ x
agrees-same true true e = refl
agrees-same true false e = sym e
agrees-same false true e = e
agrees-same false false e = refl

-- the byte at a place of a run of bytes, the underscore aside
abbrev pub alike : ℕ → Bool → ℕ → Bool
alike low v i = eqb (low + i) 95 || agrees v (as_it_is (low + i))

-- n bytes from low on are all of them written as they are, or none of them is
pub run-same : (low n : ℕ) (v : Bool) → every n (alike low v) ≡ true → {b : ℕ} → low ≤ b → b < low + n → (b ≡ 95 → ⊥) → v ≡ as_it_is b
run-same low n v t {b} h g ne =
    let e : low + (b - low) ≡ b = omega arith in
    let q = every-at n (alike low v) t (b - low) (omega arith) in
    agrees-same v (as_it_is b) (rw (e, ne_eqb b 95 ne) at q)

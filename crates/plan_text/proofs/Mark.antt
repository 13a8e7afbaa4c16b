-- The mark of each kind.
use mathlib.Core.Path.{◌≡◌}
use Prim.Native.Nat.{ℕ}
use borrow.Author.Tests.{ne_eqb}
use Rattle.listing.specs.Bytes.{text}
use Rattle.plan_text.specs.Text.{mark}

module _ (k : ℕ) where
  pub mark-left : k ≡ 1 → mark k ≡ text "<"
  unfolding mark
  mark-left e = rw e

  pub mark-right : k ≡ 2 → mark k ≡ text ">"
  unfolding mark
  mark-right e = rw e

  pub mark-clash : (k ≡ 1 → ⊥) → (k ≡ 2 → ⊥) → mark k ≡ text "!"
  unfolding mark
  mark-clash h g = rw (ne_eqb k 1 h, ne_eqb k 2 g)

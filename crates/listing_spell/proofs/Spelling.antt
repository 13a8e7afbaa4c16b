-- What is still to be spelled of a name or a digest, byte by byte.
use mathlib.Core.Path.{◌≡◌}
use mathlib.Core.List.{List, [], ◌∷◌, ◌++◌}
use native.Mathlib.Omega.{arith}
use native.Mathlib.Numerals.{add-one}
use lib.ListN.{length, drop, get_or, drop_of_length-le}
use lib.Seq.{drop-cons}
use Prim.Native.Nat.{ℕ, ◌+◌, ◌/◌, ◌%◌, ◌≤◌, ◌<◌}
use borrow.Author.Tests.{eq-eqb, ne_eqb}
use Rattle.listing.specs.Writing.{spell_byte, spell, hex_digit, hex}

module _ (bs : List ℕ) (k : ℕ) where
  -- the first zero ends a name
  pub spell-zero : k < length bs → get_or bs k 0 ≡ 0 → spell (drop k bs) ≡ []
  unfolding spell
  spell-zero h z = rw (drop-cons bs k 0 h, eq-eqb _ _ z)

  pub spell_next : k < length bs → (get_or bs k 0 ≡ 0 → ⊥) → spell (drop k bs) ≡ spell_byte (get_or bs k 0) ++ spell (drop (k + 1) bs)
  unfolding spell
  spell_next h n = rw (drop-cons bs k 0 h, ne_eqb _ _ n, add-one)

  pub spell-end : length bs ≤ k → spell (drop k bs) ≡ []
  unfolding spell
  spell-end h = rw (drop_of_length-le bs h)

  pub hex-next : k < length bs
      → hex (drop k bs) ≡ (hex_digit (get_or bs k 0 / 16) ∷ hex_digit (get_or bs k 0 % 16) ∷ []) ++ hex (drop (k + 1) bs)
  unfolding hex
  hex-next h = rw (drop-cons bs k 0 h, add-one)

  pub hex-end : length bs ≤ k → hex (drop k bs) ≡ []
  unfolding hex
  hex-end h = rw (drop_of_length-le bs h)

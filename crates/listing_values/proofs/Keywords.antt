-- A word's keyword ends at its first `=`.
use mathlib.Core.Path.{◌≡◌, refl, sym, ◌∙◌}
use mathlib.Core.List.{List}
use mathlib.Core.Bool.{Bool, true, false, cond, not}
use native.Mathlib.Omega.{arith}
use lib.Dec.{ltb}
use lib.ListN.{length}
use Prim.Native.Nat.{ℕ, suc, ◌+◌, ◌≤◌}
use borrow.Author.Tests.{ltb-false}
use Rattle.std.specs.Prelude.{Some, None, position, unwrap_or}
use Rattle.std.specs.Bool.{◌==◌}
use Rattle.std.specs.List.{position_or_len}
use Rattle.std.proofs.lemmas.List.Recursion.{is_position_or_len}
use Rattle.std.proofs.lemmas.List.Sums.{prefix_len-le-length}
use Rattle.listing.specs.Words.{key_len}

abbrev first : List ℕ → ℕ
first w = position_or_len (λ b. b == 61) w

key-first : (w : List ℕ) → key_len w ≡ first w
unfolding key_len
key-first w = is_position_or_len key_len (λ b. b == 61) refl (λ b bs. let e : 1 + key_len bs ≡ suc (key_len bs) = omega arith in rw e) w

pub key-fits : (w : List ℕ) → key_len w ≤ length w
key-fits w = rw key-first (prefix_len-le-length (λ b. not (b == 61)) w)

pub key-place : (w : List ℕ) → unwrap_or (position (λ b. b == 61) w) (length w) ≡ key_len w
key-place w = go (ltb (first w) (length w)) refl ∙ sym (key-first w)
  where
    go : (t : Bool) → ltb (first w) (length w) ≡ t → unwrap_or (cond t (Some (first w)) None) (length w) ≡ first w
    go true e = refl
    go false e = let q = ltb-false (first w) (length w) e in let h = rw key-first at (key-fits w) in omega arith

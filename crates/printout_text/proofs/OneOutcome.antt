-- The printout has one outcome: two counts and two buffers that keep the contract are the same.
use mathlib.Core.Path.{◌≡◌, sym, ◌∙◌}
use mathlib.Core.List.{List}
use Prim.Native.Nat.{ℕ}
use Rattle.tree.specs.declared.Profile.{Profile}
use Rattle.listing_spell.specs.Puts.{Puts}
use Rattle.printout_text.specs.Printed.{printed}

pub print-one : (p : Profile) (out a l r : List ℕ) (m n : ℕ) (v w : List ℕ) → Puts out 0 (printed p a l r) 1048576 m v → Puts out 0 (printed p a l r) 1048576 n w → (m ≡ n) × (v ≡ w)
print-one p out a l r m n v w A B = (A.counted ∙ sym B.counted, A.holds ∙ sym B.holds)

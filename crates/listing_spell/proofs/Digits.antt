-- Decimal digits, filled in from the back.
use mathlib.Core.Path.{◌≡◌, ◌∙◌}
use mathlib.Core.List.{List, ◌∷◌}
use native.Mathlib.Omega.{arith}
use lib.ListN.{length, drop, set, length-set}
use lib.Seq.{drop-cons, get_or-set_same, drop-set-lt}
use Prim.Native.Nat.{ℕ, suc, ◌+◌, ◌%◌, ◌/◌, ◌≤◌, ◌<◌}
use borrow.Author.Tests.{lt-ltb, le-ltb}
use Rattle.listing.specs.Writing.{decimal}

drop-set : (d : List ℕ) (j b : ℕ) → j < length d → drop j (set d j b) ≡ b ∷ drop (suc j) d
drop-set d j b h =
    let g : j < length (set d j b) = rw length-set h in
    drop-cons (set d j b) j 0 g ∙ rw (get_or-set_same d j b 0 h, drop-set-lt (suc j) d j b (omega arith))

-- digit j, with j to be filled in before it
module _ (d : List ℕ) (j m : ℕ) {k : ℕ} (e : k ≡ suc j) (h : j < length d) where
  -- the first one
  pub first-digit : m < 10 → drop j (set d j (48 + m % 10)) ≡ decimal k m (drop k d)
  unfolding decimal
  first-digit g =
      let q : m % 10 ≡ m = omega arith in
      rw (q, drop-set d j (48 + m) h, e, lt-ltb m 10 g)

  -- another one
  pub next-digit : 10 ≤ m → decimal j (m / 10) (drop j (set d j (48 + m % 10))) ≡ decimal k m (drop k d)
  unfolding decimal
  next-digit g = rw (drop-set d j (48 + m % 10) h, e, le-ltb m 10 g)

-- The keys that are made of a table stand at the start of their room, and what two tables have together is room for either.
use mathlib.Core.Path.{◌≡◌, ap, ◌∙◌}
use mathlib.Core.List.{List}
use lib.ListN.{length, take}
use native.Mathlib.Omega.{arith}
use Prim.Native.Nat.{ℕ, ◌+◌, ◌*◌, ◌/◌, ◌≤◌}
use Rattle.tree.specs.declared.Profile.TheVariants.{Folded}
use Rattle.table_row.specs.Buffer.{over}
use Rattle.table_row.specs.Keyed.{keyed}
use Rattle.table_row.proofs.Keyed.{keys-front}
use Rattle.table_rules.specs.Keyed.{Passes}
use Rattle.table_rules.proofs.Passed.{passed-whole}

pub keys-are : (w b e : List ℕ) → Passes Folded w → e ≡ over b (keyed Folded w) → take (length w) e ≡ keyed Folded w
keys-are w b e P h = ap (take (length w)) h ∙ keys-front Folded b w (passed-whole Folded w P)

pub roomy : (n : ℕ) (w v : List ℕ) → Passes Folded w → Passes Folded v → length w / 20 + length v / 20 ≤ n → (length w ≤ 20 * n) × (length v ≤ 20 * n)
roomy n w v P Q h = let x = passed-whole Folded w P in let y = passed-whole Folded v Q in (omega arith, omega arith)

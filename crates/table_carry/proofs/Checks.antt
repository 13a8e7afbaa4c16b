-- Two tables checked.
use mathlib.Core.Path.{◌≡◌}
use mathlib.Core.List.{List}
use mathlib.Core.Bool.{true, ◌&&◌}
use Prim.Native.Nat.{ℕ}
use Rattle.tree.specs.declared.Profile.{Profile}
use Rattle.table_rules.specs.Keyed.{Passes}
use Rattle.table_rules.proofs.Passing.{check-passes}
use Rattle.tree.proofs.Same.{and-true}
use Rattle.table_carry.specs.Carried.{passes}

pub both-pass : (p : Profile) (l r : List ℕ) → (passes p l && passes p r) ≡ true → Passes p l × Passes p r
both-pass p l r e = let h = and-true (passes p l) (passes p r) e in (check-passes p l h.0, check-passes p r h.1)

-- A check of a table has one outcome: two answers that keep its contract are the same.
use mathlib.Core.Path.{◌≡◌}
use mathlib.Core.List.{List}
use Prim.Native.Nat.{ℕ}
use Rattle.table_rules.specs.Answer.{Answer}
use Rattle.tree.specs.declared.Profile.{Profile}
use Rattle.table_rules.specs.Contract.{CheckContract}
use Rattle.table_rules.proofs.Says.{says-one}

pub check-one : (p : Profile) (t : List ℕ) (a b : Answer) → CheckContract p t a → CheckContract p t b → a ≡ b
check-one p t a b A B = says-one a b A.says B.says

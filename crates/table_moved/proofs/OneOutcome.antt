-- A move has one outcome: two answers with two rooms that keep its contract are the same.
use mathlib.Core.Path.{◌≡◌, sym, ◌∙◌}
use mathlib.Core.List.{List}
use Prim.Native.Nat.{ℕ}
use Rattle.table_rules.specs.Answer.{Answer}
use Rattle.tree.specs.Name.{Name}
use Rattle.tree.specs.declared.Profile.{Profile}
use Rattle.table_rules.proofs.Says.{says-one}
use Rattle.table_moved.specs.Move.{MoveContract}

pub move-one : (p : Profile) (target source : List ℕ) (names : List Name) (depth : ℕ) (lent r q : List ℕ) (a b : Answer)
    → MoveContract p target source names depth lent r a → MoveContract p target source names depth lent q b → (a ≡ b) × (r ≡ q)
move-one p target source names depth lent r q a b A B = (says-one a b A.says B.says, A.room ∙ sym B.room)

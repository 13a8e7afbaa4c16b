-- Writing a table has one outcome: two answers and two texts that keep its contract are the same.
use mathlib.Core.Path.{◌≡◌, sym, ◌∙◌}
use mathlib.Core.List.{List}
use Prim.Native.Nat.{ℕ}
use Rattle.table_rules.specs.Answer.{Answer}
use Rattle.tree.specs.declared.Profile.{Profile}
use Rattle.table_rules.proofs.Says.{says-one}
use Rattle.listing_write.specs.Contract.{WriteContract}

pub write-one : (p : Profile) (w d : List ℕ) (a b : Answer) (s t : List ℕ) → WriteContract p w d a s → WriteContract p w d b t → (a ≡ b) × (s ≡ t)
write-one p w d a b s t A B = (says-one a b A.says B.says, A.written ∙ sym B.written)

-- Reading a listing has one outcome: two answers and two tables that keep its contract are the same.
use mathlib.Core.Path.{◌≡◌, sym, ◌∙◌}
use mathlib.Core.List.{List}
use Prim.Native.Nat.{ℕ}
use Rattle.table_rules.specs.Answer.{Answer}
use Rattle.tree.specs.declared.Profile.{Profile}
use Rattle.table_rules.proofs.Says.{says-one}
use Rattle.listing_read_lines.specs.Contract.{ReadContract}

pub read_one : (p : Profile) (t b : List ℕ) (x y : Answer) (v w : List ℕ) → ReadContract p t b x v → ReadContract p t b y w → (x ≡ y) × (v ≡ w)
read_one p t b x y v w A B = (says-one x y A.says B.says, A.table ∙ sym B.table)

-- The rows to carry have one outcome: two parts that keep the contract are the same words.
use mathlib.Core.Path.{◌≡◌, sym, ◌∙◌}
use mathlib.Core.List.{List}
use Prim.Native.Nat.{ℕ}
use Rattle.tree.specs.declared.Profile.{Profile}
use Rattle.table_carry.specs.Carried.{carried_rows}

pub carried-one : (p : Profile) (left right : List ℕ) (kind i j : ℕ) (a b : List ℕ) → a ≡ carried_rows p left right kind i j → b ≡ carried_rows p left right kind i j → a ≡ b
carried-one p left right kind i j a b A B = A ∙ sym B

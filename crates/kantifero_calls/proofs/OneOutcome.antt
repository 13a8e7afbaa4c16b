-- Each exported call has one outcome: eight words and buffers that keep its contract are those of any other outcome that does.
use mathlib.Core.Path.{◌≡◌, sym, ◌∙◌}
use mathlib.Core.List.{List}
use Prim.Native.Nat.{ℕ}
use Rattle.tree.specs.Name.{Name}
use Rattle.tree.specs.declared.Profile.{Profile}
use Rattle.plan_run.specs.Run.{Lent}
use Rattle.kantifero_calls.specs.Calls.{ReconcileCall, MoveCall, WriteCall, ReadCall}
use Rattle.kantifero_calls.specs.Carried.{CarriedCall}

pub reconcile-one : (p : Profile) (o l r : List ℕ) (before : Lent) (a b c d t w a' b' c' d' t' w' : List ℕ) → ReconcileCall p o l r before a b c d t w → ReconcileCall p o l r before a' b' c' d' t' w'
    → (a ≡ a') × (b ≡ b') × (c ≡ c') × (d ≡ d') × (t ≡ t') × (w ≡ w')
reconcile-one p o l r before a b c d t w a' b' c' d' t' w' C D = (
  C.archive-left ∙ sym D.archive-left,
  C.left-left ∙ sym D.left-left,
  C.right-left ∙ sym D.right-left,
  C.list_left ∙ sym D.list_left,
  C.tally-left ∙ sym D.tally-left,
  C.answered ∙ sym D.answered,
)

pub move-one : (p : Profile) (target source : List ℕ) (names : List Name) (depth : ℕ) (lent r w r' w' : List ℕ) → MoveCall p target source names depth lent r w
    → MoveCall p target source names depth lent r' w' → (r ≡ r') × (w ≡ w')
move-one p target source names depth lent r w r' w' C D = (C.room ∙ sym D.room, C.answered ∙ sym D.answered)

pub write-one : (p : Profile) (t d s w s' w' : List ℕ) → WriteCall p t d s w → WriteCall p t d s' w' → (s ≡ s') × (w ≡ w')
write-one p t d s w s' w' C D = (C.written ∙ sym D.written, C.answered ∙ sym D.answered)

pub carried-one : (p : Profile) (left right : List ℕ) (kind left_row right_row : ℕ) (w w' : List ℕ) → CarriedCall p left right kind left_row right_row w
    → CarriedCall p left right kind left_row right_row w' → w ≡ w'
carried-one p left right kind left_row right_row w w' C D = C.answered ∙ sym D.answered

pub read_one : (p : Profile) (t b s w s' w' : List ℕ) → ReadCall p t b s w → ReadCall p t b s' w' → (s ≡ s') × (w ≡ w')
read_one p t b s w s' w' C D = (C.table ∙ sym D.table, C.answered ∙ sym D.answered)

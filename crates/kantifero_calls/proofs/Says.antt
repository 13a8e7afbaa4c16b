-- An answer that says what is due has the words of what is due, and a reconciliation's results are its call's.
use mathlib.Core.Path.{◌≡◌, refl, ap, ◌∙◌}
use mathlib.Core.List.{List, [], ◌∷◌}
use native.Mathlib.Omega.{arith}
use lib.ListN.{length}
use Prim.Native.Nat.{ℕ}
use Rattle.tree.specs.declared.Profile.{Profile}
use Rattle.table_rules.specs.Answer.{Says, Answer}
use Rattle.plan_tally.specs.declared.Tally.{Tally}
use Rattle.plan_run.specs.Answer.{Reconciled}
use Rattle.plan_run.specs.Run.{Lent, lent, ReconcileContract}
use Rattle.kantifero_calls.specs.Words.{eight, answer_words, reconciled_words, tally_words, tally_in}
use Rattle.kantifero_calls.specs.Calls.{ReconcileCall}

pub says-words : (a : Answer) (number side place : ℕ) → Says a number side place → answer_words a ≡ eight number side place
says-words a number side place s = rw (s.number-due, s.side-due, s.place-due)

pub reconcile-call : (p : Profile) (o l r : List ℕ) (before : Lent) (archive left right list : List ℕ) (t : Tally) (a : Reconciled) (answer : List ℕ)
    → ReconcileContract p o l r before (lent archive left right list t) a → answer ≡ reconciled_words a
    → ReconcileCall p o l r before archive left right list (tally_words t) answer
reconcile-call p o l r before archive left right list t a answer C e = record {
  answered = e ∙ ap reconciled_words C.answered;
  archive-left = ap (λ (x : Lent). x.archive) C.left_in;
  left-left = ap (λ (x : Lent). x.left) C.left_in;
  right-left = ap (λ (x : Lent). x.right) C.left_in;
  list_left = ap (λ (x : Lent). x.list) C.left_in;
  tally-left = ap (λ (x : Lent). tally_words x.tally) C.left_in;
}

-- a tally that a refusal hands back is the three words that were lent
pub tally-kept : (w : List ℕ) → length w ≡ 3 → tally_words (tally_in w) ≡ w
tally-kept [] e = absurd (omega arith)
tally-kept (x ∷ []) e = absurd (omega arith)
tally-kept (x ∷ y ∷ []) e = absurd (omega arith)
tally-kept (x ∷ y ∷ z ∷ []) e = refl
tally-kept (x ∷ y ∷ z ∷ u ∷ w) e = absurd (omega arith)

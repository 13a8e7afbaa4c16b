-- Answers: number, side and place fix one, and those that are due are numbers of a refusal.
use Rattle.std.proofs.Common.{Ok, Err, Option, Some, None}
use mathlib.Core.Path.{◌≡◌, refl, sym, ap, ◌∙◌}
use mathlib.Core.List.{List, [], ◌∷◌}
use mathlib.Core.Bool.{Bool, true, false}
use lib.Dec.{eqb}
use Prim.Native.Nat.{ℕ}
use borrow.Author.Tests.{ne_eqb}
use Rattle.tree.specs.declared.Profile.{Profile}
use Rattle.table_rules.specs.declared.Fault.{Fault}
use Rattle.table_rules.specs.declared.Fault.TheVariants.{BadLength, BadRow}
use Rattle.table_rules.specs.declared.Refusal.{Refusal}
use Rattle.table_rules.specs.Answer.{number_of, side_of, place_of, is_accepted, Says, Answer, refusal}
use Rattle.table_rules.specs.Faults.{first_refusal, unless}
use Rattle.table_rules.specs.Keyed.{checked_in, twins}
use Rattle.table_rules.specs.Contract.{check_due}
use Rattle.table_rules.specs.Refusal.{refusal_of, twins_due}

-- two answers that say the same are the same
pub says-one : (a b : Answer) {number side place : ℕ} → Says a number side place → Says b number side place → a ≡ b
says-one (Ok p) (Ok q) A B = let e : p ≡ q = A.place-due ∙ sym B.place-due in cc
says-one (Ok p) (Err r) A B = cc (A.accepted, B.accepted)
says-one (Err r) (Ok q) A B = cc (A.accepted, B.accepted)
says-one (Err r) (Err t) A B =
    let e = A.number-due ∙ sym B.number-due in
    let f = A.side-due ∙ sym B.side-due in
    let g = A.place-due ∙ sym B.place-due in
    let h : refusal r.number r.side r.place ≡ refusal t.number t.side t.place = rw (e, f, g) refl in
    ap (λ (x : Refusal). Err x) h

-- an answer whose number is 0 exactly where it is an acceptance
abbrev pub Numbered : Answer → Type 0
Numbered a = is_accepted a ≡ eqb (number_of a) 0

pub says-due : (a : Answer) → Numbered a → Says a (number_of a) (side_of a) (place_of a)
says-due a n = record { number-due = refl; side-due = refl; place-due = refl; accepted = n }

pub numbered-refusal : (c : Option Fault) (side : ℕ) → Numbered (refusal_of c side)
numbered-refusal None side = refl
numbered-refusal (Some BadLength) side = refl
numbered-refusal (Some (BadRow i)) side = refl

pub numbered-twins : (c : Option ℕ) (side : ℕ) → Numbered (twins_due c side)
numbered-twins None side = refl
numbered-twins (Some i) side = refl

pub numbered-unless : (b : Bool) (n side : ℕ) → (n ≡ 0 → ⊥) → Numbered (unless b n side)
numbered-unless true n side h = refl
numbered-unless false n side h = sym (ne_eqb n 0 h)

-- a rule of every one of some answers
unfoldable pub All : (Answer → Type 0) → List Answer → Type 0
All P [] = Unit {0}
All P (a ∷ more) = P a × All P more

pub numbered-first : (xs : List Answer) (last : Answer) → All Numbered xs → Numbered last → Numbered (first_refusal xs last)
unfolding first_refusal All
numbered-first [] last h k = k
numbered-first (Ok p ∷ more) last h k = numbered-first more last h.1 k
numbered-first (Err r ∷ more) last h k = h.0

pub numbered-check : (p : Profile) (t : List ℕ) → Numbered (check_due p t)
unfolding check_due All
numbered-check p t = numbered-first (refusal_of (checked_in p t) 1 ∷ []) (twins_due (twins p t) 1) (numbered-refusal (checked_in p t) 1, tt) (numbered-twins (twins p t) 1)

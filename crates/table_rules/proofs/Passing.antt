-- A table of which none of 1, 2 and 16 is due: what the answers to it say.
use Rattle.std.proofs.Common.{Ok, Option, Some, None}
use mathlib.Core.Path.{◌≡◌, refl}
use mathlib.Core.List.{List, []}
use mathlib.Core.Bool.{Bool, true, false, cond}
use lib.Dec.{ltb}
use lib.ListN.{length}
use Prim.Native.Nat.{ℕ, ◌/◌}
use Rattle.tree.specs.declared.Profile.{Profile}
use Rattle.tree.specs.declared.Profile.TheVariants.{Exact, Folded}
use Rattle.tree.proofs.Never.{never}
use Rattle.table_row.specs.Table.{rows}
use Rattle.table_rules.specs.Answer.{is_accepted, Answer}
use Rattle.table_rules.specs.Refusal.{refusal_of, twins_due}
use Rattle.table_rules.specs.Faults.{first_refusal}
use Rattle.table_rules.specs.Keyed.{no_twin, lead_by, lowest, checked_in, twins, Passes}
use Rattle.table_rules.specs.Contract.{check_due, CheckContract}
use Rattle.table_rules.proofs.Says.{says-one, says-due, numbered-check}
use Rattle.table_rules.proofs.Faults.{first-both, refusal-fine}

pub twins-fine : (p : Profile) (w : List ℕ) (side : ℕ) → is_accepted (twins_due (twins p w) side) ≡ true → twins p w ≡ None
twins-fine p w side h = go (twins p w) h
  where
    go : (c : Option ℕ) → is_accepted (twins_due c side) ≡ true → c ≡ None
    go None h = refl
    go (Some i) h = never (cc)

module _ (p : Profile) (w : List ℕ) where
  -- the answer to a check is the one that is due
  pub check-is : (a : Answer) → CheckContract p w a → a ≡ check_due p w
  check-is a C = says-one a (check_due p w) C.says (says-due (check_due p w) (numbered-check p w))

  -- it is an acceptance exactly where the table passes
  pub check-passes : is_accepted (check_due p w) ≡ true → Passes p w
  unfolding check_due
  check-passes h =
      let b = first-both (refusal_of (checked_in p w) 1) (twins_due (twins p w) 1) h in
      record { checked-fine = refusal-fine (checked_in p w) 1 b.0; no-twins = twins-fine p w 1 b.1 }

  pub passes-check : Passes p w → check_due p w ≡ Ok 0
  unfolding check_due first_refusal
  passes-check P = rw (P.checked-fine, P.no-twins)

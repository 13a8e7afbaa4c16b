-- `table_answers::check_table` meets its contract: what the check found, answered for side 1.
use Rattle.std.proofs.Common.{◌≡◌, refl, [], ◌∷◌, ◌∙◌, sym, ap, rules, List, ℕ, Option}
use Rattle.tree.specs.declared.Profile.{Profile}
use Rattle.table_rules.specs.declared.Seen.{Seen}
use Rattle.table_rules.specs.Answer.{Answer}
use Rattle.table_rules.specs.Keyed.{checked_in}
use Rattle.table_rules.specs.Contract.{check_due, CheckContract}
use Rattle.table_rules.specs.Faults.{first_refusal}
use Rattle.table_rules.specs.Refusal.{refusal_of, twins_due}
use Rattle.table_rules.specs.Seen.{Sees}
use Rattle.table_rules.proofs.Faults.{first_then, then-last, then-first}
use Rattle.table_rules.proofs.Says.{says-due, numbered-check}
use Rattle.table_answers.proofs.check_table.Goals as goal

-- the first refusal by what was seen is the answer that is due
checked : (p : Profile) (w : List ℕ) {s : Seen} → Sees p w s → {a b x : Answer} → a ≡ refusal_of s.rows 1 → b ≡ twins_due s.twins 1
    → first_refusal (a ∷ []) b ≡ x → CheckContract p w x
unfolding check_due
checked p w S e f h =
    let d = sym h ∙ rw (e, f, S.seen-rows) (first_then (checked_in p w) 1 (λ z. ap (λ (y : Option ℕ). twins_due y 1) (S.seen-twins z))) in
    record { says = rw d (says-due (check_due p w) (numbered-check p w)) }

pub returns-in_err-refusal : goal.returns-in_err-refusal
returns-in_err-refusal c =
    let a = c.args in
    let e : c.from_residual.result ≡ c.refusal.result = search rules in
    checked a.profile a.t.now c.check-seen.ensures c.refusal.ensures refl (then-first _ _ c.in_err-refusal.was ∙ sym e)

pub returns : goal.returns
returns c =
    let a = c.args in
    checked a.profile a.t.now c.check-seen.ensures c.refusal.ensures c.twins_refusal.ensures (then-last _ _ c.in_ok-refusal.was)

-- `table_move_due::tables_due` meets its contract: number 16 of the two counts where nothing is wrong with either.
use Rattle.std.proofs.Common.{◌≡◌, ◌∙◌, sym, refl, [], ◌∷◌, Ok, Err, List, ℕ, rules}
use Rattle.tree.specs.declared.Profile.{Profile}
use Rattle.table_rules.specs.declared.Refusal.{Refusal}
use Rattle.table_rules.specs.declared.Seen.{Seen}
use Rattle.table_rules.specs.Faults.{first_refusal}
use Rattle.table_rules.specs.Refusal.{refusal_of, twins_due}
use Rattle.table_rules.specs.Seen.{Sees}
use Rattle.table_rules.proofs.Faults.{first_then, then-last, then-first}
use Rattle.table_moved.specs.Pieces.{tables_due}
use Rattle.table_move_due.proofs.tables_due.Goals as goal

-- the four checks one after the other: the first that refuses gives the answer that is due
module _ (p : Profile) (v w : List ℕ) (t s : Seen) (T : Sees p v t) (S : Sees p w s) where
  due : first_refusal (refusal_of t.rows 2 ∷ []) (first_refusal (refusal_of s.rows 3 ∷ []) (first_refusal (twins_due t.twins 2 ∷ []) (twins_due s.twins 3))) ≡ tables_due p v w
  unfolding tables_due first_refusal
  due = rw (T.seen-rows, S.seen-rows) (first_then _ 2 (λ t. first_then _ 3 (λ s. rw (T.seen-twins t, S.seen-twins s) refl)))

  stop-1 : {r : Refusal} → refusal_of t.rows 2 ≡ Err r → refusal_of t.rows 2 ≡ tables_due p v w
  stop-1 e = sym (then-first _ _ e) ∙ due

  module _ {i : ℕ} (a : refusal_of t.rows 2 ≡ Ok i) where
    stop-2 : {r : Refusal} → refusal_of s.rows 3 ≡ Err r → refusal_of s.rows 3 ≡ tables_due p v w
    stop-2 e = sym (then-last _ _ a ∙ then-first _ _ e) ∙ due

    module _ {j : ℕ} (b : refusal_of s.rows 3 ≡ Ok j) where
      stop-3 : {r : Refusal} → twins_due t.twins 2 ≡ Err r → twins_due t.twins 2 ≡ tables_due p v w
      stop-3 e = sym (then-last _ _ a ∙ then-last _ _ b ∙ then-first _ _ e) ∙ due

      last : {k : ℕ} → twins_due t.twins 2 ≡ Ok k → twins_due s.twins 3 ≡ tables_due p v w
      last e = sym (then-last _ _ a ∙ then-last _ _ b ∙ then-last _ _ e) ∙ due

pub returns-in_err-refusal : goal.returns-in_err-refusal
returns-in_err-refusal c =
    let e : c.from_residual.result ≡ c.refusal.result = search rules in
    e ∙ c.refusal.ensures ∙ stop-1 _ _ _ _ _ c.check-t.ensures c.check-s.ensures (sym c.refusal.ensures ∙ c.in_err-refusal.was)

pub returns-in_err-refusal-2 : goal.returns-in_err-refusal-2
returns-in_err-refusal-2 c =
    let e : c.from_residual-in_err-refusal-2.result ≡ c.refusal-2.result = search rules in
    e ∙ c.refusal-2.ensures
    ∙ stop-2 _ _ _ _ _ c.check-t.ensures c.check-s.ensures (sym c.refusal.ensures ∙ c.in_ok-refusal.was) (sym c.refusal-2.ensures ∙ c.in_err-refusal-2.was)

pub returns-in_err-twins_refusal : goal.returns-in_err-twins_refusal
returns-in_err-twins_refusal c =
    let e : c.from_residual-in_err-twins_refusal.result ≡ c.twins_refusal.result = search rules in
    e ∙ c.twins_refusal.ensures
    ∙ stop-3 _ _ _ _ _ c.check-t.ensures c.check-s.ensures (sym c.refusal.ensures ∙ c.in_ok-refusal.was) (sym c.refusal-2.ensures ∙ c.in_ok-refusal-2.was)
    (sym c.twins_refusal.ensures ∙ c.in_err-twins_refusal.was)

pub returns : goal.returns
returns c =
    c.twins_refusal-2.ensures
    ∙ last _ _ _ _ _ c.check-t.ensures c.check-s.ensures (sym c.refusal.ensures ∙ c.in_ok-refusal.was) (sym c.refusal-2.ensures ∙ c.in_ok-refusal-2.was)
    (sym c.twins_refusal.ensures ∙ c.in_ok-twins_refusal.was)

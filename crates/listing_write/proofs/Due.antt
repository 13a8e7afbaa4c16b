-- The contract kept, check by check.
use Rattle.std.proofs.Common.{Ok, Err}
use mathlib.Core.Path.{◌≡◌, refl, sym, subst, ◌∙◌}
use mathlib.Core.List.{List, [], ◌∷◌}
use mathlib.Core.Bool.{Bool, true, false, cond}
use lib.Dec.{leb}
use lib.ListN.{length}
use Prim.Native.Nat.{ℕ, ◌≤◌}
use borrow.Author.Tests.{leb-true}
use Rattle.tree.specs.declared.Profile.{Profile}
use Rattle.table_row.specs.Buffer.{over}
use Rattle.table_row.specs.Tree.{tree_of}
use Rattle.table_rules.specs.declared.Refusal.{Refusal}
use Rattle.table_rules.specs.Answer.{is_accepted, Answer, refusal}
use Rattle.table_rules.specs.Faults.{first_refusal}
use Rattle.table_rules.specs.Contract.{check_due, CheckContract}
use Rattle.table_rules.proofs.Says.{Numbered, says-due, All, numbered-first, numbered-check}
use Rattle.table_rules.proofs.Passing.{check-is}
use Rattle.listing.specs.Writing.{text_of}
use Rattle.tree.proofs.Same.{and-true}
use Rattle.listing_write.specs.Contract.{fits, text_due, answer_due, Written, WriteContract}

-- a text that has room, or has not
module _ (s d : List ℕ) where
  pub done : fits (length s) (length d) ≡ true → Written (text_due s (length d)) s d (Ok (length s)) (over d s)
  done h = record { answered = rw h; text = rw h }

  -- number 3
  pub no_room : fits (length s) (length d) ≡ false → Written (text_due s (length d)) s d (Err (refusal 3 1 0)) d
  no_room h = record { answered = rw h; text = rw h }

  numbered-text : Numbered (text_due s (length d))
  numbered-text = go (fits (length s) (length d))
    where
      go : (b : Bool) → Numbered (cond b (Ok (length s)) (Err (refusal 3 1 0)))
      go true = refl
      go false = refl

module _ (p : Profile) (w d : List ℕ) where
  pub numbered-due : Numbered (answer_due p w (length d))
  unfolding answer_due All
  numbered-due = numbered-first (check_due p w ∷ []) (text_due (text_of (tree_of w)) (length d)) (numbered-check p w, tt) (numbered-text (text_of (tree_of w)) d)

  -- what is written as it is due meets the contract
  keeps : (a : Answer) (after : List ℕ) → Written (answer_due p w (length d)) (text_of (tree_of w)) d a after → WriteContract p w d a after
  keeps a after W = record { says = rw W.answered (says-due (answer_due p w (length d)) numbered-due); written = W.text }

  -- the table passes, and its text is written
  pub passes : (a b : Answer) (place : ℕ) (after : List ℕ) → CheckContract p w b → b ≡ Ok place → Written (text_due (text_of (tree_of w)) (length d)) (text_of (tree_of w)) d a after → WriteContract p w d a after
  unfolding answer_due first_refusal
  passes a b place after C e W =
      let h : answer_due p w (length d) ≡ text_due (text_of (tree_of w)) (length d) = due (sym (check-is p w b C) ∙ e) in
      keeps a after (subst (λ (x : Answer). Written x (text_of (tree_of w)) d a after) (sym h) W)
    where
      due : check_due p w ≡ Ok place → answer_due p w (length d) ≡ text_due (text_of (tree_of w)) (length d)
      due e = rw e

  -- it does not, and nothing is touched
  pub stops : (b : Answer) (r : Refusal) → CheckContract p w b → b ≡ Err r → WriteContract p w d b d
  unfolding answer_due first_refusal
  stops b r C e = keeps b d (record { answered = due (check-is p w b C); text = rest (sym (check-is p w b C) ∙ e) })
    where
      due : b ≡ check_due p w → b ≡ answer_due p w (length d)
      due f = f ∙ rw (sym f ∙ e)

      rest : check_due p w ≡ Err r → d ≡ cond (is_accepted (answer_due p w (length d))) (over d (text_of (tree_of w))) d
      rest f = rw f

pub fits-lent : (n room : ℕ) → fits n room ≡ true → n ≤ room
unfolding fits
fits-lent n room e = leb-true n room (and-true (leb n 65536) (leb n room) e).1

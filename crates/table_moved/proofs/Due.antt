-- The answer that a move is due, and its contract from what is written.
use Rattle.std.proofs.Common.{Ok, Err}
use mathlib.Core.Path.{◌≡◌, refl, sym, ap, subst, ◌∙◌}
use mathlib.Core.List.{List, [], ◌∷◌, ◌++◌}
use mathlib.Core.Bool.{true, false, cond, ◌&&◌}
use native.Mathlib.Omega.{arith}
use lib.Dec.{leb}
use lib.ListN.{length}
use Prim.Native.Nat.{ℕ, ◌/◌, ◌≤◌}
use borrow.Author.Tests.{leb-true}
use Rattle.tree.specs.Name.{Name}
use Rattle.tree.specs.Forest.{at}
use Rattle.tree.specs.declared.Profile.{Profile}
use Rattle.table_row.specs.Buffer.{over}
use Rattle.table_rules.specs.Answer.{number_of, side_of, place_of, is_accepted, Answer, refusal}
use Rattle.table_rules.specs.Refusal.{refusal_of, twins_due}
use Rattle.table_rules.specs.Keyed.{checked_in, twins, Passes}
use Rattle.table_rules.specs.Faults.{first_refusal, unless, room_rule}
use Rattle.tree.proofs.Same.{and-true}
use Rattle.table_rules.proofs.Faults.{first-append, refusal-fine, unless-true}
use Rattle.table_rules.proofs.Passing.{twins-fine}
use Rattle.table_rules.proofs.Says.{All, Numbered, numbered-first, numbered-refusal, numbered-twins, numbered-unless}
use Rattle.table_moved.specs.Path.{slots, path_rule}
use Rattle.table_moved.specs.Move.{parent_rule, moved_words, move_due, MoveContract}
use Rattle.table_moved.specs.Pieces.{tables_due, inputs_due, Written, PutIn, rest_due, CarriedOut}
use Rattle.table_moved.proofs.Faults.{all-passed, with-last}

-- what each rule says where it holds
pub path-depth : (names : List Name) (n : ℕ) → path_rule names n ≡ true → (1 ≤ n) × (n ≤ 16)
unfolding path_rule
path-depth names n e =
    let h = and-true (leb 1 n && leb n 16) (slots n names) e in
    let k = and-true (leb 1 n) (leb n 16) h.0 in
    (leb-true 1 n k.0, leb-true n 16 k.1)

pub path-slots : (names : List Name) (n : ℕ) → path_rule names n ≡ true → slots n names ≡ true
unfolding path_rule
path-slots names n e = (and-true (leb 1 n && leb n 16) (slots n names) e).1

-- a path of depth 1 has the root for its parent
pub root-parent : (p : Profile) (target : List ℕ) (names : List Name) → parent_rule p target names 1 ≡ true
unfolding at
root-parent p target names = refl

-- words that have room, or have not
module _ (words lent : List ℕ) (n : ℕ) (q : length words / 20 ≡ n) where
  pub put-in : (result : List ℕ) → room_rule n (length lent) ≡ true → result ≡ over lent words → PutIn words lent result (Ok n)
  unfolding first_refusal
  put-in result h e = record { answered = rw (q, h); room = rw (q, h) e }

  pub no_room : room_rule n (length lent) ≡ false → PutIn words lent lent (Err (refusal 3 2 0))
  unfolding first_refusal
  no_room h = record { answered = rw (q, h); room = rw (q, h) }

-- every check of a move
pub record Passed (p : Profile) (target source : List ℕ) (names : List Name) (depth : ℕ) (lent : List ℕ) : Type 0 where
  pub target-passes : Passes p target
  pub source-passes : Passes p source
  pub path : path_rule names depth ≡ true
  pub parent : parent_rule p target names depth ≡ true
  pub room : room_rule (length (moved_words p target source names depth) / 20) (length lent) ≡ true

module _ (p : Profile) (target source : List ℕ) (names : List Name) (depth : ℕ) where
  abbrev inputs : List Answer
  inputs =
      refusal_of (checked_in p target) 2 ∷
      refusal_of (checked_in p source) 3 ∷
      twins_due (twins p target) 2 ∷
      twins_due (twins p source) 3 ∷
      unless (path_rule names depth) 5 0 ∷
      []

  -- the tables' answer, and then the path's
  pub inputs-first : first_refusal (tables_due p target source ∷ []) (unless (path_rule names depth) 5 0) ≡ inputs_due p target source names depth
  unfolding tables_due inputs_due
  inputs-first =
      with-last (refusal_of (checked_in p target) 2 ∷ refusal_of (checked_in p source) 3 ∷ twins_due (twins p target) 2 ∷ []) (twins_due (twins p source) 3) (path_rule names depth) 5 0

  pub inputs-passed : (a : ℕ) → inputs_due p target source names depth ≡ Ok a → Passes p target × Passes p source × (1 ≤ depth) × (depth ≤ 16)
  unfolding All inputs_due
  inputs-passed a e =
      let h = all-passed inputs (Ok 0) a e in
      let d = path-depth names depth (unless-true (path_rule names depth) 5 0 h.1.1.1.1.0) in (
        record { checked-fine = refusal-fine (checked_in p target) 2 h.0; no-twins = twins-fine p target 2 h.1.1.0 },
        record { checked-fine = refusal-fine (checked_in p source) 3 h.1.0; no-twins = twins-fine p source 3 h.1.1.1.0 },
        d.0,
        d.1,
      )

  module _ (lent : List ℕ) where
    abbrev words : List ℕ
    words = moved_words p target source names depth

    abbrev rest : List Answer
    rest = unless (parent_rule p target names depth) 4 0 ∷ unless (room_rule (length words / 20) (length lent)) 3 2 ∷ []

    due-parts : move_due p target source names depth lent ≡ cond (is_accepted (inputs_due p target source names depth)) (rest_due p target source names depth lent) (inputs_due p target source names depth)
    unfolding move_due inputs_due first_refusal
    due-parts = first-append inputs rest (Ok (length words / 20))

    -- an accepted move has passed every check, and one that has is accepted
    pub move-passed : (a : ℕ) → move_due p target source names depth lent ≡ Ok a → Passed p target source names depth lent
    unfolding move_due All
    move-passed a e =
        let h = all-passed (inputs ++ rest) (Ok (length words / 20)) a e in
        record {
          target-passes = record { checked-fine = refusal-fine (checked_in p target) 2 h.0; no-twins = twins-fine p target 2 h.1.1.0 };
          source-passes = record { checked-fine = refusal-fine (checked_in p source) 3 h.1.0; no-twins = twins-fine p source 3 h.1.1.1.0 };
          path = unless-true (path_rule names depth) 5 0 h.1.1.1.1.0;
          parent = unless-true (parent_rule p target names depth) 4 0 h.1.1.1.1.1.0;
          room = unless-true (room_rule (length words / 20) (length lent)) 3 2 h.1.1.1.1.1.1.0;
        }

    pub move-accepted : Passed p target source names depth lent → move_due p target source names depth lent ≡ Ok (length words / 20)
    unfolding move_due first_refusal
    move-accepted P =
        rw (P.target-passes.checked-fine, P.source-passes.checked-fine, P.target-passes.no-twins, P.source-passes.no-twins, P.path, P.parent, P.room)

    numbered-due : Numbered (move_due p target source names depth lent)
    unfolding move_due All
    numbered-due =
        numbered-first (inputs ++ rest) (Ok (length words / 20)) (numbered-refusal (checked_in p target) 2, (numbered-refusal (checked_in p source) 3, (numbered-twins (twins p target) 2, (numbered-twins (twins p source) 3, (numbered-unless (path_rule names depth) 5 0 (λ z. omega arith), (numbered-unless (parent_rule p target names depth) 4 0 (λ z. omega arith), (numbered-unless (room_rule (length words / 20) (length lent)) 3 2 (λ z. omega arith), tt)))))))
        refl

    -- what is written as it is due meets the contract
    contract : (result : List ℕ) (answer : Answer) → Written (move_due p target source names depth lent) words lent result answer → MoveContract p target source names depth lent result answer
    contract result answer W = record {
      says = record { number-due = ap number_of W.answered; side-due = ap side_of W.answered; place-due = ap place_of W.answered; accepted = rw W.answered numbered-due };
      room = W.room;
    }

    -- where the tables and the path pass, numbers 4 and 3 are left
    pub passes : (a : ℕ) (result : List ℕ) (answer : Answer) → inputs_due p target source names depth ≡ Ok a → CarriedOut p target source names depth lent result answer
        → MoveContract p target source names depth lent result answer
    passes a result answer e W =
        let d : move_due p target source names depth lent ≡ rest_due p target source names depth lent = due-parts ∙ rw e in
        contract result answer (subst (λ (x : Answer). Written x words lent result answer) (sym d) W)

    -- where they do not, nothing is touched
    pub stops : (answer : Answer) (n side a : ℕ) → answer ≡ inputs_due p target source names depth → answer ≡ Err (refusal n side a) → MoveContract p target source names depth lent lent answer
    stops answer n side a e r =
        let d : move_due p target source names depth lent ≡ answer = due-parts ∙ rw (← e, r) in
        contract lent answer (record { answered = sym d; room = rw (d, r) })

    -- the path's parent is a folder, and what is written are the words of the moved tree
    pub carried-out : (w result : List ℕ) (answer : Answer) → parent_rule p target names depth ≡ true → words ≡ w → PutIn w lent result answer
        → CarriedOut p target source names depth lent result answer
    unfolding first_refusal
    carried-out w result answer h e W = rw (h, e) W

    -- it is none
    pub no-parent : parent_rule p target names depth ≡ false → CarriedOut p target source names depth lent lent (Err (refusal 4 0 0))
    unfolding first_refusal
    no-parent h = record { answered = rw h; room = rw h }

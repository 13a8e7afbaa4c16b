-- A run of checked tables, step by step: where the rooms are accepted the results have room, and what is written and counted
-- is what the run leaves.
use Rattle.std.proofs.Common.{Ok, Err}
use mathlib.Core.Path.{◌≡◌, refl, ap, sym, ◌∙◌}
use mathlib.Core.List.{List}
use mathlib.Core.Bool.{true}
use native.Mathlib.Omega.{arith}
use lib.ListN.{length, take, drop, length-append}
use lib.Seq.{length-take-le}
use lib.Dec.{leb}
use Prim.Native.Nat.{ℕ, zero, suc, ◌*◌, ◌/◌, ◌%◌, ◌≤◌}
use borrow.Author.Tests.{leb-true}
use Rattle.tree.specs.declared.Profile.{Profile}
use Rattle.tree.specs.Key.{fold}
use Rattle.table_row.specs.Buffer.{over}
use Rattle.table_row.specs.Keyed.{keyed}
use Rattle.table_row.specs.Tree.{tree_of}
use Rattle.table_rules.specs.declared.Refusal.{Refusal}
use Rattle.table_rules.specs.Answer.{is_accepted, Answer}
use Rattle.table_rules.specs.Refusal.{refusal_of, twins_due}
use Rattle.table_rules.specs.Keyed.{checked_in, twins, Passes}
use Rattle.table_rules.specs.Faults.{first_refusal, unless, room_rule}
use Rattle.plan.specs.Settle.{settled}
use Rattle.plan.specs.Writes.{Fills}
use Rattle.plan_tally.specs.declared.Tally.{Tally}
use Rattle.plan_tally.specs.Count.{counted_all}
use Rattle.plan_results.specs.declared.Tree.{Tree}
use Rattle.plan_results.specs.declared.Tree.TheVariants.{Archive, Left, Right}
use Rattle.plan_results.specs.Decisions.{decision_of, decisions, decided, pieces}
use Rattle.plan_results.specs.Pieces.{new_tree, piece_list}
use Rattle.plan_results.proofs.Pieces.{line-most}
use Rattle.table_rules.proofs.Faults.{first-passed, first-both, refusal-fine, unless-true, room-parts}
use Rattle.table_rules.proofs.Passing.{twins-fine}
use Rattle.plan_tally.proofs.Laws.{counts-list}
use Rattle.plan_run.specs.declared.Counts.{Counts}
use Rattle.plan_run.specs.Answer.{Reconciled}
use Rattle.plan_run.specs.Run.{given, Lent, lent, counts_of, twins_of, tables_due, rooms_due, room_due, run_due, filled, run_of, ReconcileContract}
use Rattle.plan_run.specs.Steps.{Words, planned_words, planned_counts, Spacious, Wrote, Settles}
use Rattle.plan_run.proofs.Planned.{Sound, outcome_words, planned-words, planned-counts, items-most, whole-rows, whole-lines}

-- rooms that are accepted
pub record Rooms (c : Counts) (a l r i : ℕ) : Type 0 where
  pub archive : c.archive ≤ a / 20
  pub left : c.left ≤ l / 20
  pub right : c.right ≤ r / 20
  pub list : c.list ≤ i / 3

rooms : (c : Counts) (a l r i : ℕ) → is_accepted (rooms_due c a l r i) ≡ true → Rooms c a l r i
unfolding rooms_due
rooms c a l r i h =
    let last = unless (leb c.list (i / 3)) 3 4 in
    let e = first-passed (unless (room_rule c.archive a) 3 1) _ last h in
    let f = first-passed (unless (room_rule c.left l) 3 2) _ last e.1 in
    let g = first-both (unless (room_rule c.right r) 3 3) last f.1 in
    record {
      archive = (room-parts c.archive a (unless-true _ 3 1 e.0)).1;
      left = (room-parts c.left l (unless-true _ 3 2 f.0)).1;
      right = (room-parts c.right r (unless-true _ 3 3 g.0)).1;
      list = leb-true c.list (i / 3) (unless-true _ 3 4 g.1);
    }

-- an item gives one line at most
lines-most : (n : ℕ) (p : List ℕ) → length (pieces piece_list (decisions n p)) ≤ 3 * n
unfolding pieces decisions
lines-most zero p = omega arith
lines-most (suc n) p = rw length-append (let h = line-most (decision_of p) in let k = lines-most n (drop 4 p) in omega arith)

-- what is known when the rooms are tried
pub record Tried (p : Profile) (o l r : List ℕ) (s e : List ℕ) (q : ℕ) (b : Lent) (c : Counts) (due : Answer) : Type 0 where
  pub o-sound : Sound p o
  pub l-sound : Sound p l
  pub r-sound : Sound p r
  pub planned : Fills s (settled (keyed p o) (keyed p l) (keyed p r)) e q
  pub fits : q ≤ length e
  pub counted : c ≡ planned_counts o l r (decided (take q e))
  pub due-is : due ≡ rooms_due c (length b.archive) (length b.left) (length b.right) (length b.list)

module _ {p : Profile} {o l r s e : List ℕ} {q : ℕ} {b : Lent} {c : Counts} {due : Answer} (T : Tried p o l r s e q b c due) where
  counts : c ≡ counts_of (given p o l r)
  counts = T.counted ∙ planned-counts p o l r T.o-sound T.l-sound T.r-sound s e q T.planned T.fits

  words : planned_words o l r (decided (take q e)) ≡ outcome_words p o l r
  words = planned-words p o l r T.o-sound T.l-sound T.r-sound s e q T.planned T.fits

  due-at : due ≡ room_due p o l r b
  due-at = T.due-is ∙ rw counts refl

  pub settles-refused : {x : Refusal} → due ≡ Err x → Settles p o l r b b (Err x)
  settles-refused h = record { answered = rw (← due-at, h) refl; left_in = rw (← due-at, h) refl }

  module _ (k : ℕ) (h : due ≡ Ok k) where
    R : Rooms c (length b.archive) (length b.left) (length b.right) (length b.list)
    R = rooms c _ _ _ _ (ap is_accepted (sym T.due-is ∙ h))

    whole : (t : Tree) → length (new_tree t o l r (decided (take q e))) % 20 ≡ 0
    whole = whole-rows p o l r T.o-sound T.l-sound T.r-sound s e q T.planned T.fits

    pub spacious : Spacious (planned_words o l r (decided (take q e))) b.archive b.left b.right b.list
    spacious = record {
      archive = omega (arith, R.archive, ap (λ (x : Counts). x.archive) T.counted, whole Archive);
      left = omega (arith, R.left, ap (λ (x : Counts). x.left) T.counted, whole Left);
      right = omega (arith, R.right, ap (λ (x : Counts). x.right) T.counted, whole Right);
      list = omega (arith, R.list, ap (λ (x : Counts). x.list) T.counted, whole-lines p o l r T.o-sound T.l-sound T.r-sound s e q T.planned T.fits);
    }

    -- the list's entries, within the words of its buffer
    pub entries : (x : List ℕ) → length x ≡ length b.list → (3 * c.list ≤ length x) × (c.list ≤ 12288)
    entries x i =
        let n = items-most p o l r T.o-sound T.l-sound T.r-sound s e q T.planned in
        (omega (arith, R.list), omega (arith, ap (λ (x : Counts). x.list) T.counted, lines-most (length (take q e) / 4) (take q e), length-take-le q e T.fits))

    pub settles-accepted : (a' l' r' i' : List ℕ) (t : Tally) → Wrote (planned_words o l r (decided (take q e))) b.archive b.left b.right b.list a' l' r' i'
        → t ≡ counted_all c.list i' → Settles p o l r b (lent a' l' r' i' t) (Ok c)
    settles-accepted a' l' r' i' t w m = record { answered = rw (← due-at, h, counts) refl; left_in = rw (← due-at, h) (rw (a-is, l-is, r-is, t-is, i-is) refl) }
      where
        a-is : a' ≡ (filled p o l r b).archive
        a-is = w.archive ∙ ap (λ (x : Words). over b.archive x.archive) words

        l-is : l' ≡ (filled p o l r b).left
        l-is = w.left ∙ ap (λ (x : Words). over b.left x.left) words

        r-is : r' ≡ (filled p o l r b).right
        r-is = w.right ∙ ap (λ (x : Words). over b.right x.right) words

        i-is : i' ≡ (filled p o l r b).list
        i-is = w.list ∙ ap (λ (x : Words). over b.list x.list) words

        t-is : t ≡ (filled p o l r b).tally
        t-is =
            m ∙ ap (λ (x : ℕ). counted_all x i') (ap (λ (x : Counts). x.list) counts)
            ∙ ap (counted_all (counts_of (given p o l r)).list) i-is
            ∙ counts-list b.list (fold p (tree_of l)) (fold p (tree_of r)) (given p o l r).lines

-- tables that are accepted keep the rules
pub tables-passed : (p : Profile) (o l r : List ℕ) → is_accepted (tables_due p o l r) ≡ true → Passes p o × Passes p l × Passes p r
unfolding tables_due twins_of
tables-passed p o l r h =
    let a = first-passed (refusal_of (checked_in p o) 1) _ (twins_of (twins p o) (twins p l) (twins p r)) h in
    let b = first-passed (refusal_of (checked_in p l) 2) _ (twins_of (twins p o) (twins p l) (twins p r)) a.1 in
    let c = first-both (refusal_of (checked_in p r) 3) (twins_of (twins p o) (twins p l) (twins p r)) b.1 in
    let d = first-passed (twins_due (twins p o) 1) _ (twins_due (twins p r) 3) c.1 in
    let e = first-both (twins_due (twins p l) 2) (twins_due (twins p r) 3) d.1 in (
      record { checked-fine = refusal-fine (checked_in p o) 1 a.0; no-twins = twins-fine p o 1 d.0 },
      record { checked-fine = refusal-fine (checked_in p l) 2 b.0; no-twins = twins-fine p l 2 e.0 },
      record { checked-fine = refusal-fine (checked_in p r) 3 c.0; no-twins = twins-fine p r 3 e.1 },
    )

module _ (p : Profile) (o l r : List ℕ) (b : Lent) (due : Answer) (e : due ≡ tables_due p o l r) where
  -- the rooms decide
  pub run-settles : (k : ℕ) → due ≡ Ok k → {after : Lent} {a : Reconciled} → Settles p o l r b after a → ReconcileContract p o l r b after a
  unfolding run_due run_of first_refusal
  run-settles k h S = let z : tables_due p o l r ≡ Ok k = sym e ∙ h in record { answered = rw z S.answered; left_in = rw z S.left_in }

  -- a refusal of a table has no counts, and leaves all as it was
  pub run-refused : {x : Refusal} → due ≡ Err x → ReconcileContract p o l r b b (Err x)
  unfolding run_due run_of first_refusal
  run-refused {x} h = let z : tables_due p o l r ≡ Err x = sym e ∙ h in record { answered = rw z refl; left_in = rw z refl }

-- A reconciliation's place and counts have 32 bits: a row, at most 4,096 rows, at most 12,285 list entries.
use Rattle.std.proofs.Common.{Ok, Err}
use mathlib.Core.Path.{◌≡◌, refl}
use mathlib.Core.List.{List}
use mathlib.Core.Bool.{true}
use native.Mathlib.Omega.{arith}
use lib.Dec.{leb}
use lib.ListN.{length, get_or}
use mir.Syntax.{w32}
use mir.Val.{Fits}
use Prim.Native.Nat.{ℕ, ◌/◌, ◌≤◌}
use Rattle.tree.specs.Forest.{Sorted}
use Rattle.tree.specs.declared.Profile.{Profile}
use Rattle.tree.specs.Key.{fold}
use Rattle.tree.proofs.Folds.{size-fold}
use Rattle.table_row.specs.Tree.{tree_of}
use Rattle.table_rules.specs.Answer.{place_of, is_accepted, Answer}
use Rattle.table_rules.specs.Refusal.{refusal_of, twins_due}
use Rattle.table_rules.specs.Keyed.{checked_in, twins, Passes}
use Rattle.table_rules.specs.Faults.{unless, room_rule}
use Rattle.table_rules.proofs.Small.{small_all}
use Rattle.table_rules.proofs.Passed.{passed-formed, passed-most}
use Rattle.plan.proofs.Bound.{lines-bound}
use Rattle.plan_run.specs.Answer.{answer_with}
use Rattle.plan_run.specs.Run.{given, Lent, counts_of, twins_of, tables_due, rooms_due, run_due, run_of}
use Rattle.plan_run.proofs.Accepted.{Passed, passed}
use Rattle.kantifero_calls.specs.Words.{Narrow}
use Rattle.kantifero_calls.proofs.Bounds.{refusal-place, twins-place, unless-place, first-place, last-place}

module _ (p : Profile) (o l r : List ℕ) (b : Lent) where
  tables-place : place_of (tables_due p o l r) ≤ 4096
  unfolding tables_due twins_of
  tables-place =
      first-place 4096 (refusal_of (checked_in p o) 1) _ _ (refusal-place p o 1)
      (λ x.
      first-place 4096 (refusal_of (checked_in p l) 2) _ _ (refusal-place p l 2)
      (λ y.
      last-place 4096 (refusal_of (checked_in p r) 3) _ (refusal-place p r 3)
      (λ z.
      first-place 4096 (twins_due (twins p o) 1) _ _ (twins-place p o 1 x)
      (λ u. last-place 4096 (twins_due (twins p l) 2) _ (twins-place p l 2 y) (λ v. twins-place p r 3 z)))))

  run-place : place_of (run_due p o l r b) ≤ 4096
  unfolding run_due rooms_due
  run-place =
      let n = counts_of (given p o l r) in
      last-place 4096 (tables_due p o l r) _ tables-place
      (λ t.
      first-place 4096 (unless (room_rule n.archive (length b.archive)) 3 1) _ _ (unless-place (room_rule n.archive (length b.archive)) 3 1)
      (λ x.
      first-place 4096 (unless (room_rule n.left (length b.left)) 3 2) _ _ (unless-place (room_rule n.left (length b.left)) 3 2)
      (λ y.
      last-place 4096 (unless (room_rule n.right (length b.right)) 3 3) _ (unless-place (room_rule n.right (length b.right)) 3 3)
      (λ z. unless-place (leb n.list (length b.list / 3)) 3 4))))

  module _ (so : (k : ℕ) → Fits w32 (get_or o k 0)) (sl : (k : ℕ) → Fits w32 (get_or l k 0)) (sr : (k : ℕ) → Fits w32 (get_or r k 0)) where
    sorted : (w : List ℕ) → Passes p w → ((k : ℕ) → Fits w32 (get_or w k 0)) → Sorted (fold p (tree_of w))
    sorted w P s = (passed-formed p w P (small_all w (λ k. omega (arith, s k)))).sorted

    entries : Passed p o l r b → length (given p o l r).lines ≤ 12285
    entries P =
        omega (
          arith,
          lines-bound (fold p (tree_of o)) (fold p (tree_of l)) (fold p (tree_of r)) (sorted o P.archive-passes so) (sorted l P.left-passes sl) (sorted r P.right-passes sr),
          size-fold p (tree_of o),
          size-fold p (tree_of l),
          size-fold p (tree_of r),
          passed-most p o P.archive-passes,
          passed-most p l P.left-passes,
          passed-most p r P.right-passes,
        )

    pub run-narrow : Narrow (run_of p o l r b).answer
    unfolding run_of
    run-narrow = go (run_due p o l r b) run-place (passed p o l r b)
      where
        go : (a : Answer) → place_of a ≤ 4096 → (is_accepted a ≡ true → Passed p o l r b) → Narrow (answer_with a (counts_of (given p o l r)))
        go (Ok q) h k =
            let P = k refl in
            let e = entries P in
            record {
              archive = omega (arith, P.room.archive.0);
              left = omega (arith, P.room.left.0);
              right = omega (arith, P.room.right.0);
              list = omega arith;
            }
        go (Err r) h k = omega arith

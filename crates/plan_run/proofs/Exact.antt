-- Where every byte counts, a run is the one of the trees as they are named: no keys, and no number 16.
use Rattle.std.proofs.Common.{Ok, Err, Option, Some, None}
use mathlib.Core.Path.{◌≡◌, refl}
use mathlib.Core.List.{List, [], ◌∷◌, ◌++◌}
use mathlib.Core.Bool.{cond}
use lib.ListN.{length}
use Prim.Native.Nat.{ℕ}
use Rattle.tree.specs.declared.Profile.TheVariants.{Exact}
use Rattle.tree.proofs.Folds.{fold-exact}
use Rattle.settle.specs.Results.{Outcome, outcome}
use Rattle.settle.proofs.Spelled.{left-exact, right-exact, archive-exact}
use Rattle.table_row.specs.Buffer.{over}
use Rattle.table_row.specs.Keyed.{keyed}
use Rattle.table_row.specs.Tree.{table, tree_of}
use Rattle.table_row.proofs.Keyed.{keyed-exact}
use Rattle.table_rules.specs.declared.Fault.{Fault}
use Rattle.table_rules.specs.declared.Fault.TheVariants.{BadLength, BadRow}
use Rattle.table_rules.specs.Answer.{is_accepted, Answer}
use Rattle.table_rules.specs.Refusal.{refusal_of}
use Rattle.table_rules.specs.Faults.{first_refusal}
use Rattle.table_rules.specs.Keyed.{twins}
use Rattle.table_rules.proofs.Plain.{checked}
use Rattle.table_rules.proofs.Exact.{checked-exact}
use Rattle.plan_cursor.specs.Three.{Three}
use Rattle.plan.specs.Items.{list_words}
use Rattle.plan.specs.Settle.{settled}
use Rattle.plan_tally.specs.Count.{tally_of}
use Rattle.plan_run.specs.Answer.{answer_with}
use Rattle.plan_run.specs.Run.{Lent, counts_of, twins_of, tables_due, rooms_due, run_due, RunOutcome, run_of}

-- the tables' faults: archive, left, right
pub tables_plain : List ℕ → List ℕ → List ℕ → Answer
tables_plain o l r = first_refusal (refusal_of (checked o) 1 ∷ refusal_of (checked l) 2 ∷ []) (refusal_of (checked r) 3)

abbrev given_plain : List ℕ → List ℕ → List ℕ → Outcome
given_plain o l r = outcome (tree_of o) (tree_of l) (tree_of r)

due_plain : List ℕ → List ℕ → List ℕ → Lent → Answer
due_plain o l r b =
    first_refusal (tables_plain o l r ∷ []) (rooms_due (counts_of (given_plain o l r)) (length b.archive) (length b.left) (length b.right) (length b.list))

-- a run of three tables as they are named
pub run_plain : List ℕ → List ℕ → List ℕ → Lent → RunOutcome
run_plain o l r b = record {
  answer = answer_with (due_plain o l r b) (counts_of (given_plain o l r));
  lent = cond (is_accepted (due_plain o l r b)) (record {
    archive = over b.archive (table (given_plain o l r).archive);
    left = over b.left (table (given_plain o l r).left);
    right = over b.right (table (given_plain o l r).right);
    list = over b.list (list_words (tree_of l) (tree_of r) (given_plain o l r).lines);
    tally = tally_of (given_plain o l r).lines;
  }) b;
}

-- the last check's answer may stand last
last-check : (xs : List Answer) (c : Option Fault) (side : ℕ) → first_refusal (xs ++ (refusal_of c side ∷ [])) (Ok 0) ≡ first_refusal xs (refusal_of c side)
unfolding first_refusal
last-check [] None side = refl
last-check [] (Some BadLength) side = refl
last-check [] (Some (BadRow i)) side = refl
last-check (Ok p ∷ xs) c side = last-check xs c side
last-check (Err r ∷ xs) c side = refl

pub tables-exact : (o l r : List ℕ) → tables_due Exact o l r ≡ tables_plain o l r
unfolding tables_due twins_of twins tables_plain first_refusal
tables-exact o l r = rw (checked-exact o, checked-exact l, checked-exact r) (last-check (refusal_of (checked o) 1 ∷ refusal_of (checked l) 2 ∷ []) (checked r) 3)

pub run-exact : (o l r : List ℕ) (b : Lent) → run_of Exact o l r b ≡ run_plain o l r b
unfolding run_of run_due run_plain due_plain
run-exact o l r b =
    rw (
      tables-exact o l r,
      archive-exact (tree_of o) (tree_of l) (tree_of r),
      left-exact (tree_of o) (tree_of l) (tree_of r),
      right-exact (tree_of o) (tree_of l) (tree_of r),
      fold-exact (tree_of o),
      fold-exact (tree_of l),
      fold-exact (tree_of r),
    )

-- the tables are their own tables of keys
pub settled-exact : (o l r : List ℕ) → Three o l r → settled (keyed Exact o) (keyed Exact l) (keyed Exact r) ≡ settled o l r
settled-exact o l r T = rw (keyed-exact o T.o-whole, keyed-exact l T.l-whole, keyed-exact r T.r-whole)

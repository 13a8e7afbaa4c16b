-- DEMAND 2 over calls, for all words and all rooms, in either profile.
use mathlib.Core.Path.{◌≡◌}
use mathlib.Core.List.{List}
use mathlib.Core.Bool.{true}
use Prim.Native.Nat.{ℕ}
use Rattle.tree.specs.Rules.{Words32}
use Rattle.tree.specs.declared.Profile.{Profile}
use Rattle.settle.specs.Spelled.{new_left_in, new_right_in, new_archive_in}
use Rattle.table_row.specs.Tree.{tree_of}
use Rattle.table_rules.specs.Answer.{is_accepted}
use Rattle.plan_run.specs.Run.{Lent, run_due, run_of}
use Rattle.settle.proofs.Spelled.{settled-in}
use Rattle.table_rules.proofs.Passed.{passed-formed}
use Rattle.plan_run.proofs.Accepted.{passed}
use Rattle.demands.specs.Demand2.{Demand2}

pub demand-2 : (p : Profile) (o l r : List ℕ) (b : Lent) → Words32 o → Words32 l → Words32 r → is_accepted (run_due p o l r b) ≡ true → Demand2 p o l r b
unfolding run_of
demand-2 p o l r b wo wl wr h =
    let P = passed p o l r b h in
    record {
      c = new_left_in p (tree_of o) (tree_of l) (tree_of r);
      d = new_right_in p (tree_of o) (tree_of l) (tree_of r);
      n = new_archive_in p (tree_of o) (tree_of l) (tree_of r);
      left = rw h;
      right = rw h;
      archive = rw h;
      settled = settled-in p (tree_of o) (tree_of l) (tree_of r) (passed-formed p o P.archive-passes wo).sorted (passed-formed p l P.left-passes wl).sorted
          (passed-formed p r P.right-passes wr).sorted;
    }

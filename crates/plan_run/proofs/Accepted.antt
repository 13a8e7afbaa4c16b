-- A run is accepted exactly when the three tables keep the rules and every result has room.
use Rattle.std.proofs.Common.{Ok}
use mathlib.Core.Path.{◌≡◌}
use mathlib.Core.List.{List}
use mathlib.Core.Bool.{true}
use lib.Dec.{leb}
use lib.ListN.{length}
use Prim.Native.Nat.{ℕ, ◌/◌, ◌≤◌}
use borrow.Author.Tests.{leb-true, le-leb}
use Rattle.tree.specs.declared.Profile.{Profile}
use Rattle.table_rules.specs.Answer.{is_accepted}
use Rattle.table_rules.specs.Keyed.{Passes}
use Rattle.table_rules.specs.Faults.{first_refusal, unless, room_rule}
use Rattle.settle.specs.Results.{Outcome}
use Rattle.table_rules.proofs.Faults.{first-passed, first-both, unless-true, room-parts, room_fits}
use Rattle.plan_run.proofs.Steps.{tables-passed}
use Rattle.plan_run.specs.Run.{given, Lent, counts_of, twins_of, tables_due, rooms_due, run_due}

-- the results of an outcome have room
pub record Room (u : Outcome) (b : Lent) : Type 0 where
  pub archive : ((counts_of u).archive ≤ 4096) × ((counts_of u).archive ≤ length b.archive / 20)
  pub left : ((counts_of u).left ≤ 4096) × ((counts_of u).left ≤ length b.left / 20)
  pub right : ((counts_of u).right ≤ 4096) × ((counts_of u).right ≤ length b.right / 20)
  pub list : (counts_of u).list ≤ length b.list / 3

pub record Passed (p : Profile) (o l r : List ℕ) (b : Lent) : Type 0 where
  pub archive-passes : Passes p o
  pub left-passes : Passes p l
  pub right-passes : Passes p r
  pub room : Room (given p o l r) b

pub passed : (p : Profile) (o l r : List ℕ) (b : Lent) → is_accepted (run_due p o l r b) ≡ true → Passed p o l r b
unfolding run_due rooms_due
passed p o l r b h =
    let n = counts_of (given p o l r) in
    let t = first-both (tables_due p o l r) _ h in
    let k = tables-passed p o l r t.0 in
    let last = unless (leb n.list (length b.list / 3)) 3 4 in
    let e = first-passed (unless (room_rule n.archive (length b.archive)) 3 1) _ last t.1 in
    let f = first-passed (unless (room_rule n.left (length b.left)) 3 2) _ last e.1 in
    let g = first-both (unless (room_rule n.right (length b.right)) 3 3) last f.1 in
    record {
      archive-passes = k.0;
      left-passes = k.1;
      right-passes = k.2;
      room = record {
        archive = room-parts n.archive (length b.archive) (unless-true _ 3 1 e.0);
        left = room-parts n.left (length b.left) (unless-true _ 3 2 f.0);
        right = room-parts n.right (length b.right) (unless-true _ 3 3 g.0);
        list = leb-true n.list (length b.list / 3) (unless-true _ 3 4 g.1);
      };
    }

pub accepted : (p : Profile) (o l r : List ℕ) (b : Lent) → Passed p o l r b → run_due p o l r b ≡ Ok 0
unfolding run_due tables_due twins_of rooms_due first_refusal
accepted p o l r b P =
    rw (
      P.archive-passes.checked-fine,
      P.left-passes.checked-fine,
      P.right-passes.checked-fine,
      P.archive-passes.no-twins,
      P.left-passes.no-twins,
      P.right-passes.no-twins,
      room_fits _ _ P.room.archive.0 P.room.archive.1,
      room_fits _ _ P.room.left.0 P.room.left.1,
      room_fits _ _ P.room.right.0 P.room.right.1,
      le-leb _ _ P.room.list,
    )

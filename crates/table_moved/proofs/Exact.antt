-- Where every byte counts, a move is the one of the trees as they are named: no keys, and no number 16.
use Rattle.std.proofs.Common.{Ok}
use mathlib.Core.Path.{◌≡◌}
use mathlib.Core.List.{List, [], ◌∷◌}
use mathlib.Core.Bool.{cond}
use lib.ListN.{length}
use Prim.Native.Nat.{ℕ, ◌/◌}
use Rattle.tree.specs.Name.{Name}
use Rattle.tree.specs.Forest.{Node.folder, at}
use Rattle.tree.specs.declared.Profile.TheVariants.{Exact}
use Rattle.tree.proofs.Folds.{fold-exact, path-exact}
use Rattle.settle.specs.Resume.{moved}
use Rattle.settle.proofs.Spelled.{moved-exact}
use Rattle.table_row.specs.Buffer.{over}
use Rattle.table_row.specs.Tree.{table, tree_of}
use Rattle.table_rules.specs.Answer.{is_accepted, Answer}
use Rattle.table_rules.specs.Refusal.{refusal_of}
use Rattle.table_rules.specs.Keyed.{twins}
use Rattle.table_rules.specs.Faults.{first_refusal, unless, room_rule}
use Rattle.table_rules.proofs.Plain.{checked}
use Rattle.table_rules.proofs.Exact.{checked-exact}
use Rattle.table_moved.specs.Path.{path_of, parent_of, path_rule}
use Rattle.table_moved.specs.Move.{is_folder, move_due, MoveOutcome, move_of}

-- the words of the target after a move of trees as they are named
abbrev words_plain : List ℕ → List ℕ → List Name → ℕ → List ℕ
words_plain target source names depth = table (moved (path_of names depth) (tree_of source) (tree_of target))

-- the target's fault, the source's, 5, 4, 3
due_plain : List ℕ → List ℕ → List Name → ℕ → List ℕ → Answer
due_plain target source names depth lent =
    first_refusal
    (refusal_of (checked target) 2 ∷
    refusal_of (checked source) 3 ∷
    unless (path_rule names depth) 5 0 ∷
    unless (is_folder (at (folder (tree_of target)) (parent_of names depth))) 4 0 ∷
    unless (room_rule (length (words_plain target source names depth) / 20) (length lent)) 3 2 ∷
    [])
    (Ok (length (words_plain target source names depth) / 20))

-- a move of two tables as they are named
pub move_plain : List ℕ → List ℕ → List Name → ℕ → List ℕ → MoveOutcome
move_plain target source names depth lent = record {
  answer = due_plain target source names depth lent;
  room = cond (is_accepted (due_plain target source names depth lent)) (over lent (words_plain target source names depth)) lent;
}

module _ (target source : List ℕ) (names : List Name) (depth : ℕ) (lent : List ℕ) where
  due-exact : move_due Exact target source names depth lent ≡ due_plain target source names depth lent
  unfolding move_due twins first_refusal due_plain
  due-exact =
      rw (
        checked-exact target,
        checked-exact source,
        fold-exact (tree_of target),
        path-exact (parent_of names depth),
        moved-exact (path_of names depth) (tree_of source) (tree_of target),
      )

  pub move-exact : move_of Exact target source names depth lent ≡ move_plain target source names depth lent
  unfolding move_plain
  move-exact = rw (due-exact, moved-exact (path_of names depth) (tree_of source) (tree_of target))

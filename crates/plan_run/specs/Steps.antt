-- A run's steps over words: what a plan's decisions give, the rooms they need, and what is left in the buffers.
use Rattle.std.specs.Prelude.{◌≡◌, List, cond, length, ℕ, ◌+◌, ◌/◌, ◌≤◌}
use Rattle.tree.specs.declared.Profile.{Profile}
use Rattle.table_row.specs.Buffer.{over}
use Rattle.table_rules.specs.Answer.{is_accepted}
use Rattle.plan_cursor.specs.declared.Decision.{Decision}
use Rattle.plan_results.specs.declared.Tree.TheVariants.{Archive, Left, Right}
use Rattle.plan_results.specs.Decisions.{pieces}
use Rattle.plan_results.specs.Pieces.{new_tree, piece_list}
use Rattle.plan_run.specs.declared.Counts.{Counts}
use Rattle.plan_run.specs.Answer.{Reconciled, answer_with}
use Rattle.plan_run.specs.Run.{given, Lent, counts_of, room_due, filled}

-- the rows of three tables
abbrev pub rows_of : List ℕ → List ℕ → List ℕ → ℕ
rows_of o l r = length o / 20 + length l / 20 + length r / 20

-- the words of the new archive, left and right, and of the list
pub record Words : Type 0 where
  pub archive : List ℕ
  pub left : List ℕ
  pub right : List ℕ
  pub list : List ℕ

abbrev pub planned_words : List ℕ → List ℕ → List ℕ → List Decision → Words
planned_words o l r ds = record {
  archive = new_tree Archive o l r ds;
  left = new_tree Left o l r ds;
  right = new_tree Right o l r ds;
  list = pieces piece_list ds;
}

-- the rows and entries that they are
abbrev pub planned_counts : List ℕ → List ℕ → List ℕ → List Decision → Counts
planned_counts o l r ds = record {
  archive = length (new_tree Archive o l r ds) / 20;
  left = length (new_tree Left o l r ds) / 20;
  right = length (new_tree Right o l r ds) / 20;
  list = length (pieces piece_list ds) / 3;
}

-- there is room for them
pub record Spacious (w : Words) (a l r i : List ℕ) : Type 0 where
  pub archive : length w.archive ≤ length a
  pub left : length w.left ≤ length l
  pub right : length w.right ≤ length r
  pub list : length w.list ≤ length i

-- each is at the start of its buffer
pub record Wrote (w : Words) (a l r i a' l' r' i' : List ℕ) : Type 0 where
  pub archive : a' ≡ over a w.archive
  pub left : l' ≡ over l w.left
  pub right : r' ≡ over r w.right
  pub list : i' ≡ over i w.list

-- what a run of tables that keep the rules answers and leaves
pub record Settles (p : Profile) (o l r : List ℕ) (before after : Lent) (answer : Reconciled) : Type 0 where
  pub answered : answer ≡ answer_with (room_due p o l r before) (counts_of (given p o l r))
  pub left_in : after ≡ cond (is_accepted (room_due p o l r before)) (filled p o l r before) before

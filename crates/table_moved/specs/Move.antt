-- A move: the target's subtree at a path becomes the source's, absence included; names are matched by a key.
use Rattle.std.specs.Prelude.{◌≡◌, List, [], ◌∷◌, Bool, true, false, cond, length, ℕ, ◌/◌, Ok}
use Rattle.tree.specs.Name.{Name}
use Rattle.tree.specs.Forest.{Node, Node.absent, Node.file, Node.folder, at}
use Rattle.tree.specs.declared.Profile.{Profile}
use Rattle.tree.specs.Key.{fold, fold_path}
use Rattle.settle.specs.Spelled.{moved_in}
use Rattle.table_row.specs.Buffer.{over}
use Rattle.table_row.specs.Tree.{table, tree_of}
use Rattle.table_rules.specs.Answer.{number_of, side_of, place_of, is_accepted, Says, Answer}
use Rattle.table_rules.specs.Refusal.{refusal_of, twins_due}
use Rattle.table_rules.specs.Keyed.{checked_in, twins}
use Rattle.table_rules.specs.Faults.{first_refusal, unless, room_rule}
use Rattle.table_moved.specs.Path.{path_of, parent_of, path_rule}

abbrev pub is_folder : Node → Bool
is_folder absent = false
is_folder (file c) = false
is_folder (folder k) = true

-- number 4: the path's parent is a folder in the target
abbrev pub parent_rule : Profile → List ℕ → List Name → ℕ → Bool
parent_rule p target names depth = is_folder (at (folder (fold p (tree_of target))) (fold_path p (parent_of names depth)))

-- the words of the target after the move
abbrev pub moved_words : Profile → List ℕ → List ℕ → List Name → ℕ → List ℕ
moved_words p target source names depth = table (moved_in p (path_of names depth) (tree_of source) (tree_of target))

-- the answer that is due: 1 and 2 of the target and of the source, 16 of each, 5, 4, 3; accepted, the rows of the whole result
unfoldable pub move_due : Profile → List ℕ → List ℕ → List Name → ℕ → List ℕ → Answer
move_due p target source names depth lent =
    first_refusal
    (refusal_of (checked_in p target) 2 ∷
    refusal_of (checked_in p source) 3 ∷
    twins_due (twins p target) 2 ∷
    twins_due (twins p source) 3 ∷
    unless (path_rule names depth) 5 0 ∷
    unless (parent_rule p target names depth) 4 0 ∷
    unless (room_rule (length (moved_words p target source names depth) / 20) (length lent)) 3 2 ∷
    [])
    (Ok (length (moved_words p target source names depth) / 20))

-- a move with the room lent to it: what is answered, and the room afterwards
pub record MoveOutcome : Type 0 where
  pub answer : Answer
  pub room : List ℕ

-- a refusal touches nothing, and what lies past the result stays
abbrev pub move_of : Profile → List ℕ → List ℕ → List Name → ℕ → List ℕ → MoveOutcome
move_of p target source names depth lent = record {
  answer = move_due p target source names depth lent;
  room = cond (is_accepted (move_due p target source names depth lent)) (over lent (moved_words p target source names depth)) lent;
}

-- the contract of a move: the answer that is due, and the room afterwards
pub record MoveContract (p : Profile) (target source : List ℕ) (names : List Name) (depth : ℕ) (lent result : List ℕ) (answer : Answer) : Type 0 where
  pub says :
      Says answer (number_of (move_of p target source names depth lent).answer) (side_of (move_of p target source names depth lent).answer)
      (place_of (move_of p target source names depth lent).answer)
  pub room : result ≡ (move_of p target source names depth lent).room

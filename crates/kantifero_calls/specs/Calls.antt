-- What each exported call leaves in a profile: the answer's eight words, and every lent buffer, for all inputs.
use Rattle.std.specs.Prelude.{◌≡◌, List, cond, length, ℕ}
use Rattle.tree.specs.Name.{Name}
use Rattle.tree.specs.declared.Profile.{Profile}
use Rattle.table_row.specs.Buffer.{over}
use Rattle.table_row.specs.Tree.{tree_of}
use Rattle.table_rules.specs.Answer.{is_accepted}
use Rattle.plan_run.specs.Run.{Lent, run_of}
use Rattle.table_moved.specs.Move.{move_of}
use Rattle.listing.specs.Writing.{text_of}
use Rattle.listing.specs.Reading.{answer_of, reading}
use Rattle.listing_read_lines.specs.Contract.{table_after}
use Rattle.listing_write.specs.Contract.{answer_due}
use Rattle.kantifero_calls.specs.Words.{eight, answer_words, reconciled_words, tally_words}

-- a reconciliation; before is what was lent, with the three words of the tally read as one
pub record ReconcileCall (p : Profile) (o l r : List ℕ) (before : Lent) (archive left right list tally answer : List ℕ) : Type 0 where
  pub answered : answer ≡ reconciled_words (run_of p o l r before).answer
  pub archive-left : archive ≡ (run_of p o l r before).lent.archive
  pub left-left : left ≡ (run_of p o l r before).lent.left
  pub right-left : right ≡ (run_of p o l r before).lent.right
  pub list_left : list ≡ (run_of p o l r before).lent.list
  pub tally-left : tally ≡ tally_words (run_of p o l r before).lent.tally

-- a move
pub record MoveCall (p : Profile) (target source : List ℕ) (names : List Name) (depth : ℕ) (lent result answer : List ℕ) : Type 0 where
  pub answered : answer ≡ answer_words (move_of p target source names depth lent).answer
  pub room : result ≡ (move_of p target source names depth lent).room

-- a table w written into the bytes d
pub record WriteCall (p : Profile) (w d after answer : List ℕ) : Type 0 where
  pub answered : answer ≡ answer_words (answer_due p w (length d))
  pub written : after ≡ cond (is_accepted (answer_due p w (length d))) (over d (text_of (tree_of w))) d

-- a text t read into the words lent, before
pub record ReadCall (p : Profile) (t before after answer : List ℕ) : Type 0 where
  pub answered :
      answer ≡ eight (answer_of (reading p t (length before))).number (answer_of (reading p t (length before))).side (answer_of (reading p t (length before))).place
  pub table : after ≡ table_after (reading p t (length before)) (length before)

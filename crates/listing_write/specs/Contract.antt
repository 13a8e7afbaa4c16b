-- What writing a table promises: the answer, and what the lent text holds afterwards, whatever is lent.
use Rattle.std.specs.Prelude.{◌≡◌, List, [], ◌∷◌, Bool, cond, ◌&&◌, leb, length, ℕ, Ok, Err}
use Rattle.tree.specs.declared.Profile.{Profile}
use Rattle.table_row.specs.Buffer.{over}
use Rattle.table_row.specs.Tree.{tree_of}
use Rattle.table_rules.specs.Answer.{number_of, side_of, place_of, is_accepted, Says, Answer, refusal}
use Rattle.table_rules.specs.Faults.{first_refusal}
use Rattle.table_rules.specs.Contract.{check_due}
use Rattle.listing.specs.Writing.{text_of}

-- at most 65,536 bytes, and no more than are lent
unfoldable pub fits : ℕ → ℕ → Bool
fits n room = leb n 65536 && leb n room

-- number 3 for the text s, with side 1; else the bytes written
abbrev pub text_due : List ℕ → ℕ → Answer
text_due s room = cond (fits (length s) room) (Ok (length s)) (Err (refusal 3 1 0))

-- the answer that is due to a table and the bytes lent for its text: 1, 2 or 16 for the table, then 3, each with side 1
unfoldable pub answer_due : Profile → List ℕ → ℕ → Answer
answer_due p w room = first_refusal (check_due p w ∷ []) (text_due (text_of (tree_of w)) room)

-- a text written where it is due, into the bytes d
pub record Written (due : Answer) (s d : List ℕ) (answer : Answer) (after : List ℕ) : Type 0 where
  pub answered : answer ≡ due
  pub text : after ≡ cond (is_accepted due) (over d s) d

-- a refusal leaves the bytes d as they were, a success what is past the text
pub record WriteContract (p : Profile) (w d : List ℕ) (answer : Answer) (after : List ℕ) : Type 0 where
  pub says : Says answer (number_of (answer_due p w (length d))) (side_of (answer_due p w (length d))) (place_of (answer_due p w (length d)))
  pub written : after ≡ cond (is_accepted (answer_due p w (length d))) (over d (text_of (tree_of w))) d

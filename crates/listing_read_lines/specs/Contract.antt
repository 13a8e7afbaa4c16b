-- What reading a listing in a profile promises: the answer, and what the lent table holds afterwards, whatever the text and
-- the room.
use Rattle.std.specs.Prelude.{◌≡◌, List, Bool, true, false, length, ℕ}
use Rattle.tree.specs.declared.Profile.{Profile}
use Rattle.table_row.specs.Buffer.{over}
use Rattle.table_row.specs.Tree.{table}
use Rattle.table_rules.specs.Answer.{is_accepted, Says, Answer}
use Rattle.listing.specs.Reading.{State, ended, Outcome, Outcome.refused, Outcome.accepted, answer_of, reading}
use Rattle.listing_reader.specs.declared.Reader.{Reader}
use Rattle.listing_reader.specs.State.{zeroed, Reads}

-- an answer is an outcome's number, side and place
abbrev pub Answers : Answer → Outcome → Type 0
Answers a o = Says a (answer_of o).number (answer_of o).side (answer_of o).place

-- a tree was accepted
abbrev pub is_taken : Outcome → Bool
is_taken (refused n line) = false
is_taken (accepted f) = true

-- all zero after a refusal; after a success the tree's table, and zeros past it
abbrev pub table_after : Outcome → ℕ → List ℕ
table_after (refused n line) room = zeroed room
table_after (accepted f) room = over (zeroed room) (table f)

-- the words lent, before, and after
pub record ReadContract (p : Profile) (t before : List ℕ) (answer : Answer) (after : List ℕ) : Type 0 where
  pub says : Answers answer (reading p t (length before))
  pub kind : is_accepted answer ≡ is_taken (reading p t (length before))
  pub table : after ≡ table_after (reading p t (length before)) (length before)

-- the lines of a text read into a table of zeros, which a refusal leaves as it comes
pub record RanLines (o : Outcome) (room : ℕ) (answer : Answer) (after : List ℕ) : Type 0 where
  pub says : Answers answer o
  pub kind : is_accepted answer ≡ is_taken o
  pub table : is_accepted answer ≡ true → after ≡ table_after o room

-- what is due at the end of a text, whatever state the struct stands for
pub record Ends (s : Reader) (answer : Answer) : Type 0 where
  pub does : (p : Profile) (w : List ℕ) (t : State) → Reads p w s t → Answers answer (ended t) × (is_accepted answer ≡ is_taken (ended t))

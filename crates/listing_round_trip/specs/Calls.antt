-- The round trip over calls: a table that is written in a profile, and read in it from the bytes written, is the same table.
use Rattle.std.specs.Prelude.{◌≡◌, List, true, length, take, ℕ, ◌/◌, ◌≤◌, Ok}
use Rattle.tree.specs.Rules.{Words32}
use Rattle.tree.specs.declared.Profile.{Profile}
use Rattle.table_row.specs.Buffer.{over}
use Rattle.table_rules.specs.Answer.{is_accepted, place_of, Answer}
use Rattle.listing_reader.specs.State.{zeroed}
use Rattle.listing_write.specs.Contract.{WriteContract}
use Rattle.listing_read_lines.specs.Contract.{ReadContract}

-- reading into the words b is accepted with the rows of w, and leaves w and zeros past it
pub record Same (w b : List ℕ) (answer : Answer) (after : List ℕ) : Type 0 where
  pub rows : answer ≡ Ok (length w / 20)
  pub table : after ≡ over (zeroed (length b)) w

-- in every profile, whatever words of 32 bits are lent as the table w and accepted, whatever bytes d for its text, and words b
-- enough for its rows
abbrev pub CallsRoundTrip : Type 0
CallsRoundTrip =
    (p : Profile) (w d : List ℕ) (answer : Answer) (text : List ℕ) → Words32 w → WriteContract p w d answer text → is_accepted answer ≡ true
    → (b : List ℕ) (back : Answer) (after : List ℕ) → ReadContract p (take (place_of answer) text) b back after → length w ≤ length b
    → Same w b back after

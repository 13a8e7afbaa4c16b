-- `kantifero::kantifero_carried` meets its contract: the part's words have 32 bits, and are the rows carried.
use Rattle.kantifero_calls.proofs.Part.{carried-within, carried-part}
use Rattle.kantifero.proofs.kantifero_carried.Goals as goal

pub part_words-words-requires : goal.part_words-words-requires
part_words-words-requires c = rw c.carried-part.ensures (carried-within _ _ _ _ _ _)

pub returns : goal.returns
returns c =
    let s = c.args in
    let e = rw c.carried-part.ensures at c.part_words-words.ensures in
    rw (← c.profile_of.ensures) (record { answered = e; part = rw e (carried-part _ s.left.now s.right.now s.kind s.left_row s.right_row) })

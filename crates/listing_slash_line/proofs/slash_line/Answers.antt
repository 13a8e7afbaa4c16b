-- `slash_line` meets its contract: /set, /unset, else 9.
use Rattle.listing_lines.proofs.Alters.{alters-as, refuses}
use native.Mathlib.Omega.{arith}
use Rattle.listing.specs.Reading.{slash_line}
use Rattle.listing_slash_line.proofs.slash_line.Goals as goal

pub returns-then-same_bytes : goal.returns-then-same_bytes
unfolding slash_line
returns-then-same_bytes c = alters-as (λ t. rw (← c.same_bytes.ensures, c.if-same_bytes.true)) c.set_line.ensures

pub returns-then-same_bytes-2 : goal.returns-then-same_bytes-2
unfolding slash_line
returns-then-same_bytes-2 c = alters-as (λ t. rw (← c.same_bytes.ensures, c.if-same_bytes.false, ← c.same_bytes-2.ensures, c.if-same_bytes-2.true)) c.unset_line.ensures

pub returns : goal.returns
unfolding slash_line
returns c = alters-as (λ t. rw (← c.same_bytes.ensures, c.if-same_bytes.false, ← c.same_bytes-2.ensures, c.if-same_bytes-2.false)) (refuses 9 _ (omega arith))

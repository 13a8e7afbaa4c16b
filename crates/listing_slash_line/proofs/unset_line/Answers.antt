-- `unset_line` meets its contract: type and all clear the default.
use Rattle.std.proofs.Common.{None}
use Rattle.listing_lines.proofs.Alters.{alters-as, resets, stays}
use Rattle.listing.specs.Reading.{unset_line}
use Rattle.listing_slash_line.proofs.unset_line.Goals as goal
use Rattle.listing_slash_line.proofs.unset_line.Goals.{then-lacks+else-lacks-2, else-lacks}

pub returns-then-lacks-2 : goal.returns-then-lacks-2
unfolding unset_line
returns-then-lacks-2 c = alters-as (λ t. rw (← c.lacks.ensures, c.if-lacks.true, ← c.lacks-then-lacks.ensures, c.if-lacks-2.true)) (stays _)

pub returns : goal.returns
unfolding unset_line
returns c =
    alters-as
    (λ t. elim c.if-lacks.branch [ then-lacks+else-lacks-2 w ↦ rw (← c.lacks.ensures, w.if-lacks.true, ← w.lacks-then-lacks.ensures, w.if-lacks-2.false) | else-lacks w ↦ rw (← c.lacks.ensures, w.if-lacks.false) ])
    (resets None c.with_default.ensures)

-- `listing_rows::put_dots` meets its contract: the folders from the loop's number on are still open.
use Rattle.std.proofs.Common.{◌+◌, ◌*◌, ◌-◌, ◌≤◌}
use Rattle.listing_spell.proofs.Poured.{Rest}
use Rattle.listing_content.specs.Rows.{dots}
use Rattle.listing_rows.proofs.put_dots.Given as goal

abbrev pub invariant-loop-k : goal.invariant-loop-k
invariant-loop-k l =
    (l.k ≤ l.folders + l.depth)
    × (l.text.at + 3 * l.depth ≤ l.initial.text.at + 3 * l.k)
    × Rest l.initial.text (dots (l.folders - l.depth)) l.text (dots (l.folders - l.k))

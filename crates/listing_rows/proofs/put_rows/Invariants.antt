-- `listing_rows::put_rows` meets its contract: the lines from row i on are left.
use Rattle.std.proofs.Common.{drop, ◌+◌, ◌*◌, ◌≤◌, ◌^◌}
use Rattle.table_row.specs.Table.{rows}
use Rattle.listing_spell.proofs.Poured.{Rest}
use Rattle.listing_content.specs.Rows.{lines_from}
use Rattle.listing_rows.proofs.put_rows.Given as goal

abbrev pub invariant-loop-i : goal.invariant-loop-i
invariant-loop-i l =
    (l.i ≤ l.i-end + 1)
    × (l.folders ≤ 2 ^ 32)
    × (l.text.at ≤ l.initial.text.at + 2 ^ 34 * l.i)
    × Rest l.initial.text (lines_from 1 (drop 1 (rows l.t))) l.text (lines_from l.folders (drop l.i (rows l.t)))

-- `table_respell_rows::spell_rows` meets its contract. The loop's invariant: what is written, and then the rows from row i on by the
-- counterparts that are noted, are all the rows.
use Rattle.std.proofs.Common.{None}
use mathlib.Core.Path.{◌≡◌}
use lib.ListN.{length, drop, get_or}
use Prim.Native.Nat.{ℕ, ◌+◌, ◌*◌, ◌≤◌}
use Rattle.tree.specs.declared.Profile.TheVariants.{Folded}
use Rattle.table_row.specs.Buffer.{written}
use Rattle.table_row.specs.Table.{rows, flat}
use Rattle.table_find.specs.Entry.{Inside}
use Rattle.table_respell.specs.Respell.{spelled_rows, respelled, Shallow}
use Rattle.table_respell_rows.proofs.spell_rows.Given as goal

abbrev pub invariant-loop-i : goal.invariant-loop-i
invariant-loop-i l =
    (l.i ≤ l.n)
    × (length l.res ≡ length l.initial.res)
    × (length l.opened ≡ 17)
    × ((k : ℕ) → Inside l.keys (get_or l.opened k None))
    × Shallow (drop l.i (rows l.words))
    × (written l.res (l.at + 20 * l.i) (flat (spelled_rows Folded l.table l.keys l.opened (drop l.i (rows l.words)))) ≡ written l.initial.res l.at (respelled Folded l.table l.keys l.f l.words))

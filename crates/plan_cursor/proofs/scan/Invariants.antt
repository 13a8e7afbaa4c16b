-- `plan_cursor::scan` meets its contract: rows are passed until one is not deeper.
use mathlib.Core.Path.{◌≡◌}
use lib.ListN.{drop}
use Rattle.table_row.specs.Table.{rows}
use Rattle.plan_cursor.specs.Cursor.{seek}
use Rattle.plan_cursor.proofs.scan.Given as goal

abbrev pub invariant-loop-j : goal.invariant-loop-j
invariant-loop-j l = seek l.d l.i (drop l.i (rows l.t)) ≡ seek l.d l.j (drop l.j (rows l.t))

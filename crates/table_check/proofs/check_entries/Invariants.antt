-- `table_check::check_entries` meets its contract: the rows before row i are good, the lowest twin among them is told, and the
use Prim.Native.Nat.{◌≤◌, ◌<◌}
use Rattle.table_rules.specs.Keyed.{ok_row_in, no_twin}
use Rattle.table_rules.proofs.Rows.{Passed, Told}
use Rattle.table_check.specs.Last.{Lasts}
use Rattle.table_check.proofs.check_entries.Given as goal

abbrev pub invariant-loop-i : goal.invariant-loop-i
invariant-loop-i l = (0 < l.i) × (l.i ≤ l.n) × Lasts l.profile l.t l.i l.last × Passed (ok_row_in l.profile) l.t l.i × Told (no_twin l.profile) l.t l.twins l.i

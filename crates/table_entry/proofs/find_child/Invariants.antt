-- `find_child` finds the entry: the search goes on from row i.
use mathlib.Core.Path.{◌≡◌}
use lib.ListN.{drop}
use Prim.Native.Nat.{◌+◌}
use Rattle.tree.specs.Same.{same_words}
use Rattle.table_row.specs.Table.{rows}
use Rattle.table_find.specs.Entry.{seek}
use Rattle.table_entry.proofs.find_child.Given as goal

abbrev pub invariant-loop-i : goal.invariant-loop-i
invariant-loop-i l = seek (same_words l.name) l.d (l.f + 1) (drop (l.f + 1) (rows l.t)) ≡ seek (same_words l.name) l.d l.i (drop l.i (rows l.t))

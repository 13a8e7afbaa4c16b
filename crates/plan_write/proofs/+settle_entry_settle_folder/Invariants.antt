-- The depth left falls; in the loop, what is still to be written from the heads on makes up the folder's words.
use Rattle.std.proofs.Common.{◌*◌}
use mathlib.Core.Path.{◌≡◌}
use lib.ListN.{length}
use Prim.Native.Nat.{◌+◌, ◌-◌}
use Rattle.table_row.specs.Buffer.{written}
use Rattle.plan.specs.Settle.{folder}
use Rattle.plan.specs.Writes.{Writes}
use Rattle.plan_write.proofs.Cycle.{rest}
use Rattle.plan_write.proofs.+settle_entry_settle_folder.Given as goal

abbrev pub decreases-settle_entry : goal.decreases-settle_entry
decreases-settle_entry l = 2 * l.k

abbrev pub decreases-settle_folder : goal.decreases-settle_folder
decreases-settle_folder l = 2 * l.k + 1

abbrev pub invariant-settle_folder-loop : goal.invariant-settle_folder-loop
invariant-settle_folder-loop l =
    (length l.plan ≡ length l.initial.plan) ×
    Writes l.initial.plan l.at (folder l.t.o.now l.t.l.now l.t.r.now l.k l.d l.initial.g) (written l.plan l.q (rest l.t.o.now l.t.l.now l.t.r.now l.k l.d (l.n - l.counter) l.g)) (l.q + length (rest l.t.o.now l.t.l.now l.t.r.now l.k l.d (l.n - l.counter) l.g))

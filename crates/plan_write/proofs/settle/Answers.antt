-- `settle` settles the entries of the three roots.
use native.Mathlib.Nat.{zero-add}
use borrow.Author.Rules.{rules}
use Rattle.plan.specs.Settle.{settled}
use Rattle.plan.proofs.Writes.{filled}
use Rattle.plan_write.proofs.settle.Goals as goal

pub settle_folder-requires : goal.settle_folder-requires
unfolding settled
settle_folder-requires c =
    record { k_bound = search rules; h_in_bounds = rw (c.firsts_at-h.ensures, zero-add) c.requires }

pub returns : goal.returns
unfolding settled
returns c = filled (rw c.firsts_at-h.ensures at c.settle_folder.ensures)

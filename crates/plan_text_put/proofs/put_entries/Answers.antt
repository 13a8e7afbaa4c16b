-- `plan_text_put::put_entries` meets its contract: the entries from entry k on are left.
use Rattle.std.proofs.Common.{rules, length, ◌/◌, ◌^◌}
use Rattle.listing_spell.proofs.Poured.{rest-all, rest_less, rest-none}
use Rattle.plan_text.proofs.Words.{entries-start, entries_next, entries-end}
use Rattle.plan_text_put.proofs.put_entries.Goals as goal

pub loop-k-init : goal.loop-k-init
loop-k-init c =
    let a = c.args in
    (search rules, rw (entries-start a.s.left.now a.s.right.now a.list.now (length a.list.now / 3)) (rest-all _ _))

pub loop-k-preserved : goal.loop-k-preserved
loop-k-preserved c =
    let a = c.args in
    let next = entries_next a.s.left.now a.s.right.now a.list.now (length a.list.now / 3) c.loop-k.k (search rules) in
    (search rules, rest_less _ (rw next at c.loop-k.invariant.1) c.put_entry.ensures)

pub returns : goal.returns
returns c =
    let a = c.args in
    let e = entries-end a.s.left.now a.s.right.now a.list.now (length a.list.now / 3) c.loop-k.k (search rules) in
    rest-none (2 ^ 35) (search rules) (rw e at c.loop-k.invariant.1)

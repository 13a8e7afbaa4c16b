-- `plan_text_put::put_entries` meets its contract: the entries from entry k on are left.
use Rattle.std.proofs.Common.{length, drop, ◌+◌, ◌*◌, ◌-◌, ◌/◌, ◌≤◌, ◌^◌}
use Rattle.listing_spell.proofs.Poured.{Rest}
use Rattle.plan_text.specs.Words.{entries_text}
use Rattle.plan_text_put.proofs.put_entries.Given as goal

abbrev pub invariant-loop-k : goal.invariant-loop-k
invariant-loop-k l =
    let n = length l.list / 3 in
    (l.text.at ≤ l.initial.text.at + 2 ^ 21 * l.k)
    × Rest l.initial.text (entries_text l.s.left.now l.s.right.now n l.list) l.text (entries_text l.s.left.now l.s.right.now (n - l.k) (drop (3 * l.k) l.list))

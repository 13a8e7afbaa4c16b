-- `start` meets its contract: the entry put in last is passed where the name comes after it.
use Rattle.std.proofs.Common.{sym, ◌∙◌}
use borrow.Author.Tests.{le-ltb}
use borrow.Author.Rules.{rules}
use Rattle.table_slot.proofs.Search.{start-past}
use Rattle.table_slot.proofs.start.Goals as goal
use Rattle.table_slot.proofs.start.Goals.{else-f-last-via-then-f-last+else-is_gt, else-f-last-via-else-f-last}

pub returns-then-is_gt : goal.returns-then-is_gt
returns-then-is_gt c =
    let a = c.args in
    let e = rw (c.compare_keys.ensures, c.name.ensures.0) at c.is_gt.ensures in
    (sym (start-past a.profile a.t.now a.f a.last a.name _ e c.if-f-last.true c.requires.1 ∙ rw c.if-is_gt.true), search rules)

pub returns : goal.returns
returns c =
    let a = c.args in
    elim c.else-f-last.branch [
      | else-f-last-via-then-f-last+else-is_gt w ↦
          let e = rw (w.compare_keys.ensures, w.name.ensures.0) at w.is_gt.ensures in
          (sym (start-past a.profile a.t.now a.f a.last a.name _ e w.if-f-last.true c.requires.1 ∙ rw w.if-is_gt.false), search rules)
      | else-f-last-via-else-f-last w ↦ (rw (le-ltb _ _ w.if-f-last.false), search rules)
    ]

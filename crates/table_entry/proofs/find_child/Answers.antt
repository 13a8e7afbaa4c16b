-- `find_child` finds the entry: the search goes on from row i.
use Rattle.std.proofs.Common.{◌≡◌, ◌+◌, ◌*◌, ◌∙◌, sym, ap, drop, get_or}
use borrow.Author.Rules.{rules}
use Rattle.tree.specs.Same.{same_words}
use Rattle.table_row.specs.Table.{rows}
use Rattle.table_row.proofs.Table.{depth-at}
use Rattle.table_find.specs.Entry.{seek, found, child}
use Rattle.table_find.proofs.Walk.{seek-end, seek_stop, seek-deep, seek-other, seek-here}
use Rattle.table_entry.proofs.find_child.Goals as goal
use Rattle.table_entry.proofs.find_child.Goals.{else-e-d-eq1-via-then-e-d-eq1+else-is_called, else-e-d-eq1-via-else-e-d-eq1}

pub returns-then-is_called : goal.returns-then-is_called
unfolding child
returns-then-is_called c =
    let a = c.args in
    let w = a.t.now in
    record {
      answer = sym (rw depth-at (ap found (c.loop-i.invariant ∙ seek-here (same_words a.name) w (get_or w (20 * a.f) 0) c.loop-i.i (search rules) (search rules) (sym c.is_called.ensures ∙ c.if-is_called.true))));
      inside = search rules;
    }

pub loop-i-preserved : goal.loop-i-preserved
loop-i-preserved c =
    let a = c.args in
    let w = a.t.now in
    let i = c.loop-i.i in
    let p = same_words a.name in
    let d = get_or w (20 * a.f) 0 in
    let next : seek p d i (drop i (rows w)) ≡ seek p d (i + 1) (drop (i + 1) (rows w)) =
    elim c.else-e-d-eq1.branch [
      | else-e-d-eq1-via-then-e-d-eq1+else-is_called x ↦ seek-other p w d i (search rules) x.if-e-d-eq1.true (sym x.is_called.ensures ∙ x.if-is_called.false)
      | else-e-d-eq1-via-else-e-d-eq1 x ↦ seek-deep p w d i (search rules) (search rules) x.if-e-d-eq1.false
    ] in
    c.loop-i.invariant ∙ next

pub returns : goal.returns
unfolding child
returns c =
    let a = c.args in
    record {
      answer = sym (rw depth-at (ap found (c.loop-i.invariant ∙ seek-end (same_words a.name) a.t.now (get_or a.t.now (20 * a.f) 0) c.loop-i.i (search rules))));
      inside = tt;
    }

pub returns-then-e-d : goal.returns-then-e-d
unfolding child
returns-then-e-d c =
    let a = c.args in
    record {
      answer = sym (rw depth-at (ap found (c.loop-i.invariant ∙ seek_stop (same_words a.name) a.t.now (get_or a.t.now (20 * a.f) 0) c.loop-i.i (search rules) c.if-e-d.true)));
      inside = tt;
    }

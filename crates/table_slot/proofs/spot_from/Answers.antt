-- `spot_from` meets its contract: the search goes on from row i.
use mathlib.Core.Path.{◌≡◌, refl, sym, ◌∙◌}
use lib.ListN.{length}
use Prim.Native.Nat.{◌/◌}
use borrow.Author.Rules.{rules}
use Rattle.tree.specs.Key.{key}
use Rattle.table_slot.proofs.Search.{spot-end, spot-at}
use Rattle.table_slot.proofs.spot_from.Goals as goal

pub loop-i-init : goal.loop-i-init
loop-i-init c = (search rules, refl)

pub returns-in-Less : goal.returns-in-Less
returns-in-Less c =
    let a = c.args in
    record {
      answer = sym (c.loop-i.invariant.1 ∙ rw c.in-Less.is at (spot-at a.profile a.t.now a.d (key a.profile a.name) c.loop-i.i _ c.against.ensures (search rules)));
      inside = search rules;
    }

pub returns-in-Equal : goal.returns-in-Equal
returns-in-Equal c =
    let a = c.args in
    record {
      answer = sym (c.loop-i.invariant.1 ∙ rw c.in-Equal.is at (spot-at a.profile a.t.now a.d (key a.profile a.name) c.loop-i.i _ c.against.ensures (search rules)));
      inside = tt;
    }

pub loop-i-preserved : goal.loop-i-preserved
loop-i-preserved c =
    let a = c.args in
    (search rules, c.loop-i.invariant.1 ∙ rw c.in-Greater.is at (spot-at a.profile a.t.now a.d (key a.profile a.name) c.loop-i.i _ c.against.ensures (search rules)))

pub returns : goal.returns
returns c =
    let a = c.args in
    let e : c.loop-i.i ≡ length a.t.now / 20 = search rules in
    rw (← e) record { answer = sym (c.loop-i.invariant.1 ∙ spot-end a.profile a.t.now a.d (key a.profile a.name) c.loop-i.i (search rules)); inside = search rules }

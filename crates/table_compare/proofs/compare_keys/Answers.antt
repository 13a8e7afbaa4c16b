-- `table_compare::compare_keys` meets its contract: the words of the keys before word k are the same.
use mathlib.Core.Path.{◌≡◌, sym, ap, ◌∙◌}
use lib.ListN.{get_or}
use Prim.Native.Nat.{◌<◌}
use Rattle.tree.specs.Key.{key}
use Rattle.tree.proofs.Keys.{length-key}
use Rattle.table_row.specs.Order.{ordered}
use Rattle.table_compare.proofs.Letters.{get_or-key}
use Rattle.table_row.proofs.Compare.{cmp-less, cmp-end, cmp-greater, cmp-next}
use native.Mathlib.Omega.{arith}
use borrow.Author.Rules.{rules}
use Rattle.table_compare.proofs.compare_keys.Goals as goal

pub returns-then-x-y : goal.returns-then-x-y
returns-then-x-y c =
    let s = c.args in
    let a = key s.profile s.a.now in
    let b = key s.profile s.b.now in
    let k = c.loop-k.k in
    let h : get_or a k 0 < get_or b k 0 = rw (get_or-key s.a.now s.profile k, get_or-key s.b.now s.profile k, ← c.key_word-x.ensures, ← c.key_word-y.ensures) c.if-x-y.true in
    sym (ap ordered (c.loop-k.invariant.1 ∙ cmp-less a b k (rw length-key (search rules)) (rw length-key (search rules)) h))

pub returns-then-y-x : goal.returns-then-y-x
returns-then-y-x c =
    let s = c.args in
    let a = key s.profile s.a.now in
    let b = key s.profile s.b.now in
    let k = c.loop-k.k in
    let h : get_or b k 0 < get_or a k 0 = rw (get_or-key s.a.now s.profile k, get_or-key s.b.now s.profile k, ← c.key_word-x.ensures, ← c.key_word-y.ensures) c.if-y-x.true in
    sym (ap ordered (c.loop-k.invariant.1 ∙ cmp-greater a b k (rw length-key (search rules)) (rw length-key (search rules)) h))

pub loop-k-preserved : goal.loop-k-preserved
loop-k-preserved c =
    let s = c.args in
    let a = key s.profile s.a.now in
    let b = key s.profile s.b.now in
    let k = c.loop-k.k in
    let h : get_or a k 0 ≡ get_or b k 0 = rw (get_or-key s.a.now s.profile k, get_or-key s.b.now s.profile k, ← c.key_word-x.ensures, ← c.key_word-y.ensures) (omega (arith, c.if-x-y.false, c.if-y-x.false)) in
    (search rules, c.loop-k.invariant.1 ∙ cmp-next a b k (rw length-key (search rules)) (rw length-key (search rules)) h)

pub returns : goal.returns
returns c =
    let s = c.args in
    sym (ap ordered (c.loop-k.invariant.1 ∙ cmp-end (key s.profile s.a.now) (key s.profile s.b.now) c.loop-k.k (rw length-key (search rules)) (rw length-key (search rules))))

-- `same_below` compares two subtrees from their second rows on: the first k rows of each are the same, and both have n.
use mathlib.Core.Path.{sym, ◌∙◌}
use native.Mathlib.Omega.{arith}
use borrow.Author.Rules.{rules}
use Rattle.tree.proofs.Same.{same_words-eq}
use Rattle.table_row.specs.Table.{row_at}
use Rattle.table_find.proofs.Same.{block-next, subtrees-same, subtrees-differ, subtrees-uneven}
use Rattle.table_find.proofs.same_below.Goals as goal

pub returns-then-n-m : goal.returns-then-n-m
returns-then-n-m c =
    let s = c.args in
    let e = c.subtree_end.ensures in
    let f = c.subtree_end-2.ensures in
    subtrees-uneven s.w.now s.i s.v.now s.j (omega (arith, e)) (omega (arith, f)) (λ z. omega (arith, e, f, z, c.if-n-m.true))

pub loop-k-init : goal.loop-k-init
loop-k-init c =
    (search rules, same_words-eq (row_at c.args.w.now c.args.i) (row_at c.args.v.now c.args.j) c.requires.2)

pub loop-k-preserved : goal.loop-k-preserved
loop-k-preserved c =
    let s = c.args in
    let e = sym c.same_rows.ensures ∙ c.if-not-same_rows.false in
    (search rules, block-next s.w.now s.i s.v.now s.j c.loop-k.k c.loop-k.invariant.1 e)

pub returns-then-not-same_rows : goal.returns-then-not-same_rows
returns-then-not-same_rows c =
    let s = c.args in
    let e = sym c.same_rows.ensures ∙ c.if-not-same_rows.true in
    subtrees-differ s.w.now s.i s.v.now s.j c.loop-k.k (search rules) (search rules) e

pub returns : goal.returns
returns c =
    let s = c.args in
    subtrees-same s.w.now s.i s.v.now s.j c.loop-k.k (search rules) (search rules) c.loop-k.invariant.1

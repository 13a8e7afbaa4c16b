-- `same_subtrees` compares the two rows, if both are there, and then what is below them.
use mathlib.Core.Path.{sym, ◌∙◌}
use native.Mathlib.Omega.{arith}
use native.Mathlib.Nat.{add-zero}
use borrow.Author.Rules.{rules}
use Rattle.table_find.proofs.Same.{subtrees-differ, subtrees-one, subtrees-none}
use Rattle.table_find.proofs.same_subtrees.Goals as goal

pub same_below-requires : goal.same_below-requires
same_below-requires c = (search rules, search rules, sym c.same_rows.ensures ∙ c.if-same_rows.true)

pub returns-then-same_rows : goal.returns-then-same_rows
returns-then-same_rows c =
    c.same_below.ensures ∙ rw (c.wide-a.ensures.0, c.wide-b.ensures.0)

pub returns-else-same_rows : goal.returns-else-same_rows
returns-else-same_rows c =
    let s = c.args in
    let a = c.wide-a in
    let b = c.wide-b in
    let e = sym c.same_rows.ensures ∙ c.if-same_rows.false in
    let d = subtrees-differ s.w.now a.result s.v.now b.result 0 (omega arith) (omega arith) (rw (add-zero a.result, add-zero b.result) e) in
    d ∙ rw (a.ensures.0, b.ensures.0)

pub returns-else-b-v : goal.returns-else-b-v
returns-else-b-v c =
    subtrees-one c.args.w.now c.args.i c.args.v.now c.args.j (search rules) c.requires.1 (search rules)

pub returns : goal.returns
returns c =
    rw c.wide-b.ensures.0 (subtrees-none c.args.w.now c.args.i c.args.v.now c.args.j c.requires.0 (search rules) c.requires.1)

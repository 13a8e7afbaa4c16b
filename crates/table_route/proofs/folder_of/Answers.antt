-- `table_route::folder_of` meets its contract: no row from row k on and before row i is less deep.
use mathlib.Core.Path.{sym, ◌∙◌}
use native.Mathlib.Omega.{arith}
use Prim.Native.Nat.{◌-◌, ◌≤◌, ◌<◌}
use borrow.Author.Rules.{rules}
use Rattle.table_row.specs.Table.{row_at, depth}
use Rattle.table_route.proofs.Above.{above-none, above_at, above-past}
use Rattle.table_route.proofs.folder_of.Goals as goal

pub returns-then-word-d : goal.returns-then-word-d
returns-then-word-d c =
    let w = c.args.t.now in
    let h : depth (row_at w (c.loop-k.k - 1)) < c.word-d.result = rw (← c.word.ensures) c.if-word-d.true in
    sym (above_at w c.word-d.result c.loop-k.k (search rules) h) ∙ c.loop-k.invariant.1 ∙ rw c.word-d.ensures

pub loop-k-preserved : goal.loop-k-preserved
loop-k-preserved c =
    let w = c.args.t.now in
    let h : c.word-d.result ≤ depth (row_at w (c.loop-k.k - 1)) = rw (← c.word.ensures) c.if-word-d.false in
    (search rules, above-past w c.word-d.result c.loop-k.k (search rules) h ∙ c.loop-k.invariant.1)

pub returns : goal.returns
returns c =
    sym (above-none c.args.t.now c.word-d.result c.loop-k.k (omega arith)) ∙ c.loop-k.invariant.1 ∙ rw c.word-d.ensures

-- `zeros_from` meets its contract: the rest of the word, and the words after it.
use mathlib.Core.Path.{sym, ◌∙◌}
use Prim.Native.Nat.{◌+◌, ◌/◌}
use borrow.Author.Tests.{ne_eqb}
use Rattle.table_names.proofs.Words.{rest-is, zeros-low}
use native.Mathlib.Omega.{arith}
use Rattle.table_names.proofs.zeros_from.Goals as goal

pub returns-then-low_bytes-eq0 : goal.returns-then-low_bytes-eq0
returns-then-low_bytes-eq0 c =
    let w = c.args.s.now in
    let k = c.args.from in
    let l = c.requires.0 in
    let h = c.requires.1 in
    let z = sym c.low_bytes.ensures ∙ c.if-low_bytes-eq0.true in
    c.all_zero.ensures ∙ rw (zeros-low w k (omega arith), z, rest-is w (k / 4 + 1))

pub returns : goal.returns
returns c =
    let h = c.requires.1 in
    let l = c.requires.0 in
    sym (zeros-low c.args.s.now c.args.from (omega arith) ∙ rw (ne_eqb _ 0 (λ e. c.if-low_bytes-eq0.false (c.low_bytes.ensures ∙ e))))

-- `table_names::filled_from` meets its contract: byte k decides, or the bytes after it.
use mathlib.Core.Path.{refl, sym, ◌∙◌}
use native.Mathlib.Omega.{arith}
use borrow.Author.Rules.{rules}
use Rattle.tree.specs.Rules.{bytes}
use Rattle.tree.proofs.Rules.{length-bytes}
use Rattle.table_names.proofs.Words.{byte-is, zeros-next, filled_zero, filled-slash, filled_next, filled-end}
use Rattle.table_names.proofs.filled_from.Goals as goal

pub loop-k-init : goal.loop-k-init
loop-k-init c = (search rules, omega (arith, length-bytes c.args.s.now), refl)

pub returns-then-b-eq0 : goal.returns-then-b-eq0
returns-then-b-eq0 c =
    let w = bytes c.args.s.now in
    let z = sym (c.byte_of-b.ensures ∙ byte-is c.args.s.now c.loop-k.k (omega arith)) ∙ c.if-b-eq0.true in
    c.zeros_from.ensures ∙ zeros-next w c.loop-k.k (search rules) z ∙ sym (c.loop-k.invariant.2 ∙ filled_zero w c.loop-k.k (search rules) z)

pub returns-then-b-eq47 : goal.returns-then-b-eq47
returns-then-b-eq47 c =
    let w = bytes c.args.s.now in
    sym (c.loop-k.invariant.2 ∙ filled-slash w c.loop-k.k (search rules) (sym (c.byte_of-b.ensures ∙ byte-is c.args.s.now c.loop-k.k (omega arith)) ∙ c.if-b-eq47.true))

pub loop-k-preserved : goal.loop-k-preserved
loop-k-preserved c =
    let w = bytes c.args.s.now in
    let b = c.byte_of-b.ensures ∙ byte-is c.args.s.now c.loop-k.k (omega arith) in
    (search rules, search rules, c.loop-k.invariant.2 ∙ filled_next w c.loop-k.k (search rules) (λ e. c.if-b-eq0.false (b ∙ e)) (λ e. c.if-b-eq47.false (b ∙ e)))

pub returns : goal.returns
returns c =
    let w = bytes c.args.s.now in
    sym (c.loop-k.invariant.2 ∙ filled-end w c.loop-k.k (search rules))

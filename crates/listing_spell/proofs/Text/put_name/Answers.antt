-- `listing_spell::Text::put_name` meets its contract: what the bytes from byte k on spell is left.
use Rattle.std.proofs.Common.{rules, arith, sym, ◌∙◌}
use Rattle.tree.specs.Rules.{bytes}
use Rattle.tree.proofs.Rules.{length-bytes}
use Rattle.listing_spell.proofs.Poured.{rest-all, rest_less, rest-none}
use Rattle.listing_spell.proofs.Spelling.{spell-zero, spell_next, spell-end}
use Rattle.listing_spell.proofs.Text.put_name.Goals as goal

pub loop-k-init : goal.loop-k-init
loop-k-init c = (omega (arith, length-bytes c.args.name.now), search rules, rest-all _ _)

pub returns-then-b-eq0 : goal.returns-then-b-eq0
returns-then-b-eq0 c =
    let w = bytes c.args.name.now in
    let e = spell-zero w c.loop-k.k (search rules) (sym c.byte_at-b.ensures ∙ c.if-b-eq0.true) in
    rest-none 128 (search rules) (rw e at c.loop-k.invariant.2)

pub loop-k-preserved : goal.loop-k-preserved
loop-k-preserved c =
    let w = bytes c.args.name.now in
    let b = c.byte_at-b.ensures in
    let e = spell_next w c.loop-k.k (search rules) (λ z. c.if-b-eq0.false (b ∙ z)) in
    (search rules, search rules, rest_less _ (rw e at c.loop-k.invariant.2) (rw b at c.put_spelt.ensures))

pub returns : goal.returns
returns c =
    let e = spell-end (bytes c.args.name.now) c.loop-k.k (search rules) in
    rest-none 128 (search rules) (rw e at c.loop-k.invariant.2)

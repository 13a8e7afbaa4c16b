-- `listing_spell::Text::put` meets its contract: a byte that does not fit is left out.
use Rattle.std.proofs.Common.{rules, refl, sym}
use lib.Seq.{set_out}
use Rattle.listing_spell.specs.Puts.{poured}
use Rattle.listing_spell.proofs.Text.put.Goals as goal
use Rattle.listing_spell.proofs.Text.put.Goals.{then-self, else-self}

pub returns : goal.returns
unfolding poured
returns c =
    let t = c.args.self.now in
    elim c.if-self.branch [
      | then-self w ↦ rw w.self-is (record { same = refl; puts = record { counted = refl; near = search rules; holds = refl } })
      | else-self w ↦ rw w.self-is (record { same = refl; puts = record { counted = refl; near = search rules; holds = sym (set_out t.out.now t.at c.args.b w.if-self.false) } })
    ]

-- `listing_spell::Text::put_all` meets its contract: the bytes from byte k on are left.
use Rattle.std.proofs.Common.{◌≡◌, drop, ◌+◌}
use Rattle.listing_spell.proofs.Poured.{Rest}
use Rattle.listing_spell.proofs.Text.put_all.Given as goal

abbrev pub invariant-loop-b : goal.invariant-loop-b
invariant-loop-b l = (l.self.at ≡ l.initial.self.at + l.b-index) × Rest l.initial.self l.s l.self (drop l.b-index l.s)

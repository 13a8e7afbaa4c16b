-- `listing_spell::Text::put_name` meets its contract: what the bytes from byte k on spell is left.
use Rattle.std.proofs.Common.{◌≡◌, length, drop, ◌+◌, ◌*◌, ◌≤◌}
use Rattle.tree.specs.Rules.{bytes}
use Rattle.listing.specs.Writing.{name_text, spell}
use Rattle.listing_spell.proofs.Poured.{Rest}
use Rattle.listing_spell.proofs.Text.put_name.Given as goal

abbrev pub invariant-loop-k : goal.invariant-loop-k
invariant-loop-k l =
    (length (bytes l.name) ≡ 32)
    × (l.self.at ≤ l.initial.self.at + 4 * l.k)
    × Rest l.initial.self (name_text l.name) l.self (spell (drop l.k (bytes l.name)))

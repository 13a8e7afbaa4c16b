-- `listing_numbers::put_hex` meets its contract: the digits of the bytes from byte k on are left.
use mathlib.Core.Path.{◌≡◌}
use lib.ListN.{length, drop}
use Prim.Native.Nat.{◌+◌, ◌*◌, ◌≤◌}
use Rattle.tree.specs.Rules.{bytes}
use Rattle.listing.specs.Writing.{hex}
use Rattle.listing_spell.proofs.Poured.{Rest}
use Rattle.listing_numbers.proofs.put_hex.Given as goal

abbrev pub invariant-loop-k : goal.invariant-loop-k
invariant-loop-k l =
    (length (bytes l.words) ≡ 32)
    × (l.text.at ≤ l.initial.text.at + 2 * l.k)
    × Rest l.initial.text (hex (bytes l.words)) l.text (hex (drop l.k (bytes l.words)))

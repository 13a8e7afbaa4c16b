-- `listing_numbers::put_hex` meets its contract: the digits of the bytes from byte k on are left.
use native.Mathlib.Omega.{arith}
use borrow.Author.Rules.{rules}
use Rattle.tree.specs.Rules.{bytes}
use Rattle.tree.proofs.Rules.{length-bytes}
use Rattle.listing_spell.proofs.Poured.{rest-all, rest_less, rest-none}
use Rattle.listing_spell.proofs.Spelling.{hex-next, hex-end}
use Rattle.listing_numbers.proofs.put_hex.Goals as goal

pub loop-k-init : goal.loop-k-init
loop-k-init c = (omega (arith, length-bytes c.args.words.now), search rules, rest-all _ _)

pub loop-k-preserved : goal.loop-k-preserved
loop-k-preserved c =
    let w = bytes c.args.words.now in
    let e = hex-next w c.loop-k.k (search rules) in (
      search rules,
      search rules,
      rest_less _ (rw e at c.loop-k.invariant.2)
          (rw (c.hex_digit.ensures, c.hex_digit-in-loop-k.ensures, c.byte_at-b.ensures) at c.put_all.ensures),
    )

pub returns : goal.returns
returns c =
    let e = hex-end (bytes c.args.words.now) c.loop-k.k (search rules) in
    rest-none 64 (search rules) (rw e at c.loop-k.invariant.2)

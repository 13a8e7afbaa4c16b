-- `pack` meets its contract, word by word.
use Rattle.listing.specs.Names.{packed}
use Rattle.listing_names.proofs.pack.Goals as goal

pub returns : goal.returns
unfolding packed
returns c =
    simp (
      c.quad.ensures,
      c.quad-2.ensures,
      c.quad-3.ensures,
      c.quad-4.ensures,
      c.quad-5.ensures,
      c.quad-6.ensures,
      c.quad-7.ensures,
      c.quad-8.ensures,
    )

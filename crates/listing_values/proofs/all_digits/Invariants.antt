-- `all_digits` meets its contract: the flag says it of the values before place d-index.
use mathlib.Core.Path.{◌≡◌}
use mathlib.Core.Bool.{◌&&◌}
use lib.ListN.{drop}
use Rattle.listing_values.specs.Values.{all_below}
use Rattle.listing_values.proofs.all_digits.Given as goal

abbrev pub invariant-loop-d : goal.invariant-loop-d
invariant-loop-d l = all_below 16 l.digits ≡ (l.good && all_below 16 (drop l.d-index l.digits))

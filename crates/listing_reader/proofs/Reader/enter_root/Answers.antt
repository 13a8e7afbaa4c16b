-- `enter_root` meets its contract: the root is open, with the default set before it.
use mathlib.Core.Path.{refl}
use Rattle.listing_reader.proofs.State.{root-opens}
use Rattle.listing_reader.proofs.Reader.enter_root.Goals as goal

pub returns : goal.returns
returns c = record { does = λ p w d g h. root-opens p w _ d _ g refl refl refl refl refl h }

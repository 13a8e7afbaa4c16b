-- `leave` meets its contract: the folder above is the one last opened.
use mathlib.Core.Path.{refl}
use Rattle.listing_reader.proofs.State.{leaves}
use Rattle.listing_reader.proofs.Reader.leave.Goals as goal

pub returns : goal.returns
returns c = record { does = λ p most w f q d g h. leaves p most w _ _ f q d refl refl refl refl refl g h }

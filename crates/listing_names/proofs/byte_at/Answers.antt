-- `byte_at` meets its contract: a plain byte is not 0.
use mathlib.Core.Path.{refl}
use Rattle.listing_names.proofs.Spelling.{plain-some}
use Rattle.listing_names.proofs.byte_at.Goals as goal

pub returns-in-Plain : goal.returns-in-Plain
returns-in-Plain c =
    let e = rw c.in-Plain.is at c.sort_byte.ensures in
    (rw (← e) refl, plain-some _ e)

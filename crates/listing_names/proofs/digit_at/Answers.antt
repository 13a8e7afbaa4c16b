-- `digit_at` meets its contract: past the end there is no digit.
use native.Mathlib.Omega.{arith}
use lib.ListN.{get_or-eq_default}
use Rattle.listing.proofs.Bytes.{none-under}
use Rattle.listing_names.proofs.digit_at.Goals as goal

pub returns-in_err-get : goal.returns-in_err-get
returns-in_err-get c =
    let e = rw c.in_err-get.was at c.get.ensures.lookup in
    let v = (none-under {b = 0} (omega arith)).value in
    rw c.from_residual.ensures (rw (get_or-eq_default c.args.word.now 0 e.3) (omega arith))

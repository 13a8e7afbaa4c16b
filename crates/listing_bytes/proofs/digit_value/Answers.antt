-- `digit_value` meets its contract, range by range.
use native.Mathlib.Omega.{arith}
use Rattle.listing.proofs.Bytes.{digit-decimal, digit-lower, digit-upper, none_above, none_between, none_over, none-under}
use Rattle.listing_bytes.proofs.digit_value.Goals as goal

pub returns-in-48-to-57 : goal.returns-in-48-to-57
returns-in-48-to-57 c = digit-decimal (omega arith) (omega arith)

pub returns-in-65-to-70 : goal.returns-in-65-to-70
returns-in-65-to-70 c = digit-upper (omega arith) (omega arith)

pub returns-in-97-to-102 : goal.returns-in-97-to-102
returns-in-97-to-102 c = digit-lower (omega arith) (omega arith)

pub returns-in_default : goal.returns-in_default
returns-in_default c = none-under (omega arith)

pub returns-in_default-2 : goal.returns-in_default-2
returns-in_default-2 c = none_between (omega arith) (omega arith)

pub returns-in_default-3 : goal.returns-in_default-3
returns-in_default-3 c = none_above (omega arith) (omega arith)

pub returns-in_default-4 : goal.returns-in_default-4
returns-in_default-4 c = none_over (omega arith)

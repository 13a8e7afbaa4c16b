-- `refused` meets its contract: from 32 to 126 no byte is of number 7, and else the class tells.
use mathlib.Core.Path.{sym}
use Rattle.listing_scan.proofs.Tests.{in-text}
use Rattle.listing_words.proofs.refused.Goals as goal

pub returns-then-b-lt127 : goal.returns-then-b-lt127
returns-then-b-lt127 c = sym (in-text c.args.b c.if-b-gt31.true c.if-b-lt127.true)

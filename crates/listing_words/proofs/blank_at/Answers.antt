-- `blank_at` meets its contract: above 32 only a backslash may part words, and else the class tells.
use mathlib.Core.Path.{sym}
use lib.ListN.{get_or}
use Rattle.listing_scan.proofs.Tests.{above-blanks}
use borrow.Author.Rules.{rules}
use Rattle.listing_words.proofs.blank_at.Goals as goal

pub returns-then-b-ne92 : goal.returns-then-b-ne92
returns-then-b-ne92 c =
    let a = c.args in
    sym (above-blanks (get_or a.line.now a.i 0) _ (search rules) c.if-b-gt32.true c.if-b-ne92.true)

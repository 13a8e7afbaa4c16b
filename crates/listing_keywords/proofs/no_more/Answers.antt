-- `no_more` meets its contract: past the blanks the line ends, or a word begins.
use mathlib.Core.Path.{◌≡◌, refl}
use mathlib.Core.Bool.{Bool, true, false}
use lib.Dec.{leb}
use lib.ListN.{length}
use borrow.Author.Tests.{leb-true, leb-false}
use Rattle.listing.specs.Words.{words}
use Rattle.listing.specs.Reading.{is_empty}
use Rattle.listing_scan.proofs.Next.{words-none, words-next}
use Rattle.listing_keywords.proofs.no_more.Goals as goal

pub returns : goal.returns
returns c = go (leb (length c.args.rest.now) c.skip_blanks.result) refl
  where
    go : (t : Bool) → leb (length c.args.rest.now) c.skip_blanks.result ≡ t → t ≡ is_empty (words c.args.rest.now)
    go true e = rw (words-none c.args.rest.now 0 _ c.skip_blanks.ensures.is (leb-true _ _ e))
    go false e = rw (words-next c.args.rest.now 0 _ c.skip_blanks.ensures.is _ refl (leb-false _ _ e)).parted

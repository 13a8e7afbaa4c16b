-- `word_end` meets its contract: a stretch of bytes that part no words is a word, and plain bytes above 32 part none.
use Rattle.listing_scan.proofs.Plain.{span-past}
use Rattle.listing_scan.proofs.Scan.{span-is}
use Rattle.listing_words.proofs.word_end.Goals as goal

pub returns : goal.returns
returns c = rw (← span-is, span-past c.past_plain.ensures) c.stretch_end.ensures

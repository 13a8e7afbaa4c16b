-- `first_word` meets its contract: the word begins where the blanks end, and what is left is all that comes after its end.
use mathlib.Core.Path.{refl}
use native.Mathlib.Omega.{arith}
use lib.ListN.{length, drop, length-drop}
use lib.Seq.{take_all}
use Prim.Native.Nat.{◌-◌}
use Rattle.listing_words.proofs.first_word.Goals as goal

pub returns : goal.returns
returns c =
    let l = c.args.rest.now in
    let a = c.skip_blanks-a in
    let e = c.word_end-e in
    record {
      start = a.result;
      end = e.result;
      begins = let b = a.ensures.is in omega arith;
      ends = e.ensures.is;
      some = c.if-rest-a.false;
      is = refl;
      past = take_all (length l - e.result) (drop e.result l) (rw length-drop (omega arith));
    }

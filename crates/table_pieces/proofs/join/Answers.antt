-- `table_pieces::join` meets its contract: each piece goes on where the one before it ended.
use mathlib.Core.Path.{ap, sym, ◌∙◌}
use native.Mathlib.Omega.{arith}
use lib.ListN.{length-take, length-drop}
use lib.Seq.{length-take-le}
use borrow.Author.Rules.{rules}
use Rattle.table_row.specs.Buffer.{written}
use Rattle.table_respell.proofs.Step.{part-behind}
use Rattle.table_moved.proofs.Words.{written-three}
use Rattle.table_pieces.proofs.join.Goals as goal

pub slice_bounds-copy_words-end : goal.slice_bounds-copy_words-end
slice_bounds-copy_words-end c = sym (length-take-le _ _ c.requires.first)

pub copy_words-at-requires : goal.copy_words-at-requires
copy_words-at-requires c = simp length-take (omega (arith, c.requires.room, c.requires.first))

pub put_spelled-requires : goal.put_spelled-requires
put_spelled-requires c =
    let n = length-take-le c.args.a c.args.target.now c.requires.first in
    record {
      inside = c.requires.inside;
      keys = omega (arith, c.requires.keys);
      whole = c.requires.source.whole;
      shallow = c.requires.shallow;
      room = omega (arith, c.requires.room, c.copy_words-at.ensures.0);
    }

pub overflow_add-at : goal.overflow_add-at
overflow_add-at c =
    let n = length-take-le c.args.a c.args.target.now c.requires.first in
    let e = c.copy_words-at.ensures.0 in
    let r = c.requires.room in
    search rules

pub copy_words-requires : goal.copy_words-requires
copy_words-requires c =
    let n = length-take-le c.args.a c.args.target.now c.requires.first in
    simp (length-take, length-drop) (omega (arith, c.copy_words-at.ensures.0, c.requires.room))

pub returns : goal.returns
returns c =
    let a = c.args in
    written-three a.res.now _ _ _ _ _ _ _ _ c.copy_words-at.ensures c.put_spelled.ensures (omega (arith, c.requires.as_long)) (c.copy_words.ensures.1 ∙ ap (written _ _) (part-behind a.target.now a.b))

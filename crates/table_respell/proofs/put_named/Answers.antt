-- `table_respell::put_named` meets its contract: each copy goes on where the one before it ended.
use mathlib.Core.Path.{ap, ◌∙◌}
use native.Mathlib.Omega.{arith}
use lib.ListN.{length-take, length-drop}
use Rattle.table_row.specs.Buffer.{written}
use Rattle.table_respell.proofs.Step.{part-behind, written-named}
use Rattle.table_respell.proofs.put_named.Goals as goal

pub slice_bounds-copy_words-end : goal.slice_bounds-copy_words-end
slice_bounds-copy_words-end c = simp length-take (omega (arith, c.requires))

pub copy_words-from-requires : goal.copy_words-from-requires
copy_words-from-requires c = simp length-take (omega (arith, c.requires))

pub copy_words-to-requires : goal.copy_words-to-requires
copy_words-to-requires c = omega (arith, c.requires, length-take 2 c.args.src.now)

pub copy_words-requires : goal.copy_words-requires
copy_words-requires c = let n = length-take 2 c.args.src.now in simp (length-take, length-drop) (omega (arith, c.requires))

pub returns : goal.returns
returns c =
    written-named c.args.res.now _ _ _ _ _ _ c.args.at _ _ (omega (arith, c.requires)) c.copy_words-from.ensures c.copy_words-to.ensures (c.copy_words.ensures.1 ∙ ap (written _ _) (part-behind c.args.src.now 10))

-- `table_respell_rows::spell_rows` meets its contract. The loop's invariant: what is written, and then the rows from row i on by the
-- counterparts that are noted, are all the rows.
use Rattle.std.proofs.Common.{Some, None}
use mathlib.Core.Path.{◌≡◌, refl, ap, ◌∙◌}
use native.Mathlib.Omega.{arith}
use native.Mathlib.Nat.{add-zero}
use lib.ListN.{get_or, length-take, length-drop, length-set}
use Prim.Native.Nat.{◌+◌, ◌*◌, ◌-◌}
use borrow.Author.Rules.{rules}
use Rattle.tree.specs.declared.Profile.TheVariants.{Folded}
use Rattle.tree.specs.Key.{key}
use Rattle.table_row.specs.Buffer.{written}
use Rattle.table_row.specs.Table.{Row, row_at, name}
use Rattle.table_row.proofs.Buffer.{written-nil}
use Rattle.table_row.proofs.Table.{row-part}
use Rattle.table_respell.specs.Respell.{counterpart, spelled, respelled}
use Rattle.table_respell.proofs.Step.{inside-all, inside-longer, deep, rest-next, rest-none, inside-set}
use Rattle.table_respell_rows.proofs.spell_rows.Goals as goal

pub loop-i-init : goal.loop-i-init
unfolding respelled
loop-i-init c =
    let a = c.args in
    (search rules, refl, refl, λ k. inside-all a.keys.now (Some a.f) c.requires.inside 17 k, c.requires.shallow, rw add-zero)

pub overflow_sub-folder : goal.overflow_sub-folder
overflow_sub-folder c =
    let D = deep c.args.words.now c.loop-i.i c.wide-d.result (search rules) c.loop-i.invariant.4 c.wide-d.ensures.0 in
    D.low

pub bounds-opened-d : goal.bounds-opened-d
bounds-opened-d c =
    let D = deep c.args.words.now c.loop-i.i c.wide-d.result (search rules) c.loop-i.invariant.4 c.wide-d.ensures.0 in
    omega arith

pub counterpart-found-requires : goal.counterpart-found-requires
counterpart-found-requires c = c.loop-i.invariant.3 (c.wide-d.result - 1)

pub bounds-opened-d-in-loop-i : goal.bounds-opened-d-in-loop-i
bounds-opened-d-in-loop-i c =
    let D = deep c.args.words.now c.loop-i.i c.wide-d.result (search rules) c.loop-i.invariant.4 c.wide-d.ensures.0 in
    omega arith

pub spell_row-requires : goal.spell_row-requires
spell_row-requires c =
    (inside-longer c.args.keys.now c.args.table.now c.counterpart-found.result c.requires.keys c.counterpart-found.ensures.inside, simp (length-take, length-drop) (omega arith), omega (arith, c.requires.room, c.loop-i.invariant.1))

pub loop-i-preserved : goal.loop-i-preserved
loop-i-preserved c =
    let a = c.args in
    let D = deep a.words.now c.loop-i.i c.wide-d.result (search rules) c.loop-i.invariant.4 c.wide-d.ensures.0 in
    let K : c.key_name-key.result ≡ key Folded (name (row_at a.words.now c.loop-i.i)) = c.key_name-key.ensures ∙ ap (key Folded) c.name_of.ensures in
    let C : counterpart a.keys.now (get_or c.loop-i.opened (c.wide-d.result - 1) None) c.key_name-key.result
    ≡ counterpart a.keys.now (get_or c.loop-i.opened (c.wide-d.result - 1) None) (key Folded (name (row_at a.words.now c.loop-i.i))) = rw K in (
      search rules,
      search rules,
      length-set c.loop-i.opened c.wide-d.result c.counterpart-found.result ∙ c.loop-i.invariant.2,
      inside-set a.keys.now c.loop-i.opened c.wide-d.result c.counterpart-found.result (omega (arith, c.loop-i.invariant.2)) c.counterpart-found.ensures.inside c.loop-i.invariant.3,
      D.rest-shallow,
      rest-next Folded a.table.now a.keys.now a.words.now c.loop-i.opened c.loop-i.i (search rules) c.loop-i.res _ a.at c.wide-d.result c.counterpart-found.result D.depth_is
          (c.counterpart-found.ensures.answer ∙ C)
          (c.spell_row.ensures ∙ ap (λ (r : Row). written c.loop-i.res (a.at + 20 * c.loop-i.i) (spelled a.table.now c.counterpart-found.result r)) (row-part a.words.now c.loop-i.i))
          (omega (arith, c.requires.room, c.loop-i.invariant.1))
          (inside-longer a.keys.now a.table.now c.counterpart-found.result c.requires.keys c.counterpart-found.ensures.inside)
          _ c.loop-i.invariant.5,
    )

pub returns : goal.returns
returns c =
    let a = c.args in
    (rw (rest-none Folded a.table.now a.keys.now a.words.now c.loop-i.opened c.loop-i.i (search rules), written-nil) at c.loop-i.invariant.5)

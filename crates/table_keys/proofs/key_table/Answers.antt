-- `table_keys::key_table` meets its contract: the rows before row i have their keys, and those from it on are copied.
use mathlib.Core.Path.{◌≡◌, ap, ◌∙◌}
use native.Mathlib.Numerals.{add-one}
use lib.ListN.{length, take, drop}
use Prim.Native.Nat.{◌+◌, ◌*◌, ◌/◌}
use Rattle.tree.specs.declared.Profile.TheVariants.{Folded}
use Rattle.tree.specs.Key.{key}
use Rattle.table_row.specs.Buffer.{written}
use Rattle.table_row.proofs.Buffer.{past-written}
use Rattle.table_row.proofs.Keyed.{mixed-none, mixed-next, mixed-all}
use borrow.Author.Rules.{rules}
use Rattle.table_keys.proofs.key_table.Goals as goal

pub loop-i-init : goal.loop-i-init
loop-i-init c =
    let a = c.args in
    (search rules, search rules, rw (c.copy_words-n.ensures.1, past-written a.out.now a.t.now) (mixed-none Folded a.out.now a.t.now))

pub loop-i-preserved : goal.loop-i-preserved
unfolding key
loop-i-preserved c =
    let a = c.args in
    let i = c.loop-i.i in (
      search rules,
      search rules,
      c.lower_name.ensures
          ∙ ap (λ d. written d (20 * i + 2) (key Folded (take 8 (drop (20 * i + 2) d)))) c.loop-i.invariant.2
          ∙ rw add-one (mixed-next Folded i a.t.now _ (search rules)),
    )

pub returns : goal.returns
returns c =
    let a = c.args in
    let e : c.loop-i.i ≡ length a.t.now / 20 = search rules in
    c.loop-i.invariant.2 ∙ rw (c.copy_words-n.ensures.1, past-written a.out.now a.t.now, e) (mixed-all Folded a.out.now a.t.now (search rules))

-- `table_row::copy_words` meets its contract: the words before word i are copied.
use mathlib.Core.Path.{◌≡◌, refl, ap, ◌∙◌}
use native.Mathlib.Numerals.{add-one}
use lib.ListN.{length, get_or, set, length-set}
use lib.Seq.{paste-zero, paste-suc}
use Prim.Native.Nat.{◌+◌}
use borrow.Author.Rules.{rules}
use Rattle.table_row.proofs.Buffer.{written-paste}
use Rattle.table_row.proofs.copy_words.Goals as goal

pub loop-i-init : goal.loop-i-init
loop-i-init c = (search rules, search rules, paste-zero c.args.dst.now c.args.at c.args.src.now)

pub loop-i-preserved : goal.loop-i-preserved
loop-i-preserved c =
    let a = c.args in
    (search rules, simp length-set (search rules), ap (λ d. set d (a.at + c.loop-i.i) (get_or a.src.now c.loop-i.i 0)) c.loop-i.invariant.2 ∙ rw add-one (paste-suc a.dst.now a.at a.src.now c.loop-i.i 0 (search rules) (search rules)))

pub returns : goal.returns
returns c =
    let a = c.args in
    let e : c.loop-i.i ≡ length a.src.now = search rules in
    (refl, c.loop-i.invariant.2 ∙ rw e (written-paste a.dst.now a.src.now a.at))

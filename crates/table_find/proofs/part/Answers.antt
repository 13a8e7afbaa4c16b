-- `part` is the words of the subtree.
use mathlib.Core.Path.{sym, ap, ◌∙◌}
use lib.ListN.{take, drop}
use Prim.Native.Nat.{ℕ, ◌*◌, ◌-◌}
use borrow.Author.Rules.{rules}
use Rattle.table_find.specs.Subtree.{subtree}
use Rattle.table_find.proofs.Walk.{subtree-none}
use Rattle.table_find.proofs.part.Goals as goal

pub returns-then-j-t : goal.returns-then-j-t
returns-then-j-t c =
    let e = c.wide-j.ensures.0 in
    ap (λ (n : ℕ). take (20 * n - 20 * c.wide-j.result) (drop (20 * c.wide-j.result) c.args.t.now)) c.subtree_end-last.ensures.0 ∙ ap (subtree c.args.t.now) e

pub returns-else-j-t : goal.returns-else-j-t
returns-else-j-t c =
    sym (subtree-none c.args.t.now c.args.i c.requires (search rules))

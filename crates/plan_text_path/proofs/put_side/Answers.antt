-- `plan_text_path::put_side` meets its contract: the left row's path, else the right row's, else nothing.
use Prim.Native.Nat.{◌^◌}
use borrow.Author.Rules.{rules}
use Rattle.listing_spell.proofs.Poured.{wrote-within, rest-all, rest-none}
use Rattle.plan_text.proofs.Words.{side_left, side_right, side-none}
use Rattle.plan_text_path.proofs.put_side.Goals as goal

pub returns-then-i-s : goal.returns-then-i-s
returns-then-i-s c =
    let a = c.args in
    rw (side_left a.s.left.now a.s.right.now a.i a.j c.if-i-s.true) (wrote-within (2 ^ 20) (search rules) c.put_path.ensures)

pub returns-then-j-s : goal.returns-then-j-s
returns-then-j-s c =
    let a = c.args in
    rw (side_right a.s.left.now a.s.right.now a.i a.j c.if-i-s.false c.if-j-s.true) (wrote-within (2 ^ 20) (search rules) c.put_path-then-j-s.ensures)

pub returns-else-j-s : goal.returns-else-j-s
returns-else-j-s c =
    let a = c.args in
    rw (side-none a.s.left.now a.s.right.now a.i a.j c.if-i-s.false c.if-j-s.false) (rest-none (2 ^ 20) (search rules) (rest-all _ _))

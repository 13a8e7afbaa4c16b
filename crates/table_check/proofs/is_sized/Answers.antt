-- `table_check::is_sized` meets its contract: the number of words, then the number of rows.
use borrow.Author.Rules.{rules}
use borrow.Author.Tests.{eq-eqb, le-leb}
use mathlib.Core.Path.{sym}
use lib.ListN.{length}
use Prim.Native.Nat.{◌/◌, ◌%◌}
use Rattle.table_rules.specs.Rules.{sized}
use Rattle.table_rules.proofs.Rows.{sized-odd, sized-none}
use Rattle.table_check.proofs.is_sized.Goals as goal

pub returns-then-t-ne0 : goal.returns-then-t-ne0
returns-then-t-ne0 c = sym (sized-odd c.args.t.now c.if-t-ne0.true)

pub returns-then-n-lt1 : goal.returns-then-n-lt1
returns-then-n-lt1 c =
    let w = c.args.t.now in
    sym (sized-none w (search rules) (search rules))

pub returns : goal.returns
unfolding sized
returns c =
    let w = c.args.t.now in
    rw (eq-eqb (length w % 20) 0 (search rules), le-leb 1 (length w / 20) (search rules))

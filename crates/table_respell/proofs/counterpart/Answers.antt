-- `table_respell::counterpart` meets its contract: an entry is looked for where there is a folder.
use Rattle.std.proofs.Common.{refl}
use Rattle.table_follow.proofs.Follow.{inside-at}
use Rattle.table_respell.proofs.counterpart.Goals as goal

pub find_child-requires : goal.find_child-requires
find_child-requires c = inside-at _ _ _ c.in_ok-folder.was c.requires

pub returns-in_err-folder : goal.returns-in_err-folder
returns-in_err-folder c = rw (c.in_err-folder.was, c.from_residual.ensures) (record { answer = refl; inside = tt })

pub returns : goal.returns
returns c = rw c.in_ok-folder.was c.find_child.ensures

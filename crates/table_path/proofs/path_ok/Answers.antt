-- `table_path::path_ok` meets its contract: test by test.
use borrow.Author.Rules.{rules}
use borrow.Author.Tests.{le-leb, lt-leb}
use Rattle.table_moved.specs.Path.{path_rule}
use Rattle.table_path.proofs.path_ok.Goals as goal

pub returns-in-1-to-16 : goal.returns-in-1-to-16
unfolding path_rule
returns-in-1-to-16 c = rw (le-leb 1 c.args.depth (search rules), le-leb c.args.depth 16 (search rules)) c.slots_ok.ensures

pub returns-in_default : goal.returns-in_default
unfolding path_rule
returns-in_default c = rw (lt-leb 1 c.args.depth (search rules))

pub returns-in_default-2 : goal.returns-in_default-2
unfolding path_rule
returns-in_default-2 c = rw (le-leb 1 c.args.depth (search rules), lt-leb c.args.depth 16 (search rules))

-- `read_file` meets its contract: 6 for a text that is too long, else as it is read.
use Rattle.printout_text.proofs.Files.{as_read, too_long}
use native.Mathlib.Omega.{arith}
use Rattle.printout_file.proofs.read_file.Goals as goal

pub returns-then-text-gt16384 : goal.returns-then-text-gt16384
returns-then-text-gt16384 c =
    too_long c.args.profile c.args.text.now _ (let h = c.if-text-gt16384.true in omega arith)

pub returns : goal.returns
returns c =
    as_read c.args.profile c.args.text.now c.args.table.now _ _ (let h = c.if-text-gt16384.false in omega arith) c.requires c.read.ensures

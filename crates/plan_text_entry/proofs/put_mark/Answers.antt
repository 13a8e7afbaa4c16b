-- `plan_text_entry::put_mark` meets its contract: one of three bytes.
use Rattle.std.proofs.Common.{rules}
use Rattle.plan_text.proofs.Mark.{mark-left, mark-right, mark-clash}
use Rattle.plan_text_entry.proofs.put_mark.Goals as goal

pub returns-in-1 : goal.returns-in-1
returns-in-1 c = rw (mark-left c.args.kind c.in-1.is) c.put_all.ensures

pub returns-in-2 : goal.returns-in-2
returns-in-2 c = rw (mark-right c.args.kind c.in-2.is) c.put_all-in-2.ensures

pub returns-in_default : goal.returns-in_default
returns-in_default c = rw (mark-clash c.args.kind (search rules) (search rules)) c.put_all-in_default.ensures

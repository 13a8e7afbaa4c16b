-- `plan_carry_out::carry_out` meets its contract: each plan has four words for each row that it is made for.
use native.Mathlib.Omega.{arith}
use Rattle.table_rules.proofs.Passed.{passed_words}
use Rattle.plan_carry_out.proofs.carry_out.Goals as goal

-- no more than three times 4,096 rows
pub with_room-requires-2-clause-room : goal.with_room-requires-2-clause-room
with_room-requires-2-clause-room c =
    let p = c.requires in
    omega (arith, passed_words _ _ p.0, passed_words _ _ p.1, passed_words _ _ p.2)

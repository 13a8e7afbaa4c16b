-- `table_move::carry_out` meets its contract: profile by profile.
use Rattle.table_rules.proofs.Passed.{passed-some}
use Rattle.table_moved.proofs.Carry.{exact-inputs}
use Rattle.table_move.proofs.carry_out.Goals as goal

pub span_at-span-requires : goal.span_at-span-requires
span_at-span-requires c = passed-some c.args.profile c.args.source.now c.requires.1

pub carry_in-requires : goal.carry_in-requires
carry_in-requires c =
    let a = c.args in
    exact-inputs a.profile a.target.now a.source.now _ a.names a.depth c.in-Exact.is c.requires.0 c.requires.1 c.requires.2 c.requires.3 c.span_at-span.ensures

pub carry_folded-requires : goal.carry_folded-requires
carry_folded-requires c = rw c.in-Folded.is at c.requires

pub returns-in-Folded : goal.returns-in-Folded
returns-in-Folded c = rw c.in-Folded.is c.carry_folded.ensures

-- `table_move_keyed::carry_keyed` meets its contract: twenty words for each of n rows have room for the source, which has no more.
use Rattle.tree.specs.declared.Profile.TheVariants.{Folded}
use Rattle.table_rules.proofs.Passed.{passed_words}
use Rattle.table_move_keyed.proofs.Made.{roomy}
use Rattle.table_move_keyed.proofs.carry_keyed.Goals as goal

pub by_source-requires-clause-room : goal.by_source-requires-clause-room
by_source-requires-clause-room c = let h = c.requires in (roomy 64 c.args.target.now c.args.source.now h.target-passes h.source-passes c.if-n-le64.true).1

pub by_source-requires-then-n-le512-clause-room : goal.by_source-requires-then-n-le512-clause-room
by_source-requires-then-n-le512-clause-room c = let h = c.requires in (roomy 512 c.args.target.now c.args.source.now h.target-passes h.source-passes c.if-n-le512.true).1

pub by_source-requires-2-clause-room : goal.by_source-requires-2-clause-room
by_source-requires-2-clause-room c = passed_words Folded _ c.requires.source-passes

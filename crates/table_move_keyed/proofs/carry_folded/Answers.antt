-- `table_move_keyed::carry_folded` meets its contract: twenty words for each of n rows have room for the target, which has no more.
use Rattle.tree.specs.declared.Profile.TheVariants.{Folded}
use Rattle.table_rules.proofs.Passed.{passed_words}
use Rattle.table_move_keyed.proofs.Made.{roomy}
use Rattle.table_move_keyed.proofs.carry_folded.Goals as goal

pub by_keys-requires-clause-room : goal.by_keys-requires-clause-room
by_keys-requires-clause-room c = (roomy 64 c.args.target.now c.args.source.now c.requires.0 c.requires.1 c.if-n-le64.true).0

pub by_keys-requires-then-n-le512-clause-room : goal.by_keys-requires-then-n-le512-clause-room
by_keys-requires-then-n-le512-clause-room c = (roomy 512 c.args.target.now c.args.source.now c.requires.0 c.requires.1 c.if-n-le512.true).0

pub by_keys-requires-2-clause-room : goal.by_keys-requires-2-clause-room
by_keys-requires-2-clause-room c = passed_words Folded _ c.requires.0

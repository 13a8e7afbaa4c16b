-- `table_spans::entry_end` meets its contract: the end of the entry that is found, else its place.
use Rattle.table_follow.proofs.Follow.{inside-at}
use Rattle.table_spans.proofs.entry_end.Goals as goal

pub subtree_end-requires : goal.subtree_end-requires
subtree_end-requires c = inside-at _ _ _ c.in-Some.is c.find_child.ensures.inside

pub returns-in-Some : goal.returns-in-Some
returns-in-Some c =
    (rw (← c.find_child.ensures.answer, c.in-Some.is) c.subtree_end.ensures.0, c.subtree_end.ensures.1)

pub returns-in-None : goal.returns-in-None
returns-in-None c =
    (rw (← c.find_child.ensures.answer, c.in-None.is) c.place.ensures.0, c.place.ensures.1)

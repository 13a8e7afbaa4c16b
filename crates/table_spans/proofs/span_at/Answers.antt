-- `table_spans::span_at` meets its contract: the subtree at the row that the path leads to.
use mathlib.Core.Path.{sym, ◌∙◌}
use Rattle.table_follow.proofs.Follow.{inside-at}
use Rattle.table_moved.proofs.Source.{spans-at, spans-none}
use Rattle.table_spans.proofs.span_at.Goals as goal

pub subtree_end-e-requires : goal.subtree_end-e-requires
subtree_end-e-requires c = inside-at _ _ _ c.in-Some.is c.lookup.ensures.inside

pub returns-in-Some : goal.returns-in-Some
returns-in-Some c = spans-at _ _ _ _ (sym c.lookup.ensures.answer ∙ c.in-Some.is) c.subtree_end-e.ensures

pub returns-in-None : goal.returns-in-None
returns-in-None c = spans-none _ _ (sym c.lookup.ensures.answer ∙ c.in-None.is)

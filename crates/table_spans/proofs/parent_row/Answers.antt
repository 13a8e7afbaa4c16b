-- `table_spans::parent_row` meets its contract: the row that the parent's path leads to, where its kind is a folder's.
use mathlib.Core.Path.{sym, ◌∙◌}
use native.Mathlib.Omega.{arith}
use borrow.Author.Rules.{rules}
use Rattle.tree.specs.declared.Profile.TheVariants.{Exact}
use Rattle.table_rules.proofs.Passed.{passed-some}
use Rattle.table_follow.proofs.Follow.{inside-at}
use Rattle.table_moved.proofs.Lookup.{slice-words, folder-found, file-found, none_found}
use Rattle.table_spans.proofs.parent_row.Goals as goal

pub lookup-requires : goal.lookup-requires
lookup-requires c = passed-some Exact c.args.t.now c.requires

pub returns-in_err-i : goal.returns-in_err-i
returns-in_err-i c =
    rw c.from_residual.ensures (none_found c.args.t.now c.requires (slice-words _ c.type_inv.t) _ _ c.lookup.ensures c.in_err-i.was)

pub word-requires : goal.word-requires
word-requires c =
    let h = inside-at _ _ _ c.in_ok-i.was c.lookup.ensures.inside in
    (omega arith, search rules)

pub returns-then-word-eq0 : goal.returns-then-word-eq0
returns-then-word-eq0 c =
    folder-found c.args.t.now c.requires (slice-words _ c.type_inv.t) _ _ c.lookup.ensures _ c.in_ok-i.was (sym c.word.ensures ∙ c.if-word-eq0.true)

pub returns : goal.returns
returns c =
    file-found c.args.t.now c.requires (slice-words _ c.type_inv.t) _ _ c.lookup.ensures _ c.in_ok-i.was (λ z. c.if-word-eq0.false (c.word.ensures ∙ z))

-- `lookup` follows the path; the names left fall.
use Rattle.std.proofs.Common.{sym, rules}
use Rattle.table_follow.proofs.Follow.{follow-none, follow-lost, follow-on}
use Rattle.table_follow.proofs.+lookup.Goals as goal

pub returns-then-is_empty : goal.returns-then-is_empty
returns-then-is_empty t c =
    let a = c.args in
    record { answer = sym (follow-none a.t.now a.path.now (search rules)); inside = search rules }

pub returns-in_err-i : goal.returns-in_err-i
returns-in_err-i t c =
    let a = c.args in
    rw c.from_residual.ensures (follow-lost a.t.now a.path.now (search rules) _ c.find_child.ensures.answer c.in_err-i.was)

pub returns-in_err-k : goal.returns-in_err-k
returns-in_err-k t c =
    let a = c.args in
    let e = c.subtree_end-e.ensures in
    rw c.from_residual-in_err-k.ensures (follow-on a.t.now a.path.now (search rules) _ c.find_child.ensures.answer _ _ _ c.in_ok-i.was e.0 e.1 (rw c.in_err-k.was at c.lookup.ensures))

pub returns : goal.returns
returns t c =
    let a = c.args in
    let e = c.subtree_end-e.ensures in
    follow-on a.t.now a.path.now (search rules) _ c.find_child.ensures.answer _ _ _ c.in_ok-i.was e.0 e.1 (rw c.in_ok-k.was at c.lookup.ensures)

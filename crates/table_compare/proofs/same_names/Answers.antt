-- `table_compare::same_names` meets its contract: the flag says that the words before word k are the same.
use mathlib.Core.Path.{◌≡◌, sym, ap, ◌∙◌}
use mathlib.Core.Bool.{and-true}
use mathlib.Core.List.{List}
use native.Mathlib.Omega.{arith}
use lib.ListN.{length, get_or}
use Prim.Native.Nat.{ℕ, ◌<◌}
use borrow.Author.Rules.{rules}
use Rattle.tree.proofs.Same.{same_words-false}
use Rattle.table_row.proofs.Table.{name-length, name-word}
use Rattle.table_row.proofs.Compare.{same_next, same_end}
use Rattle.table_compare.proofs.same_names.Invariants.{name_of}
use Rattle.table_compare.proofs.same_names.Goals as goal
use Rattle.table_compare.proofs.same_names.Goals.{else-a-p, then-a-p}

pub loop-k-preserved : goal.loop-k-preserved
loop-k-preserved c =
    let s = c.args in
    let a = name_of s.a.now s.i in
    let b = name_of s.b.now s.j in
    let k = c.loop-k.k in
    let h : k < 8 = search rules in
    let u = name-word s.a.now s.i k h in
    let v = name-word s.b.now s.j k h in
    let m : length a ≡ 8 = name-length s.a.now s.i (search rules) in
    let n : length b ≡ 8 = name-length s.b.now s.j (search rules) in (
      search rules,
      elim c.if-a-p.branch [ then-a-p w ↦ rw w.same-is (sym (same_words-false a b (λ e. w.if-a-p.true (sym u ∙ ap (λ (w : List ℕ). get_or w k 0) e ∙ v)))) | else-a-p w ↦ rw (w.same-is, ← same_next a b k (omega arith) (omega arith) (u ∙ w.if-a-p.false ∙ sym v)) c.loop-k.invariant.1 ],
    )

pub returns : goal.returns
returns c =
    let s = c.args in
    let a = name_of s.a.now s.i in
    let b = name_of s.b.now s.j in
    let m : length a ≡ 8 = name-length s.a.now s.i (search rules) in
    let n : length b ≡ 8 = name-length s.b.now s.j (search rules) in
    let e = rw (same_end a b c.loop-k.k (omega arith) (omega arith)) at c.loop-k.invariant.1 in
    sym (and-true c.loop-k.same) ∙ e

-- A row that keeps the rules is an entry that does.
use mathlib.Core.Path.{◌≡◌}
use mathlib.Core.Bool.{Bool, true, false, cond}
use native.Mathlib.Omega.{arith}
use lib.Dec.{eqb}
use lib.ListN.{length, drop, length-take, length-drop}
use Prim.Native.Nat.{ℕ, suc}
use borrow.Author.Tests.{eqb-true}
use Rattle.tree.specs.Forest.{Forest, Forest.leaf, Forest.dir}
use Rattle.tree.specs.Rules.{zeros, good_name, Words32, NameRule, ContentRule, Within}
use Rattle.table_row.specs.Table.{Row, kind, name, content}
use Rattle.table_row.specs.Tree.{entry_of}
use Rattle.table_rules.specs.Rules.{kind_rule}
use Rattle.table_rules.proofs.Small.{small-take, small-drop, small_word}

module _ (r : Row) (twenty : length r ≡ 20) (small : Words32 r) where
  name-rule : good_name (name r) ≡ true → NameRule (name r)
  name-rule g = record {
    eight = simp (length-take, length-drop) (omega arith);
    small = small-take 8 (drop 2 r) (small-drop 2 r small);
    good = g;
  }

  content-rule : kind r ≡ 1 → ContentRule (content r)
  unfolding Words32
  content-rule e = record {
    eleven = simp length-drop (omega arith);
    small = (small_word r 1 small, small-drop 10 r small);
    kind = e;
  }

  pub within-entry : (d : ℕ) (k s : Forest) → good_name (name r) ≡ true → kind_rule r ≡ true → Within NameRule ContentRule d k → Within NameRule ContentRule (suc d) s
      → Within NameRule ContentRule (suc d) (entry_of r k s)
  unfolding kind_rule Within
  within-entry d k s g e a b = go (eqb (kind r) 0) e
    where
      go : (t : Bool) → cond t (zeros (drop 10 r)) (eqb (kind r) 1) ≡ true → Within NameRule ContentRule (suc d) (cond t (dir (name r) k s) (leaf (name r) (content r) s))
      go true e = (name-rule g, a, b)
      go false e = (name-rule g, content-rule (eqb-true (kind r) 1 e), b)

-- Tables of at most 4,096 rows of trees that are well formed in a profile: what a table that passes is, and what every call leaves.
use mathlib.Core.Path.{◌≡◌, refl, ap, sym, ◌∙◌}
use mathlib.Core.List.{List}
use Prim.Native.Nat.{ℕ, suc, ◌≤◌}
use Rattle.tree.specs.Forest.{Forest, size}
use Rattle.tree.specs.Rules.{Words32}
use Rattle.tree.specs.declared.Profile.{Profile}
use Rattle.tree.specs.Key.{FormedIn}
use Rattle.table_row.specs.Tree.{table, tree_of}
use Rattle.table_rules.specs.Keyed.{Passes}
use Rattle.table_row.proofs.Tree.{tree-table}
use Rattle.table_rules.proofs.Passed.{passed-table, passed-formed, passed-most, table-passes}

pub record Tab (p : Profile) (w : List ℕ) (f : Forest) : Type 0 where
  pub is : w ≡ table f
  pub formed : FormedIn p f
  pub rows : suc (size f) ≤ 4096

module _ (p : Profile) where
  pub tab-tree : (w : List ℕ) (f : Forest) → Tab p w f → tree_of w ≡ f
  tab-tree w f t = ap tree_of t.is ∙ tree-table f t.formed.within

  pub tab-passes : (w : List ℕ) (f : Forest) → Tab p w f → Passes p w
  tab-passes w f t = rw t.is (table-passes p f t.formed t.rows)

  pub passes-tab : (w : List ℕ) → Words32 w → Passes p w → Tab p w (tree_of w)
  passes-tab w s h = record { is = sym (passed-table p w h); formed = passed-formed p w h s; rows = passed-most p w h }

  pub formed-tab : (f : Forest) → FormedIn p f → suc (size f) ≤ 4096 → Tab p (table f) f
  formed-tab f w h = record { is = refl; formed = w; rows = h }

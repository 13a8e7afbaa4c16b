-- What the row rules are for: a table passes exactly when it is the table of a tree, of at most 4,096 rows, that is well formed in
-- the profile.
use mathlib.Core.Path.{◌≡◌, sym}
use mathlib.Core.Logic.{◌↔◌}
use mathlib.Core.List.{List}
use Prim.Native.Nat.{ℕ, suc, ◌≤◌}
use Rattle.tree.specs.Forest.{Forest, size}
use Rattle.tree.specs.Rules.{Words32}
use Rattle.tree.specs.declared.Profile.{Profile}
use Rattle.tree.specs.Key.{FormedIn}
use Rattle.table_row.specs.Tree.{table, tree_of}
use Rattle.table_rules.specs.Keyed.{Passes}
use Rattle.table_rules.proofs.Passed.{passed-formed, passed-most, passed-table, table-passes}

pub passed-tables : (p : Profile) (w : List ℕ) → Words32 w → Passes p w ↔ ((f : Forest) × FormedIn p f × (suc (size f) ≤ 4096) × (w ≡ table f))
passed-tables p w s = (
  λ P. (tree_of w, passed-formed p w P s, passed-most p w P, sym (passed-table p w P)),
  λ t. rw t.3 (table-passes p t.0 t.1 t.2),
)

-- Demand 2 over calls: what an accepted run leaves are the tables of the trees that TR 507 and document 01 demand, trees read as
-- equal when they are equal after folding.
use Rattle.std.specs.Prelude.{◌≡◌, List, ℕ}
use Rattle.tree.specs.Forest.{Forest}
use Rattle.tree.specs.declared.Profile.{Profile}
use Rattle.settle.specs.Spelled.{SettledIn}
use Rattle.table_row.specs.Buffer.{over}
use Rattle.table_row.specs.Tree.{table, tree_of}
use Rattle.plan_run.specs.Run.{Lent, run_of}

pub record Demand2 (p : Profile) (o l r : List ℕ) (b : Lent) : Type 0 where
  -- the two new trees, and the new archive
  pub c : Forest
  pub d : Forest
  pub n : Forest
  pub left : (run_of p o l r b).lent.left ≡ over b.left (table c)
  pub right : (run_of p o l r b).lent.right ≡ over b.right (table d)
  pub archive : (run_of p o l r b).lent.archive ≡ over b.archive (table n)
  -- they meet the requirements, and no others do
  pub settled : SettledIn p (tree_of o) (tree_of l) (tree_of r) c d n

-- Demands 2 and 3 where every byte counts: trees and tables are equal when they are equal as they are named.
use Rattle.std.specs.Prelude.{◌≡◌, List, ℕ, true}
use Rattle.tree.specs.Forest.{Forest, Sorted}
use Rattle.tree.specs.Value.{path_map}
use Rattle.tree.specs.declared.Profile.TheVariants.{Exact}
use Rattle.settle.specs.Results.{Lines, Outcome, outcome}
use Rattle.settle.specs.Resume.{keep, is_clash, minus, Chosen}
use Rattle.settle.specs.Tr507.{Synchronization}
use Rattle.settle.specs.Archive.{Remembers}
use Rattle.table_row.specs.Buffer.{over}
use Rattle.table_row.specs.Tree.{table, tree_of}
use Rattle.table_rules.specs.Answer.{is_accepted}
use Rattle.plan.specs.Items.{list_words}
use Rattle.plan_run.specs.Run.{Lent, run_due, run_of}
use Rattle.demands.specs.Demand3.{Tables, AllCarried, AsMuch}

-- what the three trees give, as they are named
abbrev pub plain : List ℕ → List ℕ → List ℕ → Outcome
plain o l r = outcome (tree_of o) (tree_of l) (tree_of r)

pub record Demand2Exact (o l r : List ℕ) (b : Lent) : Type 0 where
  pub c : Forest
  pub d : Forest
  pub n : Forest
  pub left : (run_of Exact o l r b).lent.left ≡ over b.left (table c)
  pub right : (run_of Exact o l r b).lent.right ≡ over b.right (table d)
  pub archive : (run_of Exact o l r b).lent.archive ≡ over b.archive (table n)
  pub synchronized : Synchronization (path_map (tree_of o)) (path_map (tree_of l)) (path_map (tree_of r)) (path_map c) (path_map d)
  pub remembered : Remembers (path_map (tree_of o)) (path_map (tree_of l)) (path_map (tree_of r)) (path_map n)
  pub only : (c' d' : Forest) → Sorted c' → Sorted d'
      → Synchronization (path_map (tree_of o)) (path_map (tree_of l)) (path_map (tree_of r)) (path_map c') (path_map d') → (c' ≡ c) × (d' ≡ d)
  pub only-archive : (n' : Forest) → Sorted n' → Remembers (path_map (tree_of o)) (path_map (tree_of l)) (path_map (tree_of r)) (path_map n') → n' ≡ n

-- the run with the old archive: the lines not carried out, and the same three tables
pub record RerunExact (o l r : List ℕ) (ms : Lines) (t : Tables) (c : Lent) : Type 0 where
  pub accepted : is_accepted (run_due Exact o t.left t.right c) ≡ true
  pub lines : (plain o t.left t.right).lines ≡ minus ms (plain o l r).lines
  pub list : (run_of Exact o t.left t.right c).lent.list ≡ over c.list (list_words (tree_of t.left) (tree_of t.right) (minus ms (plain o l r).lines))
  pub archive : (run_of Exact o t.left t.right c).lent.archive ≡ over c.archive (table (plain o l r).archive)
  pub left : (run_of Exact o t.left t.right c).lent.left ≡ over c.left (table (plain o l r).left)
  pub right : (run_of Exact o t.left t.right c).lent.right ≡ over c.right (table (plain o l r).right)

abbrev pub RerunsExact : List ℕ → List ℕ → List ℕ → Lent → Type 0
RerunsExact o l r b =
    (ms : Lines) (t : Tables) (c : Lent) → Chosen ms (plain o l r).lines → AllCarried Exact ms (record { left = l; right = r }) t → AsMuch b c → RerunExact o l r ms t c

-- after all the moves: the tables of the new trees
pub record FinishedExact (o l r : List ℕ) (t : Tables) : Type 0 where
  pub left : t.left ≡ table (plain o l r).left
  pub right : t.right ≡ table (plain o l r).right

abbrev pub FinishingExact : List ℕ → List ℕ → List ℕ → Type 0
FinishingExact o l r =
    (ms : Lines) (t : Tables) → Chosen ms (plain o l r).lines → AllCarried Exact ms (record { left = l; right = r }) t
    → minus ms (plain o l r).lines ≡ keep is_clash (plain o l r).lines → FinishedExact o l r t

-- the run on the results: the clashes alone, and its inputs back
pub record ClosingExact (o l r : List ℕ) (c : Lent) : Type 0 where
  pub accepted : is_accepted (run_due Exact (table (plain o l r).archive) (table (plain o l r).left) (table (plain o l r).right) c) ≡ true
  pub lines : (plain (table (plain o l r).archive) (table (plain o l r).left) (table (plain o l r).right)).lines ≡ keep is_clash (plain o l r).lines
  pub list :
      (run_of Exact (table (plain o l r).archive) (table (plain o l r).left) (table (plain o l r).right) c).lent.list
      ≡ over c.list (list_words (plain o l r).left (plain o l r).right (keep is_clash (plain o l r).lines))
  pub archive :
      (run_of Exact (table (plain o l r).archive) (table (plain o l r).left) (table (plain o l r).right) c).lent.archive ≡ over c.archive (table (plain o l r).archive)
  pub left : (run_of Exact (table (plain o l r).archive) (table (plain o l r).left) (table (plain o l r).right) c).lent.left ≡ over c.left (table (plain o l r).left)
  pub right : (run_of Exact (table (plain o l r).archive) (table (plain o l r).left) (table (plain o l r).right) c).lent.right ≡ over c.right (table (plain o l r).right)

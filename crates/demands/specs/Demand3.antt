-- Demand 3 over calls: listed moves carried out by accepted calls, in any order; then a run with the old archive; the
-- tables after all the moves; and the run on the results. All are made in the first run's profile, and trees are read as equal
-- when they are equal after folding.
use Rattle.std.specs.Prelude.{◌≡◌, List, [], ◌∷◌, map, true, length, take, ℕ, ◌*◌, ◌≤◌}
use Rattle.tree.specs.Name.{Name}
use Rattle.tree.specs.Forest.{TreePath, Forest}
use Rattle.tree.specs.declared.Profile.{Profile}
use Rattle.tree.specs.Key.{fold}
use Rattle.settle.specs.Decision.{Decision.agreed, Decision.left_gets, Decision.right_gets, Decision.clash}
use Rattle.settle.specs.Results.{Line, Line.line, Lines}
use Rattle.settle.specs.Resume.{keep, is_clash, minus, Chosen}
use Rattle.settle.specs.Spelled.{fold_line}
use Rattle.table_row.specs.Buffer.{over}
use Rattle.table_row.specs.Tree.{table, tree_of}
use Rattle.table_rules.specs.Answer.{place_of, is_accepted}
use Rattle.table_moved.specs.Path.{Eights, path_of}
use Rattle.table_moved.specs.Move.{move_of}
use Rattle.plan.specs.Items.{list_words}
use Rattle.plan_run.specs.Run.{given, Lent, run_due, run_of}

-- the words w are the table of a tree that is equal to f after folding
pub record Spells (p : Profile) (f : Forest) (w : List ℕ) : Type 0 where
  pub tree : Forest
  pub words : w ≡ table tree
  pub same : fold p tree ≡ fold p f

-- the buffer holds such words at its start
pub record Holds (p : Profile) (f : Forest) (before after : List ℕ) : Type 0 where
  pub tree : Forest
  pub words : after ≡ over before (table tree)
  pub same : fold p tree ≡ fold p f

-- a call of make_move for the path q that was accepted, with any room, and the table that it left there
pub record Made (p : Profile) (q : TreePath) (target source result : List ℕ) : Type 0 where
  pub names : List Name
  pub depth : ℕ
  pub room : List ℕ
  pub slots : Eights names
  pub path : path_of names depth ≡ q
  pub accepted : is_accepted (move_of p target source names depth room).answer ≡ true
  pub table-left : result ≡ take (20 * place_of (move_of p target source names depth room).answer) (move_of p target source names depth room).room

-- the two sides' tables while moves are carried out
pub record Tables : Type 0 where
  pub left : List ℕ
  pub right : List ℕ

-- one line carried out
abbrev pub Carried : Profile → Line → Tables → Tables → Type 0
Carried p (line q agreed) s t = ⊥
Carried p (line q left_gets) s t = Made p q s.left s.right t.left × (t.right ≡ s.right)
Carried p (line q right_gets) s t = Made p q s.right s.left t.right × (t.left ≡ s.left)
Carried p (line q clash) s t = ⊥

-- some lines, one after the other
unfoldable pub AllCarried : Profile → Lines → Tables → Tables → Type 0
AllCarried p [] s t = s ≡ t
AllCarried p (m ∷ ms) s t = (u : Tables) × Carried p m s u × AllCarried p ms u t

-- the lines ms, their paths in any spelling, are some of those that a run lists
abbrev pub Listed : Profile → Lines → List ℕ → List ℕ → List ℕ → Type 0
Listed p ms o l r = Chosen (map (fold_line p) ms) (given p o l r).lines

-- the lines that a run lists without ms
abbrev pub others : Profile → Lines → List ℕ → List ℕ → List ℕ → Lines
others p ms o l r = minus (map (fold_line p) ms) (given p o l r).lines

-- as much room
pub record AsMuch (b c : Lent) : Type 0 where
  pub archive : length b.archive ≤ length c.archive
  pub left : length b.left ≤ length c.left
  pub right : length b.right ≤ length c.right
  pub list : length b.list ≤ length c.list

-- a run with the old archive o on the tables t, after the moves ms of the run on l and r
pub record Rerun (p : Profile) (o l r : List ℕ) (ms : Lines) (t : Tables) (c : Lent) : Type 0 where
  pub accepted : is_accepted (run_due p o t.left t.right c) ≡ true
  -- exactly the moves not made and the same clashes, by path and kind
  pub lines : (given p o t.left t.right).lines ≡ others p ms o l r
  pub list : (run_of p o t.left t.right c).lent.list ≡ over c.list (list_words (fold p (tree_of t.left)) (fold p (tree_of t.right)) (others p ms o l r))
  -- the same three trees
  pub archive : Holds p (given p o l r).archive c.archive (run_of p o t.left t.right c).lent.archive
  pub left : Holds p (given p o l r).left c.left (run_of p o t.left t.right c).lent.left
  pub right : Holds p (given p o l r).right c.right (run_of p o t.left t.right c).lent.right

abbrev pub Reruns : Profile → List ℕ → List ℕ → List ℕ → Lent → Type 0
Reruns p o l r b = (ms : Lines) (t : Tables) (c : Lent) → Listed p ms o l r → AllCarried p ms (record { left = l; right = r }) t → AsMuch b c → Rerun p o l r ms t c

-- where all the moves were made, and only the clashes are left, the two tables are those of the new trees
pub record Finished (p : Profile) (o l r : List ℕ) (t : Tables) : Type 0 where
  pub left : Spells p (given p o l r).left t.left
  pub right : Spells p (given p o l r).right t.right

abbrev pub Finishing : Profile → List ℕ → List ℕ → List ℕ → Type 0
Finishing p o l r =
    (ms : Lines) (t : Tables) → Listed p ms o l r → AllCarried p ms (record { left = l; right = r }) t
    → others p ms o l r ≡ keep is_clash (given p o l r).lines → Finished p o l r t

-- the run on the results
pub record Closing (p : Profile) (o l r : List ℕ) (c : Lent) : Type 0 where
  pub accepted : is_accepted (run_due p (table (given p o l r).archive) (table (given p o l r).left) (table (given p o l r).right) c) ≡ true
  -- the clashes alone
  pub lines : (given p (table (given p o l r).archive) (table (given p o l r).left) (table (given p o l r).right)).lines ≡ keep is_clash (given p o l r).lines
  pub list :
      (run_of p (table (given p o l r).archive) (table (given p o l r).left) (table (given p o l r).right) c).lent.list
      ≡ over c.list (list_words (fold p (given p o l r).left) (fold p (given p o l r).right) (keep is_clash (given p o l r).lines))
  -- its inputs back
  pub archive :
      Holds p (given p o l r).archive c.archive
      (run_of p (table (given p o l r).archive) (table (given p o l r).left) (table (given p o l r).right) c).lent.archive
  pub left :
      Holds p (given p o l r).left c.left
      (run_of p (table (given p o l r).archive) (table (given p o l r).left) (table (given p o l r).right) c).lent.left
  pub right :
      Holds p (given p o l r).right c.right
      (run_of p (table (given p o l r).archive) (table (given p o l r).left) (table (given p o l r).right) c).lent.right

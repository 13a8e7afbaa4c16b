-- A file's tree in a profile as a table of at most 128 rows.
use Rattle.std.specs.Prelude.{◌≡◌, List, take, ℕ, suc, ◌*◌, ◌≤◌}
use Rattle.tree.specs.Forest.{Forest, size}
use Rattle.tree.specs.declared.Profile.{Profile}
use Rattle.tree.specs.Key.{FormedIn}
use Rattle.table_row.specs.Tree.{table}
use Rattle.table_rules.specs.Answer.{is_accepted, Answer}
use Rattle.listing.specs.Reading.{Outcome, Outcome.accepted, Outcome.refused}
use Rattle.listing_read_lines.specs.Contract.{Answers, is_taken}

-- a tree of 128 rows or fewer, and its table
pub record IsTable (p : Profile) (w : List ℕ) : Type 0 where
  pub tree : Forest
  pub good : FormedIn p tree
  pub few : suc (size tree) ≤ 128
  pub words : w ≡ table tree

-- what a file's reading leaves in the lent words: the table of the tree that is accepted
abbrev pub Left : Profile → Outcome → List ℕ → Type 0
Left p (refused n place) w = Unit {0}
Left p (accepted f) w = FormedIn p f × (suc (size f) ≤ 128) × (take (20 * suc (size f)) w ≡ table f)

-- its answer too
pub record Loaded (p : Profile) (o : Outcome) (answer : Answer) (after : List ℕ) : Type 0 where
  pub says : Answers answer o
  pub kind : is_accepted answer ≡ is_taken o
  pub left : Left p o after

-- How the reader's struct and the lent table stand for a state of reading in a profile: the table's words are the tree's as it
-- is spelled, and the struct's rows are found by key.
use Rattle.std.specs.Prelude.{◌≡◌, List, length, take, drop, get_or, replicate, ℕ, suc, ◌*◌, ◌≤◌}
use Rattle.tree.specs.Forest.{TreePath, Forest, Node.folder, kids, size}
use Rattle.tree.specs.Key.{fold, fold_path}
use Rattle.tree.specs.declared.Profile.{Profile}
use Rattle.table_row.specs.Tree.{table}
use Rattle.table_stands.specs.Around.{row_in}
use Rattle.table_slot.specs.Insert.{Last}
use Rattle.listing.specs.Entries.{Said}
use Rattle.listing.specs.Reading.{State, State.before, State.inside, State.closed, at_key, most_rows}
use Rattle.listing.specs.Accepted.{GoodState}
use Rattle.listing_keywords.specs.Entries.{said_of}
use Rattle.listing_reader.specs.declared.Reader.{Reader}

-- a table of so many words, all zero
abbrev pub zeroed : ℕ → List ℕ
zeroed n = replicate n 0

-- the first rows of w are the tree's, and the rest is zero
pub record Filled (w : List ℕ) (count : ℕ) (f : Forest) : Type 0 where
  pub rows : count ≡ suc (size f)
  pub used : take (20 * count) w ≡ table f
  pub rest : drop (20 * count) w ≡ drop (20 * count) (zeroed (length w))

-- before the root
pub record Waits (w : List ℕ) (s : Reader) (d : Said) : Type 0 where
  pub wide : length s.folders ≡ 17
  pub rows : s.count ≡ 0
  pub shut : s.depth ≡ 0
  pub default : d ≡ said_of s.default
  pub empty : w ≡ zeroed (length w)

-- inside it: the depth of an entry listed now is the number of open folders, and each has its row
pub record Open (p : Profile) (w : List ℕ) (s : Reader) (f : Forest) (q : TreePath) (d : Said) : Type 0 where
  pub wide : length s.folders ≡ 17
  pub filled : Filled w s.count f
  pub deep : s.depth ≡ suc (length q)
  pub default : d ≡ said_of s.default
  pub folders : (k : ℕ) → k ≤ length q → get_or s.folders k 0 ≡ row_in (folder (fold p f)) (take k (fold_path p q))
  pub last : Last (row_in (folder (fold p f)) (fold_path p q)) (kids (at_key p f q)) s.last

-- after it has closed
pub record Over (w : List ℕ) (s : Reader) (f : Forest) : Type 0 where
  pub filled : Filled w s.count f
  pub shut : s.depth ≡ 0

-- struct and table stand for a state
abbrev pub Reads : Profile → List ℕ → Reader → State → Type 0
Reads p w s (before d) = Waits w s d
Reads p w s (inside f q d) = Open p w s f q d
Reads p w s (closed f) = Over w s f

-- for a state that lines lead to
pub record Ready (p : Profile) (w : List ℕ) (s : Reader) : Type 0 where
  pub state : State
  pub reads : Reads p w s state
  pub good : GoodState p (most_rows (length w)) state

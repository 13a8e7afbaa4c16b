-- What the reader's functions do: their answer stands for what the definitions make of the state, in every profile, or in
-- that of the call where an entry is matched.
use Rattle.std.specs.Prelude.{◌≡◌, List, [], cond, eqb, length, get_or, set, replicate, ℕ, ◌+◌, ◌<◌, ◌≤◌, Option, Result, Ok, Err}
use Rattle.tree.specs.Name.{Name}
use Rattle.tree.specs.Forest.{Content, TreePath, Forest, Forest.end, Node, Node.file, Node.folder}
use Rattle.tree.specs.Rules.{ContentRule}
use Rattle.tree.specs.declared.Profile.{Profile}
use Rattle.listing.specs.Entries.{Said, Said.none}
use Rattle.listing.specs.Reading.{State, State.before, Step, Step.stops, Step.goes, with_default, close, placed, most_rows}
use Rattle.listing.specs.Accepted.{Inside}
use Rattle.listing_keywords.specs.declared.Kind.{Kind}
use Rattle.listing_keywords.specs.Entries.{said_of}
use Rattle.listing_reader.specs.declared.Reader.{Reader}
use Rattle.listing_reader.specs.State.{zeroed, Waits, Open, Reads}

-- a line's fault has its number, which isn't 0; else struct and table stand for the state after it
abbrev pub Did : Profile → Step → List ℕ → Result Reader ℕ → Type 0
Did p (stops n) w (Err k) = (k ≡ n) × (0 < n)
Did p (stops n) w (Ok s) = ⊥
Did p (goes t) w (Err k) = ⊥
Did p (goes t) w (Ok s) = Reads p w s t

-- at the start of any table of zeros
pub record Fresh (r : Reader) : Type 0 where
  pub does : (p : Profile) (n : ℕ) → Reads p (zeroed n) r (before none)

-- the default set to v
pub record Sets (s : Reader) (v : Option Kind) (r : Reader) : Type 0 where
  pub does : (p : Profile) (w : List ℕ) (t : State) → Reads p w s t → Reads p w r (with_default (said_of v) t)

-- the folder last opened closed
pub record Leaves (s r : Reader) : Type 0 where
  pub does : (p : Profile) (most : ℕ) (w : List ℕ) (f : Forest) (q : TreePath) (d : Said) → Inside p most f q → Open p w s f q d → Reads p w r (close f q d)

-- the root opened, where the table has room for its row, which is all zero
pub record Roots (s r : Reader) : Type 0 where
  pub does : (p : Profile) (w : List ℕ) (d : Said) → 20 ≤ length w → Waits w s d → Open p w r end [] d

-- what eleven words hold: a folder's are zero
abbrev pub node_of : Content → Node
node_of c = cond (eqb (get_or c 0 0) 0) (folder end) (file c)

pub data IsContent (c : Content) : Type 0 where
  of-folder : c ≡ replicate 11 0 → IsContent c
  of-file : ContentRule c → IsContent c

-- after a row was put in as row i: a folder is opened
unfoldable pub entered : Reader → ℕ → ℕ → Reader
entered s i kind =
    cond (eqb kind 0)
    (record {
      default = s.default;
      folders = set s.folders s.depth i;
      depth = s.depth + 1;
      last = i;
      count = s.count + 1;
    })
    (record { default = s.default; folders = s.folders; depth = s.depth; last = i; count = s.count + 1 })

-- an entry of that name and content put into the folder last opened
pub record Places (p : Profile) (n : Name) (c : Content) (w : List ℕ) (s : Reader) (after : List ℕ) (r : Result Reader ℕ) : Type 0 where
  pub does : (f : Forest) (q : TreePath) (d : Said) → Inside p (most_rows (length w)) f q → Open p w s f q d
      → Did p (placed p (most_rows (length w)) n (node_of c) f q d) after r

-- A move in the words of tables: what is looked up, and the three pieces that the result is put together from.
use Rattle.std.specs.Prelude.{◌≡◌, List, [], ◌∷◌, ◌++◌, map, Bool, cond, length, take, drop, ℕ, ◌+◌, ◌*◌, ◌-◌, ◌/◌, ◌%◌, ◌≤◌, Option, Some, None, Ok}
use Rattle.tree.specs.Name.{Name}
use Rattle.tree.specs.Forest.{Forest, Node.folder, TreePath, at}
use Rattle.tree.specs.Rules.{zeros, good_name}
use Rattle.tree.specs.declared.Profile.{Profile}
use Rattle.tree.specs.declared.Profile.TheVariants.{Folded}
use Rattle.tree.specs.Key.{key}
use Rattle.table_row.specs.Buffer.{over}
use Rattle.table_row.specs.Table.{rows}
use Rattle.table_row.specs.Keyed.{keyed}
use Rattle.table_rules.specs.Answer.{is_accepted, Answer}
use Rattle.table_rules.specs.Refusal.{refusal_of, twins_due}
use Rattle.table_rules.specs.Keyed.{checked_in, twins, Passes}
use Rattle.table_rules.specs.Faults.{first_refusal, unless, room_rule}
use Rattle.table_find.specs.Subtree.{end_of}
use Rattle.table_find.specs.Entry.{place}
use Rattle.table_follow.specs.Follow.{follow}
use Rattle.table_stands.specs.Around.{entry_end, row_in}
use Rattle.table_respell.specs.Respell.{respelled, Shallow}
use Rattle.table_moved.specs.declared.Span.{Span}
use Rattle.table_moved.specs.Path.{path_of, path_rule}
use Rattle.table_moved.specs.Move.{is_folder, parent_rule, moved_words}

-- a slot within the depth, or past it
abbrev pub slot_rule : Bool → Name → Bool
slot_rule within name = cond within (good_name name) (zeros name)

-- the row of the folder at a path of a tree
unfoldable pub folder_at : Forest → TreePath → Option ℕ
folder_at f p = cond (is_folder (at (folder f) p)) (Some (row_in (folder f) p)) None

-- the words w, of which v are the keys, with those of the entry called n of the folder at row f changed to others, which are
-- spelled as that folder is
abbrev pub pieces : Profile → List ℕ → List ℕ → ℕ → Name → List ℕ → List ℕ
pieces p w v f n words = take (20 * place v f n) w ++ (respelled p w v f words ++ drop (20 * entry_end v f n) w)

-- whole rows, at most 4,096
pub record Rows (w : List ℕ) : Type 0 where
  pub whole : length w % 20 ≡ 0
  pub most : length w ≤ 81920

-- what words that are to be put in must be
pub record Ready (p : Profile) (w v : List ℕ) (f : ℕ) (n : Name) (words : List ℕ) : Type 0 where
  pub inside : 20 * (f + 1) ≤ length v
  pub keys : length v ≡ length w
  pub target : Rows w
  pub source : Rows words
  pub shallow : Shallow (rows words)
  pub as_long : length (respelled p w v f words) ≡ length words
  pub order : place v f n ≤ entry_end v f n

-- the words of the subtree at a row that was found, as places; none where there is none
abbrev pub span_of : List ℕ → Option ℕ → Span
span_of v (Some i) = record { from = 20 * i; to = 20 * end_of v i }
span_of v None = record { from = 0; to = 0 }

pub record Spans (v : List ℕ) (f : Option ℕ) (s : Span) : Type 0 where
  pub span : s ≡ span_of v f
  pub first : s.from ≤ s.to
  pub last : s.to ≤ length v

-- a move's tables, the target's keys, where the source has the path, and a path of keys
pub record Inputs (p : Profile) (target keys source : List ℕ) (span : Span) (names : List Name) (depth : ℕ) : Type 0 where
  pub target-passes : Passes p target
  pub source-passes : Passes p source
  pub keyed-target : keys ≡ keyed p target
  pub spanned : Spans (keyed p source) (follow (path_of names depth) (keyed p source)) span
  pub named : map (key p) names ≡ names
  pub low : 1 ≤ depth
  pub high : depth ≤ 16

-- the same where letter case is ignored, before the source is looked at
pub record ByKeys (target keys source : List ℕ) (names : List Name) (depth : ℕ) : Type 0 where
  pub target-passes : Passes Folded target
  pub source-passes : Passes Folded source
  pub keyed-target : keys ≡ keyed Folded target
  pub named : map (key Folded) names ≡ names
  pub low : 1 ≤ depth
  pub high : depth ≤ 16

-- what three pieces must be: the target up to word a, the words as entries of its folder at row f, the target from word b on
pub record Joins (p : Profile) (w v : List ℕ) (f a : ℕ) (words : List ℕ) (b : ℕ) (lent : List ℕ) : Type 0 where
  pub inside : 20 * (f + 1) ≤ length v
  pub keys : length v ≡ length w
  pub source : Rows words
  pub shallow : Shallow (rows words)
  pub as_long : length (respelled p w v f words) ≡ length words
  pub first : a ≤ length w
  pub last : b ≤ length w
  pub room : a + length words + (length w - b) ≤ length lent

-- what the tables are due: numbers 1 and 2, then 16
unfoldable pub tables_due : Profile → List ℕ → List ℕ → Answer
tables_due p target source =
    first_refusal (refusal_of (checked_in p target) 2 ∷ refusal_of (checked_in p source) 3 ∷ twins_due (twins p target) 2 ∷ []) (twins_due (twins p source) 3)

-- and the path: number 5
unfoldable pub inputs_due : Profile → List ℕ → List ℕ → List Name → ℕ → Answer
inputs_due p target source names depth =
    first_refusal
    (refusal_of (checked_in p target) 2 ∷ refusal_of (checked_in p source) 3 ∷ twins_due (twins p target) 2 ∷ twins_due (twins p source) 3 ∷ unless (path_rule names depth) 5 0 ∷ [])
    (Ok 0)

-- what a result is due by its room: number 3
abbrev pub room_due : List ℕ → List ℕ → Answer
room_due words lent = first_refusal (unless (room_rule (length words / 20) (length lent)) 3 2 ∷ []) (Ok (length words / 20))

-- the answer that is due, and the room afterwards: the words and what lay past them, or all as it was
pub record Written (due : Answer) (words lent result : List ℕ) (answer : Answer) : Type 0 where
  pub answered : answer ≡ due
  pub room : result ≡ cond (is_accepted due) (over lent words) lent

-- words put in where there is room
abbrev pub PutIn : List ℕ → List ℕ → List ℕ → Answer → Type 0
PutIn words lent result answer = Written (room_due words lent) words lent result answer

-- what is due where the tables and the path are as they must be: numbers 4 and 3
abbrev pub rest_due : Profile → List ℕ → List ℕ → List Name → ℕ → List ℕ → Answer
rest_due p target source names depth lent =
    first_refusal (unless (parent_rule p target names depth) 4 0 ∷ []) (room_due (moved_words p target source names depth) lent)

abbrev pub CarriedOut : Profile → List ℕ → List ℕ → List Name → ℕ → List ℕ → List ℕ → Answer → Type 0
CarriedOut p target source names depth lent result answer =
    Written (rest_due p target source names depth lent) (moved_words p target source names depth) lent result answer

-- Reading a listing in a profile: what a line does to the reader's state, and what a whole text answers. Names are matched
-- by key, and kept as the text spells them.
use Rattle.std.specs.Prelude.{List, [], ◌∷◌, ◌++◌, Bool, true, false, cond, ◌&&◌, length, take, get_or, ltb, leb, eqb, ℕ, suc, ◌-◌, ◌/◌, min}
use Rattle.tree.specs.Name.{Name}
use Rattle.tree.specs.Forest.{TreePath, Forest, Forest.end, Node, Node.absent, Node.file, Node.folder, kids, at, size}
use Rattle.tree.specs.Same.{same_words}
use Rattle.tree.specs.Key.{fold, fold_path, put_in}
use Rattle.tree.specs.declared.Profile.{Profile}
use Rattle.listing.specs.Bytes.{text}
use Rattle.listing.specs.Lines.{Line, lines}
use Rattle.listing.specs.Words.{Words, words, values, is_text}
use Rattle.listing.specs.Names.{is_name, name_of}
use Rattle.listing.specs.Entries.{Said, Said.none, Said.is_dir, Said.is_file, Said.is_other, Said.twice, Entry, Entry.faulty, Entry.holds, type_in, entry_of, root_as}

-- before the root is listed: the default type. Inside it: the tree so far, the names of the open folders below the root, and the
-- default type, which holds until it is changed, wherever folders open and close. After it has closed: the tree
pub data State : Type 0 where
  before : Said → State
  inside : Forest → TreePath → Said → State
  closed : Forest → State

-- what a line does: a fault, or the state after it
pub data Step : Type 0 where
  stops : ℕ → Step
  goes : State → Step

-- without the folder last opened
abbrev pub front : TreePath → TreePath
front q = take (length q - 1) q

-- after the root has closed nothing changes
abbrev pub with_default : Said → State → State
with_default v (before d) = before v
with_default v (inside f q d) = inside f q v
with_default v (closed f) = closed f

-- no word
abbrev pub is_empty : Words → Bool
is_empty [] = true
is_empty (w ∷ ws) = false

-- a /set line by its type: a bad one is 10, a doubled one 9
abbrev pub set_to : Said → State → Step
set_to none s = goes s
set_to is_dir s = goes (with_default is_dir s)
set_to is_file s = goes (with_default is_file s)
set_to is_other s = stops 10
set_to twice s = stops 9

-- /set: size and sha256digest are refused, other words skipped
unfoldable pub set_line : Words → State → Step
set_line ws s =
    cond (is_empty (values (text "size") ws) && is_empty (values (text "sha256digest") ws)) (set_to (type_in none ws) s) (stops 9)

-- /unset: type and all clear the default
unfoldable pub unset_line : Words → State → Step
unset_line ws s =
    goes (cond (is_empty (values (text "type") ws) && is_empty (values (text "all") ws)) s (with_default none s))

-- an unknown / word is 9
unfoldable pub slash_line : List ℕ → Words → State → Step
slash_line w ws s =
    cond (same_words w (text "/set")) (set_line ws s) (cond (same_words w (text "/unset")) (unset_line ws s) (stops 9))

-- the folder last opened is closed, the root included
abbrev pub close : Forest → TreePath → Said → State
close f [] d = closed f
close f (n ∷ q) d = inside f (front (n ∷ q)) d

-- .. stands alone: 11, 9
unfoldable pub close_line : Words → State → Step
close_line ws (before d) = stops 11
close_line ws (inside f q d) = cond (is_empty ws) (goes (close f q d)) (stops 9)
close_line ws (closed f) = stops 11

-- the root, where there is room for its row
abbrev pub rooted : ℕ → Said → Entry → Step
rooted most d (faulty k) = stops k
rooted most d (holds x) = cond (ltb 0 most) (goes (inside end [] d)) (stops 3)

-- . is the first entry: 11, 9 or 10, 3
unfoldable pub root_line : ℕ → Words → State → Step
root_line most ws (before d) = rooted most d (root_as (type_in d ws))
root_line most ws (inside f q d) = stops 11
root_line most ws (closed f) = stops 11

-- a folder entry opens itself
abbrev pub opened : Name → Node → Forest → TreePath → Said → State
opened n absent f q d = inside f q d
opened n (file c) f q d = inside f q d
opened n (folder k) f q d = inside f (q ++ (n ∷ [])) d

-- nothing stands there
abbrev pub is_absent : Node → Bool
is_absent absent = true
is_absent (file c) = false
is_absent (folder k) = false

-- what stands at a path, by key
abbrev pub at_key : Profile → Forest → TreePath → Node
at_key p f q = at (folder (fold p f)) (fold_path p q)

-- an entry of that name in the folder last opened: 14, 13 by key, 3
unfoldable pub placed : Profile → ℕ → Name → Node → Forest → TreePath → Said → Step
placed p most n x f q d =
    cond (leb 16 (length q)) (stops 14)
    (cond (is_absent (at_key p f (q ++ (n ∷ []))))
    (cond (ltb (suc (size f)) most) (goes (opened n x (kids (put_in p (q ++ (n ∷ [])) x (folder f))) q d)) (stops 3))
    (stops 13))

-- an entry, by what its words make of it
abbrev pub entered : Profile → ℕ → Name → Entry → Forest → TreePath → Said → Step
entered p most n (faulty k) f q d = stops k
entered p most n (holds x) f q d = placed p most n x f q d

-- any other entry: 11, 8, 9 or 10, then its place
unfoldable pub entry_line : Profile → ℕ → List ℕ → Words → State → Step
entry_line p most w ws (before d) = stops 11
entry_line p most w ws (inside f q d) = cond (is_name w) (entered p most (name_of w) (entry_of d ws) f q d) (stops 8)
entry_line p most w ws (closed f) = stops 11

-- a line by its words, and whether all its bytes are text: blank lines and comments are skipped, then 7 comes first
unfoldable pub words_do : Profile → ℕ → Bool → Words → State → Step
words_do p most good [] s = goes s
words_do p most good (w ∷ ws) s =
    cond (eqb (get_or w 0 0) 35) (goes s)
    (cond good
    (cond (eqb (get_or w 0 0) 47) (slash_line w ws s)
    (cond (same_words w (text "..")) (close_line ws s)
    (cond (same_words w (text ".")) (root_line most ws s) (entry_line p most w ws s))))
    (stops 7))

-- a line, by its bytes
abbrev pub line_does : Profile → ℕ → List ℕ → State → Step
line_does p most line s = words_do p most (is_text line) (words line) s

-- a number and a line, or the tree
pub data Outcome : Type 0 where
  refused : ℕ → ℕ → Outcome
  accepted : Forest → Outcome

-- what a caller gets
pub record Answer : Type 0 where
  pub number : ℕ
  pub side : ℕ
  pub place : ℕ

-- a refusal's place is the line, an accepted tree's its rows
abbrev pub answer_of : Outcome → Answer
answer_of (refused n line) = record { number = n; side = 0; place = line }
answer_of (accepted f) = record { number = 0; side = 0; place = suc (size f) }

-- folders may be open at the end
abbrev pub ended : State → Outcome
ended (before d) = refused 12 0
ended (inside f q d) = accepted f
ended (closed f) = accepted f

-- a fault ends the run at its line
abbrev pub on_step : Step → ℕ → (State → Outcome) → Outcome
on_step (stops n) line k = refused n line
on_step (goes s) line k = k s

-- the lines in turn, up to the first faulty one
unfoldable pub run : Profile → ℕ → List Line → State → Outcome
run p most [] s = ended s
run p most (l ∷ ls) s = on_step (line_does p most l.bytes s) l.number (λ t. run p most ls t)

-- the last byte is LF, unless there is none
abbrev pub ends_in_lf : List ℕ → Bool
ends_in_lf t = eqb (get_or t (length t - 1) 10) 10

-- not too long, and LF at its end unless it is empty
abbrev pub has_form : List ℕ → Bool
has_form t = leb (length t) 65536 && ends_in_lf t

-- whole rows of the room, at most 4,096
abbrev pub most_rows : ℕ → ℕ
most_rows room = min 4096 (room / 20)

-- a text read into a table of that many words
unfoldable pub reading : Profile → List ℕ → ℕ → Outcome
reading p t room = cond (has_form t) (run p (most_rows room) (lines t) (before none)) (refused 6 0)

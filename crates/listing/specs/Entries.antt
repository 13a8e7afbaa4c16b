-- What a line's keywords say: its type, and what stands where it puts an entry.
use Rattle.std.specs.Prelude.{List, [], ◌∷◌, cond, ◌&&◌, ℕ}
use Rattle.tree.specs.Forest.{Forest.end, Node, Node.file, Node.folder}
use Rattle.tree.specs.Same.{same_words}
use Rattle.listing.specs.Bytes.{text}
use Rattle.listing.specs.Words.{Words, values}
use Rattle.listing.specs.Values.{is_size, size_of, is_digest, digest_of, content_of}

-- a type that is said, or the default in force: none, dir, file, a value that is neither, or type twice
pub data Said : Type 0 where
  none : Said
  is_dir : Said
  is_file : Said
  is_other : Said
  twice : Said

-- the value of type
abbrev pub type_of : List ℕ → Said
type_of v = cond (same_words v (text "dir")) is_dir (cond (same_words v (text "file")) is_file is_other)

-- the default where no value is given
abbrev pub one_type : Said → Words → Said
one_type default [] = default
one_type default (v ∷ []) = type_of v
one_type default (v ∷ w ∷ vs) = twice

-- a line's type, by its words and the default
unfoldable pub type_in : Said → Words → Said
type_in default ws = one_type default (values (text "type") ws)

-- what a line makes of an entry: a fault, or what stands there
pub data Entry : Type 0 where
  faulty : ℕ → Entry
  holds : Node → Entry

-- a file needs one good size and one good digest
abbrev pub one_each : Words → Words → Entry
one_each (s ∷ []) (d ∷ []) = cond (is_size s && is_digest d) (holds (file (content_of (size_of s) (digest_of d)))) (faulty 9)
one_each [] ds = faulty 9
one_each (s ∷ []) [] = faulty 9
one_each (s ∷ []) (d ∷ e ∷ ds) = faulty 9
one_each (s ∷ r ∷ ss) ds = faulty 9

-- an entry by its type: size and digest of a folder are skipped unread
abbrev pub entry_as : Said → Words → Entry
entry_as none ws = faulty 10
entry_as is_dir ws = holds (folder end)
entry_as is_file ws = one_each (values (text "size") ws) (values (text "sha256digest") ws)
entry_as is_other ws = faulty 10
entry_as twice ws = faulty 9

-- an entry's words, with the default in force
unfoldable pub entry_of : Said → Words → Entry
entry_of default ws = entry_as (type_in default ws) ws

-- the root is a folder
abbrev pub root_as : Said → Entry
root_as none = faulty 10
root_as is_dir = holds (folder end)
root_as is_file = faulty 10
root_as is_other = faulty 10
root_as twice = faulty 9

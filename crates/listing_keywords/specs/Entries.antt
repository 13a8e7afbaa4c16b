-- What is handed back of a line's type, and of what its entry holds: a value, or the number that is due.
use Rattle.std.specs.Prelude.{List, replicate, ℕ, Option, Some, None, Result, Ok, Err}
use Rattle.tree.specs.Forest.{Node.absent, Node.file, Node.folder}
use Rattle.listing.specs.Entries.{Said, Said.none, Said.is_dir, Said.is_file, Said.is_other, Said.twice, Entry, Entry.faulty, Entry.holds}
use Rattle.listing_keywords.specs.declared.Kind.{Kind}
use Rattle.listing_keywords.specs.declared.Kind.TheVariants.{Dir, File}

-- the type that a default stands for
abbrev pub said_of : Option Kind → Said
said_of None = none
said_of (Some Dir) = is_dir
said_of (Some File) = is_file

-- a type, if there is one: a bad one is 10, a doubled one 9
abbrev pub type_due : Said → Result (Option Kind) ℕ
type_due none = Ok None
type_due is_dir = Ok (Some Dir)
type_due is_file = Ok (Some File)
type_due is_other = Err 10
type_due twice = Err 9

-- a type that is said
abbrev pub kind_due : Said → Result Kind ℕ
kind_due none = Err 10
kind_due is_dir = Ok Dir
kind_due is_file = Ok File
kind_due is_other = Err 10
kind_due twice = Err 9

-- an entry's eleven words: a file's content, all zero for a folder
abbrev pub held_of : Entry → Result (List ℕ) ℕ
held_of (faulty k) = Err k
held_of (holds absent) = Ok (replicate 11 0)
held_of (holds (file c)) = Ok c
held_of (holds (folder k)) = Ok (replicate 11 0)

-- whether a line is the root's
abbrev pub root_due : Entry → Result (Unit {0}) ℕ
root_due (faulty k) = Err k
root_due (holds x) = Ok tt

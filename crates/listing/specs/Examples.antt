-- Listings and what reading them gives, a row each: the text, the room in words, a number and line or the tree; and those
-- that the profiles read differently.
use Rattle.std.specs.Prelude.{◌≡◌, List, [], ◌∷◌, ◌++◌, map, cond, length, ℕ, ◌<◌}
use Prim.Native.String.{String}
use Rattle.tree.specs.Name.{Name}
use Rattle.tree.specs.Forest.{Forest, Forest.end, Forest.leaf, Forest.dir}
use Rattle.tree.specs.declared.Profile.{Profile}
use Rattle.tree.specs.declared.Profile.TheVariants.{Exact, Folded}
use Rattle.listing.specs.Bytes.{text}
use Rattle.listing.specs.Reading.{Outcome, Outcome.refused, Outcome.accepted, answer_of, most_rows, reading}
use Rattle.listing.specs.Writing.{as_it_is, text_of}

-- a text, the room lent for it, and what comes of it
pub record Example : Type 0 where
  pub listing : List ℕ
  pub room : ℕ
  pub gives : Outcome

-- a listing of lines after the root's, in plenty of room
abbrev listed : String → Outcome → Example
listed t o = record { listing = text ". type=dir\n" ++ text t; room = 400; gives = o }

-- a listing as it stands
abbrev alone : String → Outcome → Example
alone t o = record { listing = text t; room = 400; gives = o }

-- a name of at most four bytes
abbrev short : ℕ → Name
short w = w ∷ 0 ∷ 0 ∷ 0 ∷ 0 ∷ 0 ∷ 0 ∷ 0 ∷ []

-- an empty folder before its later siblings
abbrev folder : ℕ → Forest → Forest
folder w s = dir (short w) end s

-- the file a of that size
abbrev a_of : ℕ → ℕ → Forest
a_of high low =
    leaf (short 0x61000000)
    (1 ∷ high ∷ low ∷ 0x00112233 ∷ 0x44556677 ∷ 0x8899aabb ∷ 0xccddeeff ∷ 0x01234567 ∷ 0x89abcdef ∷ 0xfedcba98 ∷ 0x76543210 ∷ [])
    end

-- the file's digest but for its last two digits, and all of it
abbrev hex62 : String
hex62 = " sha256digest=00112233445566778899aabbccddeeff0123456789ABCDEFfedcba98765432"

abbrev digest : List ℕ
digest = text hex62 ++ text "10"

-- the file a, with those words
abbrev filed : List ℕ → Outcome → Example
filed ws o = record { listing = text ". type=dir\na type=file" ++ (ws ++ text "\n"); room = 400; gives = o }

-- the file a of one byte after each of two texts, its type left to the default
abbrev days : String → String → Outcome → Example
days t u o =
    let day : List ℕ = text "a size=1" ++ (digest ++ text "\n") in
    record { listing = text t ++ (day ++ (text u ++ day)); room = 400; gives = o }

-- with that size
abbrev sized : String → Outcome → Example
sized t o = filed (text " size=" ++ (text t ++ digest)) o

-- with a size, or a digest's end, that is none
abbrev bad_size : String → Example
bad_size t = sized t (refused 9 2)

abbrev bad_end : String → Example
bad_end t = filed (text " size=1" ++ (text hex62 ++ text t)) (refused 9 2)

-- an entry whose first word is no name
abbrev bad_name : String → Example
bad_name w = record { listing = text ". type=dir\n" ++ (text w ++ text " type=dir\n"); room = 400; gives = refused 8 2 }

-- an entry with that for its type, where folders are the default
abbrev typed : ℕ → String → Example
typed n t = record { listing = text "/set type=dir\n.\na " ++ (text t ++ text "\n"); room = 400; gives = refused n 3 }

-- a first word that begins with a slash and is unknown
abbrev unknown : String → Example
unknown w = record { listing = text w ++ text " type=dir\n"; room = 400; gives = refused 9 1 }

-- a line that begins so, with a # that starts no comment and a byte of number 7 past a joined end
abbrev goes_on : String → Example
goes_on w = record { listing = text ". type=dir\n" ++ (text w ++ (text " # \\\n" ++ (200 ∷ 10 ∷ []))); room = 400; gives = refused 7 2 }

-- so many numbers from n on
unfoldable pub up_from : ℕ → ℕ → List ℕ
up_from n ℕ.zero = []
up_from n (ℕ.suc k) = n ∷ up_from (ℕ.suc n) k

-- a byte of number 7, alone on its line
abbrev foreign : ℕ → Example
foreign b = record { listing = b ∷ 10 ∷ []; room = 400; gives = refused 7 1 }

-- three rows, in that room
abbrev in_room : ℕ → Outcome → Example
in_room r o = record { listing = text ". type=dir\na type=dir\nb type=dir\n"; room = r; gives = o }

-- folders, each in the one before
unfoldable pub nested : ℕ → List ℕ
nested ℕ.zero = []
nested (ℕ.suc d) = text "a type=dir\n" ++ nested d

-- and their tree
unfoldable pub nest : ℕ → Forest
nest ℕ.zero = end
nest (ℕ.suc d) = dir (short 0x61000000) (nest d) end

-- sixteen levels, and more lines, in that room
abbrev below : List ℕ → ℕ → Outcome → Example
below t r o = record { listing = text ". type=dir\n" ++ (nested 16 ++ t); room = r; gives = o }

-- a tree, and its text
abbrev sample : Forest
sample =
    dir (short 0x20ff0000) (a_of 0 0)
    (leaf (short 0x622e5f2d) (1 ∷ 4294967295 ∷ 4294967295 ∷ 0xabcdef ∷ 1 ∷ 2 ∷ 3 ∷ 4 ∷ 5 ∷ 6 ∷ 7 ∷ [])
    (dir (0x632c2c2c ∷ 0x2c2c2c2c ∷ 0x2c000000 ∷ 0 ∷ 0 ∷ 0 ∷ 0 ∷ 0 ∷ []) end (leaf (short 0x64000000) (1 ∷ 1 ∷ 2 ∷ 0 ∷ 0 ∷ 0 ∷ 0 ∷ 0 ∷ 0 ∷ 0 ∷ 0 ∷ []) end)))

abbrev sample_text : List ℕ
sample_text =
    text "#mtree\n. type=dir\n\\040\\377 type=dir\na type=file size=0 sha256digest=00112233445566778899aabbccddeeff0123456789abcdeffedcba9876543210\n..\nb._- type=file size=18446744073709551615 sha256digest=00abcdef00000001000000020000000300000004000000050000000600000007\nc\\054\\054\\054\\054\\054\\054\\054\\054 type=dir\n..\nd type=file size=4294967298 sha256digest=0000000000000000000000000000000000000000000000000000000000000000\n..\n"

-- texts without a tree; bytes; lines and how they join
abbrev pub wholes : List Example
wholes =
    alone "" (refused 12 0) ∷
    alone "#mtree\n\n/set type=dir\n" (refused 12 0) ∷
    alone "\r\n. type=dir" (refused 6 0) ∷
    alone ". type=dir\n" (accepted end) ∷
    alone "\t . type=dir\n\n \n# end\n..\n" (accepted end) ∷
    alone ". type=dir\r\n" (refused 7 1) ∷
    record { listing = text "# " ++ (200 ∷ 0 ∷ 10 ∷ text ". type=dir\n"); room = 20; gives = accepted end } ∷
    record { listing = 200 ∷ text "# x\n"; room = 20; gives = refused 7 1 } ∷
    alone ". \\\ntype=dir\\\n" (accepted end) ∷
    alone "# c \\\n. type=dir\n" (accepted end) ∷
    record { listing = text "\\\n # " ++ (200 ∷ text " \\\n. type=dir\n"); room = 20; gives = accepted end } ∷
    listed "fo\\\no type=dir\n" (accepted (folder 0x666f0000 end)) ∷
    listed "a # \\\n# \\\\\ntype=dir\n" (accepted (folder 0x61000000 end)) ∷
    listed "..\\\n# c\n" (refused 9 2) ∷
    listed "a\\\\\n type=dir\n" (refused 8 2) ∷
    listed "a\\ \ntype=dir\n" (refused 8 2) ∷
    listed "\n \\\n\\\n b\n" (refused 10 3) ∷
    listed "..\na \r\n" (refused 7 3) ∷
    map goes_on ("\\\\\n" ∷ "\\" ∷ "*" ∷ "/x" ∷ "." ∷ ".." ∷ "a" ∷ [])
    ++ map foreign (up_from 0 9 ++ (up_from 11 21 ++ up_from 127 129))

-- a default: it outlives the folder it was set in, and holds in those opened after it; is changed in a folder; is cleared in one
abbrev pub held : List Example
held =
    days ". type=dir\n0 type=dir\n/set type=file\n" "..\n1 type=dir\n" (accepted (dir (short 0x30000000) (a_of 0 1) (dir (short 0x31000000) (a_of 0 1) end))) ∷
    days "/set type=dir\n.\n0\n1\n/set type=file\n" "..\n..\n" (accepted (dir (short 0x30000000) (dir (short 0x31000000) (a_of 0 1) end) (a_of 0 1))) ∷
    days "/set type=file\n. type=dir\n0 type=dir\n" "..\n" (accepted (dir (short 0x30000000) (a_of 0 1) (a_of 0 1))) ∷
    listed "/set type=dir\na\nb\n..\n..\nc\n" (accepted (dir (short 0x61000000) (folder 0x62000000 end) (folder 0x63000000 end))) ∷
    alone "/set type=dir\n.\na\n/set type=file\n..\nb\n" (refused 9 6) ∷
    alone "/set type=file\n. type=dir\na type=dir\n/set type=dir\n..\nb\n" (accepted (folder 0x61000000 (folder 0x62000000 end))) ∷
    listed "/set type=dir\na\n/set type=file\nb type=dir\n/set type=dir\nc\n..\n..\nd\n" (accepted (dir (short 0x61000000) (dir (short 0x62000000) (folder 0x63000000 end) (folder 0x64000000 end)) end)) ∷
    alone "/set type=dir\n.\na\n/unset all\n..\nb\n" (refused 10 6) ∷
    alone "/set type=dir\n.\na\nb\n/unset type\n..\n..\nc\n" (refused 10 8) ∷
    listed "/set type=dir\na\n/unset type\nb type=dir\nc\n" (refused 10 6) ∷
    listed "a type=dir\n/set type=dir\nb\n..\n..\n/unset all\nc\n" (refused 10 8) ∷
    alone "/set type=dir\n.\na\n/unset all\n..\n/set type=dir\nb\n" (accepted (folder 0x61000000 (folder 0x62000000 end))) ∷
    []

-- / lines and the default before the root and after it; the root, and what opens and closes
abbrev pub defaults : List Example
defaults =
    alone "/set type=file\n.\n" (refused 10 2) ∷
    alone "/set type=file\n. type=dir\nb type=dir\nc\n" (refused 9 4) ∷
    alone "/set type=file\n/set type=dir\n/set\n/set gid / # Type=x types=x\n/unset\n/unset size sha256digest uid=*\n.\n" (accepted end) ∷
    alone "/set type=dir\n/unset type=x type\n.\n" (refused 10 3) ∷
    alone "/set type=dir\n/unset all=x\n.\n" (refused 10 3) ∷
    alone "/set uid=0 / #\n/unset size\n.\n" (refused 10 3) ∷
    alone "/set type=dir type=dir\n" (refused 9 1) ∷
    alone "/set type=x size\n" (refused 9 1) ∷
    alone "/set sha256digest=\n" (refused 9 1) ∷
    alone "/set type\n" (refused 10 1) ∷
    listed "..\n/set type=dir\n" (accepted end) ∷
    listed "..\n/set type=dir\na\n" (refused 11 4) ∷
    listed "..\n/set type=dir\n/set type=x\n" (refused 10 4) ∷
    alone ".. x\n" (refused 11 1) ∷
    alone "\\056 type=dir\n" (refused 11 1) ∷
    alone ". type=file size=x\n" (refused 10 1) ∷
    alone ". type=x type=dir\n" (refused 9 1) ∷
    record { listing = text ". type=x\n"; room = 0; gives = refused 10 1 } ∷
    listed ". type=x\n" (refused 11 2) ∷
    listed "..\n.\n" (refused 11 3) ∷
    listed "..\n.. x\n" (refused 11 3) ∷
    listed "..\n\\400\n" (refused 11 3) ∷
    listed ".. x\n" (refused 9 2) ∷
    map unknown ("/" ∷ "//" ∷ "/SET" ∷ "/sets" ∷ "/set=" ∷ "/unset=" ∷ [])

-- names: escapes, all the plain bytes, and words that are none
abbrev pub called : List Example
called =
    listed "\\043\\0401 type=dir\n" (accepted (folder 0x23203100 end)) ∷
    listed "\\001\\011\\012\\040\\043\\052\\056\\077\\133\\134\\177\\200\\377 type=dir\n" (accepted (dir (0x01090a20 ∷ 0x232a2e3f ∷ 0x5b5c7f80 ∷ 0xff000000 ∷ 0 ∷ 0 ∷ 0 ∷ 0 ∷ []) end end)) ∷
    listed "...\\377 type=dir\n" (accepted (folder 0x2e2e2eff end)) ∷
    listed "!\"$%&'()+,-.0123456789:;<=>@ABCD type=dir\nEFGHIJKLMNOPQRSTUVWXYZ]^_`abcdef type=dir\nghijklmnopqrstuvwxyz{|}~ type=dir\n" (accepted (dir (0x21222425 ∷ 0x26272829 ∷ 0x2b2c2d2e ∷ 0x30313233 ∷ 0x34353637 ∷ 0x38393a3b ∷ 0x3c3d3e40 ∷ 0x41424344 ∷ []) (dir (0x45464748 ∷ 0x494a4b4c ∷ 0x4d4e4f50 ∷ 0x51525354 ∷ 0x55565758 ∷ 0x595a5d5e ∷ 0x5f606162 ∷ 0x63646566 ∷ []) (dir (0x6768696a ∷ 0x6b6c6d6e ∷ 0x6f707172 ∷ 0x73747576 ∷ 0x7778797a ∷ 0x7b7c7d7e ∷ 0 ∷ 0 ∷ []) end end) end) end)) ∷
    map bad_name ("a#" ∷ "a*" ∷ "a/" ∷ "a?" ∷ "a[" ∷ "a\\" ∷ "./a" ∷ "\\056" ∷ ".\\056" ∷ "\\057" ∷ "a\\000" ∷ "\\400" ∷ "\\080" ∷ "\\048" ∷ "\\04/" ∷ "\\04\\\n0" ∷ "abcdefghijklmnopqrstuvwxyz0123456" ∷ [])

-- keywords
abbrev pub entries : List Example
entries =
    listed "b type=dir size=x size=y \n..\na uid type=dir =\n" (accepted (folder 0x61000000 (folder 0x62000000 end))) ∷
    alone "/set type=dir\n.\na Type=x types=x \\164ype=x size size\n" (accepted (folder 0x61000000 end)) ∷
    listed "type=dir\n" (refused 10 2) ∷
    sized "18446744073709551615" (accepted (a_of 4294967295 4294967295)) ∷
    sized "00000000000000000012" (accepted (a_of 0 12)) ∷
    filed (digest ++ text " size=1") (accepted (a_of 0 1)) ∷
    filed (text " size=1" ++ (digest ++ digest)) (refused 9 2) ∷
    filed (text " size=1") (refused 9 2) ∷
    filed digest (refused 9 2) ∷
    map (typed 10) ("type" ∷ "type=" ∷ "type=Dir" ∷ "type=dir=" ∷ "type=d\\151r" ∷ "type=link size=1 size=1" ∷ [])
    ++ (map (typed 9) ("type=dir type=dir" ∷ "type=x type=dir" ∷ "type=dir type" ∷ [])
    ++ (map bad_size ("" ∷ "a" ∷ "1/" ∷ "1:" ∷ "=1" ∷ "1 size=1" ∷ "18446744073709551616" ∷ "000000000000000000012" ∷ [])
    ++ map bad_end ("1" ∷ "100" ∷ "1/" ∷ "1:" ∷ "1@" ∷ "1G" ∷ "1`" ∷ "1g" ∷ [])))

-- places: what stands in what, names twice, room and depth
abbrev pub places : List Example
places =
    listed "a type=dir\nb type=dir\n..\nc type=dir\n" (accepted (dir (short 0x61000000) (folder 0x62000000 (folder 0x63000000 end)) end)) ∷
    listed "a type=dir\na type=dir\n..\n..\n\\141 type=dir\n" (refused 13 6) ∷
    filed (text " size=1" ++ (digest ++ text "\na type=dir")) (refused 13 3) ∷
    listed "a type=dir\n..\na\n" (refused 10 4) ∷
    record { listing = text ". type=dir\na type=dir\n..\na type=dir\n"; room = 40; gives = refused 13 4 } ∷
    record { listing = text ". type=dir\na type=dir\nb\n"; room = 40; gives = refused 10 3 } ∷
    in_room 19 (refused 3 1) ∷
    in_room 39 (refused 3 2) ∷
    in_room 59 (refused 3 3) ∷
    in_room 60 (accepted (dir (short 0x61000000) (folder 0x62000000 end) end)) ∷
    below [] 400 (accepted (nest 16)) ∷
    below (text "a type=dir\n") 340 (refused 14 18) ∷
    below (text "a type=file size=1" ++ (digest ++ text "\n")) 400 (refused 14 18) ∷
    below (text "a\n") 400 (refused 10 18) ∷
    record { listing = sample_text; room = 120; gives = accepted sample } ∷
    []

-- all of them
abbrev pub examples : List Example
examples = wholes ++ (held ++ (defaults ++ (called ++ (entries ++ places))))

-- a text after the root's line, and what comes of it in each profile
pub record Cased : Type 0 where
  pub lines : String
  pub exact : Outcome
  pub folded : Outcome

-- both, where they are alike
abbrev alike : String → Outcome → Cased
alike t o = record { lines = t; exact = o; folded = o }

-- read in that profile
abbrev read_in : Profile → Cased → Outcome
read_in p x = reading p (text ". type=dir\n" ++ text x.lines) 400

-- a name twice, escaped or not, in the root and below; the order of siblings; other bytes than letters, and other folders
abbrev pub cased : List Cased
cased =
    record { lines = "a type=dir\n..\n\\101 type=dir\n"; exact = accepted (folder 0x41000000 (folder 0x61000000 end)); folded = refused 13 4 } ∷
    record { lines = "Ab type=dir\nxY type=dir\n..\nXy type=dir\n"; exact = accepted (dir (short 0x41620000) (folder 0x58790000 (folder 0x78590000 end)) end); folded = refused 13 5 } ∷
    record { lines = "Day2 type=dir\n..\nday1 type=dir\n"; exact = accepted (folder 0x44617932 (folder 0x64617931 end)); folded = accepted (folder 0x64617931 (folder 0x44617932 end)) } ∷
    record { lines = "B type=dir\n..\n_ type=dir\n"; exact = accepted (folder 0x42000000 (folder 0x5f000000 end)); folded = accepted (folder 0x5f000000 (folder 0x42000000 end)) } ∷
    alike "A type=dir\na type=dir\n" (accepted (dir (short 0x41000000) (folder 0x61000000 end) end)) ∷
    alike "\\301 type=dir\n..\n\\341 type=dir\n" (accepted (folder 0xc1000000 (folder 0xe1000000 end))) ∷
    alike "@ type=dir\n..\n` type=dir\n..\n\\133 type=dir\n..\n{ type=dir\n" (accepted (folder 0x40000000 (folder 0x5b000000 (folder 0x60000000 (folder 0x7b000000 end))))) ∷
    alike "a Type=file type=dir\n" (accepted (folder 0x61000000 end)) ∷
    alike "a type=Dir\n" (refused 10 2) ∷
    []

-- those of the bytes that the writer leaves as they are
unfoldable pub as_they_are : List ℕ → List ℕ
as_they_are [] = []
as_they_are (b ∷ bs) = cond (as_it_is b) (b ∷ as_they_are bs) (as_they_are bs)

-- in each profile every listing gives what its row says, and longer text is refused; the sample is written as shown, and no other
-- bytes are left as they are; rooms are counted in whole rows; what a caller gets
pub record ExamplesHold : Type 0 where
  pub given : (p : Profile) → map (λ (x : Example). reading p x.listing x.room) examples ≡ map (λ (x : Example). x.gives) examples
  pub exact : map (read_in Exact) cased ≡ map (λ (x : Cased). x.exact) cased
  pub folded : map (read_in Folded) cased ≡ map (λ (x : Cased). x.folded) cased
  pub long : (p : Profile) (t : List ℕ) (room : ℕ) → 65536 < length t → reading p t room ≡ refused 6 0
  pub written : text_of sample ≡ sample_text
  pub plain : as_they_are (up_from 0 256) ≡ text "-.0123456789ABCDEFGHIJKLMNOPQRSTUVWXYZ_abcdefghijklmnopqrstuvwxyz"
  pub rows : map most_rows (81919 ∷ 81920 ∷ 81940 ∷ []) ≡ 4095 ∷ 4096 ∷ 4096 ∷ []
  pub refusal : answer_of (refused 9 2) ≡ record { number = 9; side = 0; place = 2 }
  pub success : answer_of (accepted (nest 2)) ≡ record { number = 0; side = 0; place = 3 }

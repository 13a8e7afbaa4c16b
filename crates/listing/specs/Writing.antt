-- The text that the writer gives for a tree.
use Rattle.std.specs.Prelude.{List, [], ◌∷◌, ◌++◌, Bool, cond, ◌||◌, drop, get_or, ltb, eqb, ℕ, zero, suc, ◌+◌, ◌*◌, ◌/◌, ◌%◌}
use Rattle.tree.specs.Name.{Name}
use Rattle.tree.specs.Forest.{Content, Forest, Forest.end, Forest.leaf, Forest.dir}
use Rattle.tree.specs.Rules.{bytes}
use Rattle.listing.specs.Bytes.{text, among, within}

-- letters, digits, dot, underscore and hyphen
unfoldable pub as_it_is : ℕ → Bool
as_it_is b = within 97 122 b || within 65 90 b || within 48 57 b || among b (46 ∷ 95 ∷ 45 ∷ [])

-- a byte as it is, or a backslash and three octal digits
unfoldable pub spell_byte : ℕ → List ℕ
spell_byte b = cond (as_it_is b) (b ∷ []) (92 ∷ (48 + b / 64) ∷ (48 + b / 8 % 8) ∷ (48 + b % 8) ∷ [])

-- bytes up to the first zero
unfoldable pub spell : List ℕ → List ℕ
spell [] = []
spell (b ∷ bs) = cond (eqb b 0) [] (spell_byte b ++ spell bs)

-- a name's spelling
abbrev pub name_text : Name → List ℕ
name_text n = spell (bytes n)

-- decimal digits without leading zeros, before those in acc, where k digits are enough
unfoldable pub decimal : ℕ → ℕ → List ℕ → List ℕ
decimal zero n acc = acc
decimal (suc k) n acc = cond (ltb n 10) ((48 + n) ∷ acc) (decimal k (n / 10) ((48 + n % 10) ∷ acc))

-- a content's size, 64 bits whole, which 20 digits hold
abbrev pub size_text : Content → List ℕ
size_text c = decimal 20 (4294967296 * get_or c 1 0 + get_or c 2 0) []

-- lower case
abbrev pub hex_digit : ℕ → ℕ
hex_digit d = cond (ltb d 10) (48 + d) (87 + d)

-- two lower-case hex digits a byte
unfoldable pub hex : List ℕ → List ℕ
hex [] = []
hex (b ∷ bs) = hex_digit (b / 16) ∷ hex_digit (b % 16) ∷ hex bs

-- a content's digest
abbrev pub digest_text : Content → List ℕ
digest_text c = hex (bytes (drop 3 c))

-- a folder's line
unfoldable pub dir_line : List ℕ → List ℕ
dir_line name = name ++ text " type=dir\n"

-- a file's line
unfoldable pub file_line : Name → Content → List ℕ
file_line n c = name_text n ++ (text " type=file size=" ++ (size_text c ++ (text " sha256digest=" ++ (digest_text c ++ text "\n"))))

-- a line a row, and .. after each folder's last
unfoldable pub lines_of : Forest → List ℕ
lines_of end = []
lines_of (leaf n c s) = file_line n c ++ lines_of s
lines_of (dir n k s) = dir_line (name_text n) ++ (lines_of k ++ (text "..\n" ++ lines_of s))

-- #mtree, the root, its entries
unfoldable pub text_of : Forest → List ℕ
text_of f = text "#mtree\n" ++ (dir_line (text ".") ++ (lines_of f ++ text "..\n"))

-- A line's words, and the values that they give a keyword.
use Rattle.std.specs.Prelude.{List, [], ◌∷◌, Bool, true, false, cond, take, drop, get_or, eqb, ℕ, zero, suc}
use Rattle.tree.specs.Same.{same_words}
use Rattle.listing.specs.Bytes.{class_of}
use Rattle.listing.specs.declared.Class.{Class}
use Rattle.listing.specs.declared.Class.TheVariants.{Plain, Escape, Blank, LineEnd, Hash, Mark, Refused}

-- words are lists of bytes
abbrev pub Words : Type 0
Words = List (List ℕ)

-- a byte of this class, with those after it, parts words: a backslash does directly before LF
abbrev pub parts : Class → List ℕ → Bool
parts Blank bs = true
parts LineEnd bs = true
parts Escape bs = eqb (get_or bs 0 0) 10
parts Plain bs = false
parts Hash bs = false
parts Mark bs = false
parts Refused bs = false

-- a byte, with those after it, parts words
abbrev pub blank : ℕ → List ℕ → Bool
blank b bs = parts (class_of b) bs

-- the bytes before the first blank
unfoldable pub span : List ℕ → ℕ
span [] = 0
span (b ∷ bs) = cond (blank b bs) 0 (suc (span bs))

-- the words, past k bytes of a word already taken
unfoldable pub words_from : ℕ → List ℕ → Words
words_from k [] = []
words_from (suc k) (b ∷ bs) = words_from k bs
words_from zero (b ∷ bs) = cond (blank b bs) (words_from 0 bs) ((b ∷ take (span bs) bs) ∷ words_from (span bs) bs)

-- a line's words
abbrev pub words : List ℕ → Words
words line = words_from 0 line

-- the bytes before the first `=`
unfoldable pub key_len : List ℕ → ℕ
key_len [] = 0
key_len (b ∷ bs) = cond (eqb b 61) 0 (suc (key_len bs))

-- the values that words give a keyword; without a `=` the value is empty
unfoldable pub values : List ℕ → Words → Words
values key [] = []
values key (w ∷ ws) = cond (same_words (take (key_len w) w) key) (drop (suc (key_len w)) w ∷ values key ws) (values key ws)

-- the class of number 7
abbrev pub is_refused : Class → Bool
is_refused Refused = true
is_refused Plain = false
is_refused Escape = false
is_refused Blank = false
is_refused LineEnd = false
is_refused Hash = false
is_refused Mark = false

-- no byte outside 9, 10 and 32 to 126
unfoldable pub is_text : List ℕ → Bool
is_text [] = true
is_text (b ∷ bs) = cond (is_refused (class_of b)) false (is_text bs)

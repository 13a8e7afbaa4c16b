-- Logical lines. A line is a piece of the text as it stands: a backslash before LF, and LF within the line, count as blanks.
use Rattle.std.specs.Prelude.{List, [], ◌∷◌, Bool, true, false, cond, take, eqb, ℕ, zero, suc}
use Rattle.listing.specs.Bytes.{class_of}
use Rattle.listing.specs.declared.Class.{Class}
use Rattle.listing.specs.declared.Class.TheVariants.{Plain, Escape, Blank, LineEnd, Hash, Mark, Refused}
use Rattle.listing.specs.declared.Mode.{Mode}
use Rattle.listing.specs.declared.Mode.TheVariants.{Lead, LeadBack, Body, BodyBack, Comment, Done}

-- one of three: for LF, for a backslash, for any other byte
abbrev pub by_end : Class → Mode → Mode → Mode → Mode
by_end LineEnd x y z = x
by_end Escape x y z = y
by_end Plain x y z = z
by_end Blank x y z = z
by_end Hash x y z = z
by_end Mark x y z = z
by_end Refused x y z = z

-- the first byte that is no blank tells a comment from other lines
abbrev pub begin_of : Class → Mode
begin_of Blank = Lead
begin_of LineEnd = Done
begin_of Hash = Comment
begin_of Escape = LeadBack
begin_of Plain = Body
begin_of Mark = Body
begin_of Refused = Body

-- where a byte leads within a line: LF ends it, but after a backslash goes on, except in a comment
abbrev pub step_of : Mode → Class → Mode
step_of Lead c = begin_of c
step_of LeadBack c = by_end c Lead BodyBack Body
step_of Body c = by_end c Done BodyBack Body
step_of BodyBack c = by_end c Body BodyBack Body
step_of Comment c = by_end c Done Comment Comment
step_of Done c = Done

-- past the end of the line
abbrev pub is_done : Mode → Bool
is_done Done = true
is_done Lead = false
is_done LeadBack = false
is_done Body = false
is_done BodyBack = false
is_done Comment = false

-- how many of these bytes the line still has; the text's end ends it too
unfoldable pub len_in : Mode → List ℕ → ℕ
len_in m [] = 0
len_in m (b ∷ bs) = cond (is_done m) 0 (suc (len_in (step_of m (class_of b)) bs))

-- a logical line, its LF included, and the number of its first physical line
pub record Line : Type 0 where
  pub number : ℕ
  pub bytes : List ℕ

-- the number of the physical line of the byte after this one
abbrev pub next : ℕ → ℕ → ℕ
next n b = cond (eqb b 10) (suc n) n

-- the lines from physical line n on, past k bytes of a line already taken
unfoldable pub lines_from : ℕ → ℕ → List ℕ → List Line
lines_from n k [] = []
lines_from n (suc k) (b ∷ bs) = lines_from (next n b) k bs
lines_from n zero (b ∷ bs) =
    record { number = n; bytes = b ∷ take (len_in (step_of Lead (class_of b)) bs) bs }
    ∷ lines_from (next n b) (len_in (step_of Lead (class_of b)) bs) bs

-- a text's lines, numbered from 1
abbrev pub lines : List ℕ → List Line
lines t = lines_from 1 0 t

-- Texts made of whole logical lines, and the lines as they stand in a text.
use Rattle.std.specs.Prelude.{List, [], ◌∷◌, Bool, cond, ℕ}
use Rattle.listing.specs.Bytes.{class_of}
use Rattle.listing.specs.Lines.{Line, lines, step_of, is_done}
use Rattle.listing.specs.declared.Mode.{Mode}
use Rattle.listing.specs.declared.Mode.TheVariants.{Lead, Done}

-- the last byte ends a line, where the bytes before these left the mode m; past the end of a line the next one begins
unfoldable pub whole_from : Mode → List ℕ → Bool
whole_from m [] = is_done m
whole_from m (b ∷ bs) = whole_from (step_of (cond (is_done m) Lead m) (class_of b)) bs

-- no line, or the last byte ends the last one
abbrev pub whole : List ℕ → Bool
whole t = whole_from Done t

-- lines without their numbers
abbrev pub bytes_of : List Line → List (List ℕ)
bytes_of [] = []
bytes_of (l ∷ ls) = l.bytes ∷ bytes_of ls

-- a text's lines
abbrev pub pieces : List ℕ → List (List ℕ)
pieces t = bytes_of (lines t)

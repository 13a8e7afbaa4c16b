-- What a lent buffer holds after words were written into it.
use Rattle.std.specs.Prelude.{List, ◌++◌, ℕ, ◌+◌, length, take, drop}

-- d with the words s at place at
unfoldable pub written : List ℕ → ℕ → List ℕ → List ℕ
written d at s = take at d ++ (s ++ drop (at + length s) d)

-- d with the words s at its start: what is past them stays
unfoldable pub over : List ℕ → List ℕ → List ℕ
over d s = s ++ drop (length s) d

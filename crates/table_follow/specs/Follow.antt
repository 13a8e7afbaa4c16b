-- A path is followed one name at a time: an entry of the subtree's own row, and then in that entry's subtree.
use Rattle.std.specs.Prelude.{List, [], ◌∷◌, ℕ, ◌+◌, Option, Some, None}
use Rattle.tree.specs.Forest.{TreePath}
use Rattle.table_find.specs.Subtree.{subtree}
use Rattle.table_find.specs.Entry.{child}

-- what is found in the rows from row i on, by its number among all rows
abbrev pub further : ℕ → Option ℕ → Option ℕ
further i (Some j) = Some (i + j)
further i None = None

-- what an entry that is found leads to
abbrev pub onward : Option ℕ → (ℕ → Option ℕ) → Option ℕ
onward (Some i) k = k i
onward None k = None

-- the row that a path leads to in the words w of a subtree, whose own row is the first
unfoldable pub follow : TreePath → List ℕ → Option ℕ
follow [] w = Some 0
follow (n ∷ p) w = onward (child w 0 n) (λ (i : ℕ). further i (follow p (subtree w i)))

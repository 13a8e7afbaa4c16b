-- A path as a call is given it: sixteen names of eight words each, and a depth.
use Rattle.std.specs.Prelude.{◌≡◌, List, [], ◌∷◌, ◌++◌, Bool, true, ◌&&◌, leb, length, take, replicate, ℕ, zero, suc, ◌-◌}
use Rattle.tree.specs.Name.{Name}
use Rattle.tree.specs.Forest.{TreePath}
use Rattle.tree.specs.Rules.{Words32, zeros, good_name}
use Rattle.table_row.specs.Tree.{root_name}

-- the names within the depth
abbrev pub path_of : List Name → ℕ → TreePath
path_of names depth = take depth names

-- the slots that a path is given in: its names, and zeros past them
abbrev pub slots_of : TreePath → List Name
slots_of p = p ++ replicate (16 - length p) root_name

-- the path's parent
abbrev pub parent_of : List Name → ℕ → TreePath
parent_of names depth = take (depth - 1) names

-- the first n slots hold names that an entry may have, the others zeros
unfoldable pub slots : ℕ → List Name → Bool
slots n [] = true
slots zero (m ∷ ms) = zeros m && slots zero ms
slots (suc n) (m ∷ ms) = good_name m && slots n ms

-- number 5: the depth is 1 to 16, and no slot is bad
unfoldable pub path_rule : List Name → ℕ → Bool
path_rule names depth = leb 1 depth && leb depth 16 && slots depth names

-- eight words of 32 bits in every slot, as an array of names has
unfoldable pub Eights : List Name → Type 0
Eights [] = Unit {0}
Eights (n ∷ ns) = (length n ≡ 8) × Words32 n × Eights ns

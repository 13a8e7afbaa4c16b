-- The path of a row: going back from it, the folder in which a row stands is the last row before it that is less deep.
use Rattle.std.specs.Prelude.{List, [], ◌∷◌, ◌++◌, cond, ltb, ℕ, zero, suc}
use Rattle.tree.specs.Forest.{TreePath, Node, kids}
use Rattle.tree.specs.declared.Profile.{Profile}
use Rattle.tree.specs.Key.{entry, spelling}
use Rattle.table_row.specs.Table.{row_at, depth, name}

-- the last row before row i that is less deep than d; row 0 where there is none
unfoldable pub last_above : List ℕ → ℕ → ℕ → ℕ
last_above w d zero = 0
last_above w d (suc i) = cond (ltb (depth (row_at w i)) d) i (last_above w d i)

-- the row of the folder in which row i stands
abbrev pub folder_of : List ℕ → ℕ → ℕ
folder_of w i = last_above w (depth (row_at w i)) i

-- the names met from row i back to row 1: that of the first row less deep than d, and then from there on of each that is
-- less deep than the one before
unfoldable pub names_back : List ℕ → ℕ → ℕ → TreePath
names_back w d zero = []
names_back w d (suc i) =
    cond (ltb (depth (row_at w (suc i))) d)
    (names_back w (depth (row_at w (suc i))) i ++ (name (row_at w (suc i)) ∷ []))
    (names_back w d i)

-- the path of row i, its own name the last; the root's is empty
unfoldable pub path_of : List ℕ → ℕ → TreePath
path_of w i = names_back w (suc (depth (row_at w i))) i

-- a path of keys as x spells it
unfoldable pub spelled_in : Profile → Node → TreePath → TreePath
spelled_in p x [] = []
spelled_in p x (k ∷ q) = spelling p k (kids x) k ∷ spelled_in p (entry p k (kids x)) q

-- A subtree runs from its row to the first row whose depth is not greater, or to the end.
use Rattle.std.specs.Prelude.{List, [], ◌∷◌, cond, ltb, take, drop, ℕ, suc, ◌+◌, ◌*◌, ◌-◌}
use Rattle.table_row.specs.Table.{Row, row_at, rows, depth}

-- how many rows come before the first whose depth is not greater than d
unfoldable pub run : ℕ → List Row → ℕ
run d [] = 0
run d (r ∷ rs) = cond (ltb d (depth r)) (suc (run d rs)) 0

-- the row at which the subtree of row i ends
abbrev pub end_of : List ℕ → ℕ → ℕ
end_of w i = i + 1 + run (depth (row_at w i)) (drop (i + 1) (rows w))

-- the words of the subtree at row i; none where there is no such row
abbrev pub subtree : List ℕ → ℕ → List ℕ
subtree w i = take (20 * end_of w i - 20 * i) (drop (20 * i) w)

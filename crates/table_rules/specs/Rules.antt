-- The row rules but for the order of siblings: depth, kind, and a table's length.
use Rattle.std.specs.Prelude.{List, [], ◌∷◌, Bool, cond, ◌&&◌, leb, eqb, length, drop, ℕ, zero, suc, ◌+◌, ◌/◌, ◌%◌}
use Rattle.tree.specs.Rules.{zeros}
use Rattle.table_row.specs.Table.{Row, row_at, depth, kind}

-- the greatest depth that may follow row p: one more than its own where it is a folder's
abbrev pub deepest : Row → ℕ
deepest p = cond (eqb (kind p) 0) (depth p + 1) (depth p)

-- the depth of row r, which follows row p: 1 to 16
unfoldable pub depth_rule : Row → Row → Bool
depth_rule p r = leb 1 (depth r) && leb (depth r) 16 && leb (depth r) (deepest p)

-- a folder's row has zeros in words 10 to 19, a file's may hold any value there, and there is no other kind
unfoldable pub kind_rule : Row → Bool
kind_rule r = cond (eqb (kind r) 0) (zeros (drop 10 r)) (eqb (kind r) 1)

-- 20 words times 1 to 4,096
unfoldable pub sized : List ℕ → Bool
sized w = eqb (length w % 20) 0 && leb 1 (length w / 20) && leb (length w / 20) 4096

-- the rows before row i of a table, the nearest first
unfoldable pub before : List ℕ → ℕ → List Row
before w zero = []
before w (suc i) = row_at w i ∷ before w i

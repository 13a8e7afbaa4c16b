-- Where an entry goes among the entries of its folder, and the words of a table with its row put in. Names are matched by key,
-- so that it is a table of keys that is searched, for a key.
use Rattle.std.specs.Prelude.{◌≡◌, List, [], ◌∷◌, ◌++◌, cond, ltb, eqb, length, take, drop, Option, Some, None}
use Prim.Native.Nat.{ℕ, suc, ◌+◌, ◌*◌, ◌-◌, ◌≤◌, Ordering}
use Rattle.tree.specs.Name.{Name, cmp, by_order}
use Rattle.tree.specs.Forest.{Forest, Present, find, size}
use Rattle.table_row.specs.Table.{Row, row_at, rows, depth, name}
use Rattle.table_row.specs.Buffer.{written}
use Rattle.table_stands.specs.Around.{before}

-- how the name n stands to a row, in a folder of depth d: less where the folder has ended, greater to rows beneath entries
unfoldable pub against : ℕ → Name → Row → Ordering
against d n r = cond (ltb d (depth r)) (cond (eqb (depth r) (suc d)) (cmp n (name r)) Ordering.gt) Ordering.lt

-- the first entry whose name is not less than n, or the folder's end, among rows of which the first is row i
unfoldable pub spot_in : Name → ℕ → ℕ → List Row → Option ℕ
spot_in n d i [] = Some i
spot_in n d i (r ∷ rs) = by_order (against d n r) (Some i) None (spot_in n d (suc i) rs)

-- where the search starts: past the entry at row last, if n comes after it, else past the folder's own row
abbrev pub start_of : List ℕ → ℕ → ℕ → Name → ℕ
start_of w f last n = cond (ltb f last) (by_order (cmp n (name (row_at w last))) (f + 1) (f + 1) (last + 1)) (f + 1)

-- the search from row i on, in the folder at row f
abbrev pub searched : List ℕ → ℕ → Name → ℕ → Option ℕ
searched w f n i = spot_in n (depth (row_at w f)) i (drop i (rows w))

-- where the name n goes in the folder at row f
unfoldable pub spot_of : List ℕ → ℕ → ℕ → Name → Option ℕ
spot_of w f last n = searched w f n (start_of w f last n)

-- the row of the entry that was put last into the folder k, which stands at row f: the folder's own, where there is none
pub data Last (f : ℕ) (k : Forest) : ℕ → Type 0 where
  none : Last f k f
  entry : (a : Name) → Present (find a k) → Last f k (f + 1 + size (before a k))

-- a row that is free is one of the table's, or the next
abbrev pub Inside : List ℕ → Option ℕ → Type 0
Inside w (Some i) = 20 * i ≤ length w
Inside w None = Unit {0}

-- r is where a search of the words w is to end
pub record Sits (w : List ℕ) (x r : Option ℕ) : Type 0 where
  pub answer : r ≡ x
  pub inside : Inside w r

-- w, of whose words the first n are in use, with the row r put in at word a
unfoldable pub inserted : List ℕ → ℕ → ℕ → Row → List ℕ
inserted w n a r = written w a (r ++ take (n - a) (drop a w))

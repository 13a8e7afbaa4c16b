-- Three tables looked at through a row number of each; 4,294,967,295 is no row.
use Rattle.std.specs.Prelude.{List, [], ◌∷◌, Bool, false, Option, Some, None, cond, ltb, eqb, length, drop, ℕ, suc, ◌≡◌, ◌+◌, ◌/◌, ◌≤◌, ◌<◌}
use Rattle.std.specs.Ordering.{is_le, ordering_reverse}
use Rattle.std.specs.declared.cmp.Ordering.{Ordering as Order}
use Rattle.std.specs.declared.cmp.Ordering.TheVariants.{Less, Equal, Greater}
use Rattle.tree.specs.Name.{cmp}
use Rattle.tree.specs.Same.{same_words}
use Rattle.table_row.specs.Table.{Row, row_at, rows, depth, kind, name}
use Rattle.table_row.specs.Order.{ordered}
use Rattle.table_find.specs.Subtree.{subtree}
use Rattle.plan_cursor.specs.declared.Rows.{Rows}
use Rattle.plan_cursor.specs.declared.Decision.{Decision}
use Rattle.plan_cursor.specs.declared.Decision.TheVariants.{Agreed, LeftGets, RightGets, Clash}

abbrev pub none : ℕ
none = 4294967295

abbrev pub is_row : List ℕ → ℕ → Bool
is_row w i = ltb i (length w / 20)

-- row i of a table, where it has one
abbrev pub HasRow : List ℕ → ℕ → Option ℕ → Type 0
HasRow w i (Some j) = (j ≡ i) × (i < length w / 20)
HasRow w i None = length w / 20 ≤ i

-- the first row of depth d among rows, the first of which is row i, before any that is less deep
unfoldable pub seek : ℕ → ℕ → List Row → ℕ
seek d i [] = none
seek d i (r ∷ rs) = cond (eqb (depth r) d) i (cond (ltb (depth r) d) none (seek d (suc i) rs))

-- the first entry of depth d from row i on
abbrev pub from : List ℕ → ℕ → ℕ → ℕ
from w d i = seek d i (drop i (rows w))

-- the order of the names of row a of w and row b of v; a row that is not there comes after every other
unfoldable pub order_at : List ℕ → ℕ → List ℕ → ℕ → Order
order_at w a v b =
    cond (is_row w a) (cond (is_row v b) (ordered (cmp (name (row_at w a)) (name (row_at v b)))) Less) (cond (is_row v b) Greater Equal)

-- row a, where neither order says that its name comes after another
abbrev pub keep : Order → Order → ℕ → ℕ
keep x y a = cond (is_le x) (cond (is_le y) a none) none

-- the same by the orders of archive and left, left and right, archive and right
abbrev pub least_by : Order → Order → Order → Rows → Rows
least_by x y z h = record { o = keep x z h.o; l = keep (ordering_reverse x) y h.l; r = keep (ordering_reverse z) (ordering_reverse y) h.r }

-- of three heads those with the least name
abbrev pub least : List ℕ → List ℕ → List ℕ → Rows → Rows
least o l r h = least_by (order_at o h.o l h.l) (order_at l h.l r h.r) (order_at o h.o r h.r) h

-- behind row t, if it is one, to the next entry of depth d; else where we were
unfoldable pub behind : List ℕ → ℕ → ℕ → ℕ → ℕ
behind w d a t = cond (is_row w t) (from w d (t + 1)) a

unfoldable pub is_folder : List ℕ → ℕ → Bool
is_folder w i = cond (is_row w i) (eqb (kind (row_at w i)) 0) false

-- the first line that fits
unfoldable pub decision : List ℕ → List ℕ → List ℕ → Rows → Decision
decision o l r h =
    cond (same_words (subtree l h.l) (subtree r h.r)) (Agreed h)
    (cond (same_words (subtree l h.l) (subtree o h.o)) (LeftGets h)
    (cond (same_words (subtree r h.r) (subtree o h.o)) (RightGets h) (Clash h)))

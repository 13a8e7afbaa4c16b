-- What the check remembers of the rows before a row: for each depth the one that a row of it would come after.
use Rattle.std.specs.Prelude.{◌≡◌, List, true, length, get_or, set, ℕ, ◌+◌, ◌-◌, ◌≤◌, ◌<◌}
use Rattle.tree.specs.Name.{Name, cmp}
use Rattle.tree.specs.Rules.{zeros, good_name}
use Rattle.tree.specs.declared.Profile.{Profile}
use Rattle.tree.specs.Key.{key}
use Rattle.table_row.specs.Table.{row_at, name}
use Rattle.table_row.specs.Order.{ordered}
use Rattle.table_rules.specs.Rules.{deepest, before}
use Rattle.table_rules.specs.Keyed.{sibling}

-- before row i: the sibling before a row of depth x that may stand there, or row 0, which comes before every good name
pub record Lasts (p : Profile) (w : List ℕ) (i : ℕ) (last : List ℕ) : Type 0 where
  pub long : length last ≡ 18
  pub low : (x : ℕ) → get_or last x 0 < i
  pub root : zeros (row_at w 0) ≡ true
  pub stands : (x : ℕ) → x ≤ deepest (row_at w (i - 1)) → (n : Name) → good_name n ≡ true
      → sibling p x n (before w i) ≡ ordered (cmp (key p (name (row_at w (get_or last x 0)))) (key p n))

-- after row i, of depth d
abbrev pub lasts_after : ℕ → ℕ → List ℕ → List ℕ
lasts_after d i last = set (set last d i) (d + 1) 0

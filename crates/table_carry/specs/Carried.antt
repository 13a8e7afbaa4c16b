-- The rows that a list entry carries, as words of the left or the right table.
use Rattle.std.specs.Prelude.{List, [], Bool, cond, ◌&&◌, eqb, ℕ}
use Rattle.tree.specs.declared.Profile.{Profile}
use Rattle.table_rules.specs.Answer.{is_accepted}
use Rattle.table_rules.specs.Contract.{check_due}
use Rattle.table_find.specs.Subtree.{subtree}

-- none of 1, 2 and 16 is due
abbrev pub passes : Profile → List ℕ → Bool
passes p t = is_accepted (check_due p t)

-- left gets the right's subtree, right gets the left's; there are no words at a row that the table does not have, for any
-- other kind, or where a table is due 1, 2 or 16
unfoldable pub carried_rows : Profile → List ℕ → List ℕ → ℕ → ℕ → ℕ → List ℕ
carried_rows p left right kind left_row right_row =
    cond (passes p left && passes p right) (cond (eqb kind 1) (subtree right right_row) (cond (eqb kind 2) (subtree left left_row) [])) []

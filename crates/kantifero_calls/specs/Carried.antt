-- The rows that a list entry carries, told by the side of the table, the first word and the words there.
use Rattle.std.specs.Prelude.{◌≡◌, List, [], cond, eqb, length, take, drop, get_or, ℕ, ◌*◌, ◌<◌}
use Rattle.tree.specs.declared.Profile.{Profile}
use Rattle.table_carry.specs.Carried.{carried_rows}
use Rattle.kantifero_calls.specs.Words.{eight}

-- n words for an entry: none; or of right (3) where left gets, of left (2) where right gets, from the entry's source row on
unfoldable pub part_words : ℕ → ℕ → ℕ → ℕ → List ℕ
part_words kind left_row right_row n =
    cond (eqb n 0) (eight 0 0 0) (cond (eqb kind 1) (eight 3 (20 * right_row) n) (eight 2 (20 * left_row) n))

-- where there are words, they and their first have 32 bits
pub record Within (kind left_row right_row n : ℕ) : Type 0 where
  pub words : n < 4294967296
  pub right : 0 < n → kind ≡ 1 → 20 * right_row < 4294967296
  pub left : 0 < n → (kind ≡ 1 → ⊥) → 20 * left_row < 4294967296

-- the table of a side: 2 left, 3 right, else none
abbrev pub table_on : ℕ → List ℕ → List ℕ → List ℕ
table_on side left right = cond (eqb side 2) left (cond (eqb side 3) right [])

-- the answer, and that the words it tells of are the rows that the entry carries
pub record CarriedCall (p : Profile) (left right : List ℕ) (kind left_row right_row : ℕ) (answer : List ℕ) : Type 0 where
  pub answered : answer ≡ part_words kind left_row right_row (length (carried_rows p left right kind left_row right_row))
  pub part : take (get_or answer 2 0) (drop (get_or answer 1 0) (table_on (get_or answer 0 0) left right)) ≡ carried_rows p left right kind left_row right_row

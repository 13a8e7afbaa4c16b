-- The plan as the code writes it: the entries of three folders merged by name, a decision for each, and beneath a folder
-- on both sides its entries in turn. k is the depth left.
use Rattle.std.specs.Prelude.{List, [], ◌∷◌, ◌++◌, Bool, true, false, cond, length, ℕ, zero, suc, ◌+◌, ◌/◌}
use Rattle.plan_cursor.specs.Cursor.{is_row, from, least, behind, is_folder, decision}
use Rattle.plan_cursor.specs.declared.Rows.{Rows}
use Rattle.plan_cursor.specs.declared.Decision.{Decision}
use Rattle.plan_cursor.specs.declared.Decision.TheVariants.{Agreed, LeftGets, RightGets, Clash}

-- a decision's four words
abbrev pub four : ℕ → Rows → List ℕ
four d h = d ∷ h.o ∷ h.l ∷ h.r ∷ []

unfoldable pub decision_words : Decision → List ℕ
decision_words (Agreed h) = four 0 h
decision_words (LeftGets h) = four 1 h
decision_words (RightGets h) = four 2 h
decision_words (Clash h) = four 3 h

-- none of the three is a row
unfoldable pub ended : List ℕ → List ℕ → List ℕ → Rows → Bool
ended o l r h = cond (is_row o h.o) false (cond (is_row l h.l) false (cond (is_row r h.r) false true))

-- from the heads h behind the entries g
abbrev pub past : List ℕ → List ℕ → List ℕ → ℕ → Rows → Rows → Rows
past o l r d h g = record { o = behind o d h.o g.o; l = behind l d h.l g.l; r = behind r d h.r g.r }

-- the entries from the heads h on, in name order, m of them at most
unfoldable pub merge : List ℕ → List ℕ → List ℕ → ℕ → ℕ → Rows → List Rows
merge o l r d zero h = []
merge o l r d (suc m) h = cond (ended o l r (least o l r h)) [] (least o l r h ∷ merge o l r d m (past o l r d h (least o l r h)))

-- no folder has more entries than the three tables have rows
abbrev pub enough : List ℕ → List ℕ → List ℕ → ℕ
enough o l r = length o / 20 + length l / 20 + length r / 20

unfoldable pub flatten : (Rows → List ℕ) → List Rows → List ℕ
flatten f [] = []
flatten f (x ∷ xs) = f x ++ flatten f xs

-- the first entries of three folders, which have depth d
abbrev pub firsts : List ℕ → List ℕ → List ℕ → ℕ → Rows → Rows
firsts o l r d h = record { o = from o d (h.o + 1); l = from l d (h.l + 1); r = from r d (h.r + 1) }

unfoldable pub both : List ℕ → List ℕ → Rows → Bool
both l r h = cond (is_folder l h.l) (is_folder r h.r) false

-- the words of one entry of depth d
unfoldable pub entry : List ℕ → List ℕ → List ℕ → ℕ → ℕ → Rows → List ℕ
entry o l r zero d h = decision_words (decision o l r h)
entry o l r (suc k) d h =
    cond (both l r h)
    (four 0 h ++ flatten (entry o l r k (d + 1)) (merge o l r (d + 1) (enough o l r) (firsts o l r (d + 1) h)))
    (decision_words (decision o l r h))

-- the words of three folders' entries of depth d, from the heads h on
abbrev pub folder : List ℕ → List ℕ → List ℕ → ℕ → ℕ → Rows → List ℕ
folder o l r k d h = flatten (entry o l r k d) (merge o l r d (enough o l r) h)

-- the words of all entries of three tables
unfoldable pub settled : List ℕ → List ℕ → List ℕ → List ℕ
settled o l r = folder o l r 16 1 (firsts o l r 1 (record { o = 0; l = 0; r = 0 }))

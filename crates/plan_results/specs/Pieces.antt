-- What each result takes by a decision, of the rows that it names: one row of what is agreed, for that is a folder on both
-- sides, a file or nothing; else the whole subtree. A row that does not exist has no words. What is moved is called in a new
-- tree as it is in the tree that the new one goes by, where that one has the entry.
use Rattle.std.specs.Prelude.{List, [], ◌∷◌, ◌++◌, ℕ}
use Rattle.table_row.specs.Table.{Row, row_at, name, called}
use Rattle.table_find.specs.Subtree.{subtree}
use Rattle.plan_cursor.specs.declared.Rows.{Rows}
use Rattle.plan_cursor.specs.declared.Decision.{Decision}
use Rattle.plan_cursor.specs.declared.Decision.TheVariants.{Agreed, LeftGets, RightGets, Clash}
use Rattle.plan_results.specs.declared.Tree.{Tree}
use Rattle.plan_results.specs.declared.Tree.TheVariants.{Archive, Left, Right}
use Rattle.plan_results.specs.declared.Source.{Source}
use Rattle.plan_results.specs.declared.Source.TheVariants.{OldPart, LeftPart, RightPart, LeftRow, RightRow}
use Rattle.plan_results.specs.Decisions.{pieces}

-- at a clash each tree keeps its own, the archive its whole old subtree
abbrev pub source_of : Decision → Tree → Source
source_of (Agreed h) Archive = LeftRow h.l
source_of (Agreed h) Left = LeftRow h.l
source_of (Agreed h) Right = RightRow h.r
source_of (LeftGets h) t = RightPart h.r
source_of (RightGets h) t = LeftPart h.l
source_of (Clash h) Archive = OldPart h.o
source_of (Clash h) Left = LeftPart h.l
source_of (Clash h) Right = RightPart h.r

abbrev pub source_words : List ℕ → List ℕ → List ℕ → Source → List ℕ
source_words o l r (OldPart i) = subtree o i
source_words o l r (LeftPart i) = subtree l i
source_words o l r (RightPart i) = subtree r i
source_words o l r (LeftRow i) = row_at l i
source_words o l r (RightRow i) = row_at r i

abbrev pub taken : Tree → List ℕ → List ℕ → List ℕ → Decision → List ℕ
taken t o l r d = source_words o l r (source_of d t)

-- the words w of some rows, the first of them called as row r is; as they are where r is no row
unfoldable pub named : Row → List ℕ → List ℕ
named [] w = w
named (x ∷ r) [] = []
named (x ∷ r) (y ∷ w) = called (name (x ∷ r)) (y ∷ w)

-- the new left and the archive go by left's names, the new right by right's
abbrev pub name_row : Tree → List ℕ → List ℕ → Rows → Row
name_row Archive l r h = row_at l h.l
name_row Left l r h = row_at l h.l
name_row Right l r h = row_at r h.r

abbrev pub piece_of : Tree → List ℕ → List ℕ → List ℕ → Decision → List ℕ
piece_of t o l r (Agreed h) = taken t o l r (Agreed h)
piece_of t o l r (LeftGets h) = named (name_row t l r h) (taken t o l r (LeftGets h))
piece_of t o l r (RightGets h) = named (name_row t l r h) (taken t o l r (RightGets h))
piece_of t o l r (Clash h) = taken t o l r (Clash h)

-- a new tree: the root's row, which is the same in all tables, then the pieces
unfoldable pub new_tree : Tree → List ℕ → List ℕ → List ℕ → List Decision → List ℕ
new_tree t o l r ds = row_at l 0 ++ pieces (piece_of t o l r) ds

-- an entry of the list: kind, left row, right row; what is agreed is not listed
abbrev pub piece_list : Decision → List ℕ
piece_list (Agreed h) = []
piece_list (LeftGets h) = 1 ∷ h.l ∷ h.r ∷ []
piece_list (RightGets h) = 2 ∷ h.l ∷ h.r ∷ []
piece_list (Clash h) = 3 ∷ h.l ∷ h.r ∷ []

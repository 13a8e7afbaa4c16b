-- What is written from the plan of three trees is the table of the new tree, and the list's words.
use mathlib.Core.Path.{◌≡◌, refl, ap, ap₂, sym, ◌∙◌}
use mathlib.Core.List.{List, [], ◌∷◌, ◌++◌, map, append-nil}
use mathlib.Core.Bool.{Bool, true, false}
use native.Mathlib.Omega.{arith}
use lib.ListN.{length, take}
use Prim.Native.Nat.{ℕ, suc, ◌+◌, ◌%◌}
use Rattle.tree.specs.Name.{Name}
use Rattle.tree.specs.Forest.{TreePath, Forest, Node, Node.absent, Node.file, Node.folder}
use Rattle.settle.specs.Decision.{Decision.agreed, Decision.left_gets, Decision.right_gets, Decision.clash, decide}
use Rattle.settle.specs.Plan.{Plan, Plan.done, Plan.item, Plan.both, plan}
use Rattle.settle.specs.Results.{Line, Line.line, Lines, under, line_of, list}
use Rattle.settle.specs.Resume.{keep, keep_if}
use Rattle.table_row.specs.Table.{row_at, flat}
use Rattle.table_row.specs.Tree.{file_row, folder_row, rows_of, node_rows}
use Rattle.table_stands.specs.Stands.{StandsOr}
use Rattle.plan_cursor.specs.declared.Decision.{Decision}
use Rattle.plan.specs.Items.{kind, items, row_of, words_of, item_words, plan_words, list_words}
use Rattle.settle.proofs.Lines.{keep_append, keep-under, keep-cong}
use Rattle.settle.proofs.Picks.{Result, Result.left, Result.right, Result.archive}
use Rattle.table_row.proofs.Table.{row-none}
use Rattle.table_stands.proofs.Rows.{head}
use Rattle.plan_results.specs.declared.Tree.{Tree}
use Rattle.plan_results.specs.declared.Tree.TheVariants.{Archive, Left, Right}
use Rattle.plan_results.specs.Decisions.{numbered, decision_of, decisions, pieces}
use Rattle.plan_results.specs.Pieces.{piece_list}
use Rattle.plan_results.proofs.Taken.{deep}

-- the decision of an item, with its rows
abbrev pub of_line : Forest → Forest → Forest → Line → Decision
of_line o l r (line p d) = numbered (kind d) (record { o = row_of o p; l = row_of l p; r = row_of r p })

pub decisions-items : (o l r : Forest) (xs : Lines) → decisions (length xs) (words_of (item_words o l r) xs) ≡ map (of_line o l r) xs
unfolding decisions decision_of words_of
decisions-items o l r [] = refl
decisions-items o l r (line p d ∷ xs) = ap (λ (ds : List Decision). of_line o l r (line p d) ∷ ds) (decisions-items o l r xs)

pub deep-length : (d : ℕ) (p : TreePath) → deep d p ≡ d + length p
unfolding deep
deep-length d [] = omega arith
deep-length d (n ∷ p) = deep-length (suc d) p ∙ (let z : suc d + length p ≡ d + suc (length p) = omega arith in z)

-- one row of what stands at row i
pub row_words : (w : List ℕ) (i d : ℕ) (n : Name) (x : Node) → length w % 20 ≡ 0 → StandsOr w i d n x → row_at w i ≡ flat (take 1 (node_rows d n x))
unfolding node_rows flat
row_words w i d n absent h s = row-none w i h s
row_words w i d n (file c) h s = (head w i (file_row d n c) s.rest s.here).row ∙ sym (append-nil (file_row d n c))
row_words w i d n (folder k) h s = (head w i (folder_row d n) (rows_of (suc d) k ++ s.rest) s.here).row ∙ sym (append-nil (folder_row d n))

abbrev pub result_of : Tree → Result
result_of Archive = archive
result_of Left = left
result_of Right = right

-- THE LIST: the items that are not agreed
listed : Line → Bool
listed (line p agreed) = false
listed (line p left_gets) = true
listed (line p right_gets) = true
listed (line p clash) = true

listed-under : (n : Name) (x : Line) → listed x ≡ listed (under n x)
unfolding listed
listed-under n (line p agreed) = refl
listed-under n (line p left_gets) = refl
listed-under n (line p right_gets) = refl
listed-under n (line p clash) = refl

list-items : (q : Plan) → list q ≡ keep listed (items q)
unfolding list items keep listed
list-items done = refl
list-items (item n o l r s) = go (decide o l r) (list-items s)
  where
    go : (d : Rattle.settle.specs.Decision.Decision) → list s ≡ keep listed (items s)
        → line_of (n ∷ []) d ++ list s ≡ keep_if (listed (line (n ∷ []) d)) (line (n ∷ []) d) (keep listed (items s))
    go agreed e = e
    go left_gets e = ap (λ (w : Lines). line (n ∷ []) left_gets ∷ w) e
    go right_gets e = ap (λ (w : Lines). line (n ∷ []) right_gets ∷ w) e
    go clash e = ap (λ (w : Lines). line (n ∷ []) clash ∷ w) e
list-items (both n k s) =
    ap₂ (λ (u v : Lines). u ++ v)
    (ap (map (under n)) (list-items k ∙ keep-cong listed (λ x. listed (under n x)) (items k) (listed-under n)) ∙ sym (keep-under listed n (items k)))
    (list-items s)
    ∙ sym (keep_append listed (map (under n) (items k)) (items s))

line-words : (o l r : Forest) (xs : Lines) → pieces piece_list (map (of_line o l r) xs) ≡ list_words l r (keep listed xs)
unfolding pieces keep listed words_of kind
line-words o l r [] = refl
line-words o l r (line p agreed ∷ xs) = line-words o l r xs
line-words o l r (line p left_gets ∷ xs) = ap (λ (w : List ℕ). 1 ∷ row_of l p ∷ row_of r p ∷ w) (line-words o l r xs)
line-words o l r (line p right_gets ∷ xs) = ap (λ (w : List ℕ). 2 ∷ row_of l p ∷ row_of r p ∷ w) (line-words o l r xs)
line-words o l r (line p clash ∷ xs) = ap (λ (w : List ℕ). 3 ∷ row_of l p ∷ row_of r p ∷ w) (line-words o l r xs)

pub list-words : (o l r : Forest) → pieces piece_list (decisions (length (items (plan o l r))) (plan_words o l r)) ≡ list_words l r (list (plan o l r))
unfolding plan_words
list-words o l r =
    ap (pieces piece_list) (decisions-items o l r (items (plan o l r))) ∙ line-words o l r (items (plan o l r)) ∙ ap (list_words l r) (sym (list-items (plan o l r)))

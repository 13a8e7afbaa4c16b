-- The items of a plan and their four words: the decision's number, and the item's row in archive, left and right.
use Rattle.std.specs.Prelude.{List, [], ◌∷◌, ◌++◌, map, ℕ}
use Rattle.tree.specs.Forest.{TreePath, Forest, Node, Node.absent, Node.file, Node.folder, at}
use Rattle.settle.specs.Decision.{Decision, Decision.agreed, Decision.left_gets, Decision.right_gets, Decision.clash, decide}
use Rattle.settle.specs.Plan.{Plan, Plan.done, Plan.item, Plan.both, plan}
use Rattle.settle.specs.Results.{Line, Line.line, Lines, under}
use Rattle.table_stands.specs.Around.{row_in}

-- as plan and list number the decisions
unfoldable pub kind : Decision → ℕ
kind agreed = 0
kind left_gets = 1
kind right_gets = 2
kind clash = 3

-- one for each relevant path below the root, in preorder; a folder on both sides is agreed
unfoldable pub items : Plan → Lines
items done = []
items (item n o l r s) = line (n ∷ []) (decide o l r) ∷ items s
items (both n k s) = line (n ∷ []) agreed ∷ (map (under n) (items k) ++ items s)

-- the row i of a node, or none where it is absent
abbrev pub or_none : Node → ℕ → ℕ
or_none absent i = 4294967295
or_none (file c) i = i
or_none (folder k) i = i

-- the row, in a tree's table, of what stands at a path
abbrev pub row_of : Forest → TreePath → ℕ
row_of f p = or_none (at (folder f) p) (row_in (folder f) p)

-- the words of some lines, one line's after the other's
unfoldable pub words_of : (Line → List ℕ) → Lines → List ℕ
words_of g [] = []
words_of g (x ∷ xs) = g x ++ words_of g xs

abbrev pub item_words : Forest → Forest → Forest → Line → List ℕ
item_words o l r (line p d) = kind d ∷ row_of o p ∷ row_of l p ∷ row_of r p ∷ []

unfoldable pub plan_words : Forest → Forest → Forest → List ℕ
plan_words o l r = words_of (item_words o l r) (items (plan o l r))

-- the list's words: for each line the kind, and the rows of left and right
abbrev pub entry_words : Forest → Forest → Line → List ℕ
entry_words l r (line p d) = kind d ∷ row_of l p ∷ row_of r p ∷ []

abbrev pub list_words : Forest → Forest → Lines → List ℕ
list_words l r xs = words_of (entry_words l r) xs

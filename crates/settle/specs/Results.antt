-- What is read off a plan: the new left, the new right, the new archive, and the list.
use Rattle.std.specs.Prelude.{List, [], ◌∷◌, ◌++◌, map}
use Rattle.tree.specs.Name.{Name}
use Rattle.tree.specs.Forest.{TreePath, Forest, Forest.end, Forest.dir, Node, add}
use Rattle.settle.specs.Decision.{Decision, Decision.agreed, Decision.left_gets, Decision.right_gets, Decision.clash, decide}
use Rattle.settle.specs.Plan.{Plan, Plan.done, Plan.item, Plan.both, plan}

-- what each result takes by a decision, of what archive, left and right hold
abbrev pub for_left : Decision → Node → Node → Node → Node
for_left agreed o l r = l
for_left left_gets o l r = r
for_left right_gets o l r = l
for_left clash o l r = l

abbrev pub for_right : Decision → Node → Node → Node → Node
for_right agreed o l r = r
for_right left_gets o l r = r
for_right right_gets o l r = l
for_right clash o l r = r

-- at a clash the archive keeps its whole old entry
abbrev pub for_archive : Decision → Node → Node → Node → Node
for_archive agreed o l r = l
for_archive left_gets o l r = r
for_archive right_gets o l r = l
for_archive clash o l r = o

-- what a result takes at an item may go by its path too; these three do not
abbrev pub Pick : Type 0
Pick = TreePath → Decision → Node → Node → Node → Node

abbrev pub to_left : Pick
to_left p = for_left

abbrev pub to_right : Pick
to_right p = for_right

abbrev pub to_archive : Pick
to_archive p = for_archive

abbrev pub below : Name → Pick → Pick
below n pk = λ p. pk (n ∷ p)

-- a folder on both sides is a folder in every result
unfoldable pub new : Pick → Plan → Forest
new pk done = end
new pk (item n o l r s) = add n (pk (n ∷ []) (decide o l r) o l r) (new pk s)
new pk (both n k s) = dir n (new (below n pk) k) (new pk s)

unfoldable pub new_left : Forest → Forest → Forest → Forest
new_left o l r = new to_left (plan o l r)

unfoldable pub new_right : Forest → Forest → Forest → Forest
new_right o l r = new to_right (plan o l r)

unfoldable pub new_archive : Forest → Forest → Forest → Forest
new_archive o l r = new to_archive (plan o l r)

-- a line of the list: a path and its decision, a move or a clash
pub data Line : Type 0 where
  line : TreePath → Decision → Line

abbrev pub Lines : Type 0
Lines = List Line

abbrev pub under : Name → Line → Line
under n (line p d) = line (n ∷ p) d

-- what is agreed is not listed
abbrev pub line_of : TreePath → Decision → Lines
line_of p agreed = []
line_of p left_gets = line p left_gets ∷ []
line_of p right_gets = line p right_gets ∷ []
line_of p clash = line p clash ∷ []

-- in preorder
unfoldable pub list : Plan → Lines
list done = []
list (item n o l r s) = line_of (n ∷ []) (decide o l r) ++ list s
list (both n k s) = map (under n) (list k) ++ list s

-- all that a run gives
pub record Outcome : Type 0 where
  pub lines : Lines
  pub archive : Forest
  pub left : Forest
  pub right : Forest

abbrev pub outcome : Forest → Forest → Forest → Outcome
outcome o l r = record { lines = list (plan o l r); archive = new_archive o l r; left = new_left o l r; right = new_right o l r }

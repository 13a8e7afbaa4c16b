-- What a new tree's rows are put together from, one piece for each item of the plan: of what is agreed one row, of what is moved
-- or clashes all rows of the node that the result takes.
use mathlib.Core.Path.{◌≡◌, refl, ap, sym, ◌∙◌}
use mathlib.Core.List.{List, [], ◌∷◌, ◌++◌, map, append_assoc}
use mathlib.Core.Bool.{Bool, true, false}
use lib.ListN.{take}
use Prim.Native.Nat.{ℕ, suc}
use Rattle.tree.specs.Name.{Name}
use Rattle.tree.specs.Forest.{TreePath, Forest, Node, Node.absent, Node.file, Node.folder}
use Rattle.tree.specs.Same.{same_node}
use Rattle.settle.specs.Decision.{Decision, Decision.agreed, Decision.left_gets, Decision.right_gets, Decision.clash, rule, decide}
use Rattle.settle.specs.Names.{Names}
use Rattle.settle.specs.Plan.{Entry, plan_over}
use Rattle.settle.specs.Results.{Line, Lines, under}
use Rattle.table_row.specs.Table.{Row}
use Rattle.table_row.specs.Tree.{folder_row, node_rows}
use Rattle.plan.specs.Items.{items}
use Rattle.tree.proofs.Never.{never}
use Rattle.tree.proofs.Same.{same_node-eq}
use Rattle.settle.proofs.Induct.{NotBoth}
use Rattle.settle.proofs.Picks.{Result, Result.left, Result.right, Result.archive, to}
use Rattle.plan.proofs.Runs.{items_of, items-add}

-- the depth of a path's node, from a node of depth d
unfoldable pub deep : ℕ → TreePath → ℕ
deep d [] = d
deep d (n ∷ p) = deep (suc d) p

abbrev pub piece : Decision → List Row → List Row
piece agreed rs = take 1 rs
piece left_gets rs = rs
piece right_gets rs = rs
piece clash rs = rs

-- the rows of some lines, one line's after the other's
unfoldable pub concat : (Line → List Row) → Lines → List Row
concat g [] = []
concat g (x ∷ xs) = g x ++ concat g xs

concat-append : (g : Line → List Row) (a b : Lines) → concat g (a ++ b) ≡ concat g a ++ concat g b
unfolding concat
concat-append g [] b = refl
concat-append g (x ∷ a) b = ap (λ (w : List Row). g x ++ w) (concat-append g a b) ∙ sym (append_assoc (g x) (concat g a) (concat g b))

unfoldable pub over : Names → (Name → List Row) → List Row
over [] g = []
over (n ∷ ns) g = g n ++ over ns g

pub agreed-same : (o l r : Node) → decide o l r ≡ agreed → l ≡ r
unfolding decide
agreed-same o l r = go (same_node l r) (same_node l o) (same_node r o) refl
  where
    go : (a b c : Bool) → same_node l r ≡ a → rule a b c ≡ agreed → l ≡ r
    go true b c e h = same_node-eq l r e
    go false true c e h = never (cc)
    go false false true e h = never (cc)
    go false false false e h = never (cc)

pub flat-row : (d : ℕ) (m : Name) (x : Node) → NotBoth x x → take 1 (node_rows d m x) ≡ node_rows d m x
unfolding node_rows
flat-row d m absent nb = refl
flat-row d m (file c) nb = refl
flat-row d m (folder k) nb = absurd (nb k k refl refl)

pub items-over : (g : Line → List Row) (ns : Names) (h : Name → Entry) → concat g (items (plan_over ns h)) ≡ over ns (λ n. concat g (map (under n) (items_of (h n))))
unfolding plan_over items concat over
items-over g [] h = refl
items-over g (n ∷ ns) h =
    ap (concat g) (items-add n (h n) (plan_over ns h)) ∙ concat-append g (map (under n) (items_of (h n))) (items (plan_over ns h))
    ∙ ap (λ (w : List Row). concat g (map (under n) (items_of (h n))) ++ w) (items-over g ns h)

pub own-folder : (s : Result) (d : ℕ) (m : Name) (o : Node) (l r : Forest) → take 1 (node_rows d m (to s [] agreed o (folder l) (folder r))) ≡ folder_row d m ∷ []
unfolding node_rows
own-folder left d m o l r = refl
own-folder right d m o l r = refl
own-folder archive d m o l r = refl

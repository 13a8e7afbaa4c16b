-- Where every byte counts, a run's list is printed with the paths that it has.
use mathlib.Core.Path.{◌≡◌, refl, ap, ap₂, ◌∙◌}
use mathlib.Core.List.{[], ◌∷◌, map}
use Rattle.tree.specs.Forest.{TreePath, Forest, Node, Node.absent, Node.file, Node.folder, kids, at}
use Rattle.tree.specs.declared.Profile.TheVariants.{Exact}
use Rattle.tree.specs.Key.{fold, entry}
use Rattle.tree.proofs.Folds.{spelling-exact}
use Rattle.settle.specs.Results.{Line, Line.line, Lines, Outcome, outcome}
use Rattle.settle.proofs.Spelled.{outcome-exact}
use Rattle.table_route.specs.Route.{spelled_in}
use Rattle.plan_text.specs.Text.{plan_text}
use Rattle.plan_text.specs.Spelled.{spelled_by, spelled_line, run_text}

path-exact : (x : Node) (q : TreePath) → spelled_in Exact x q ≡ q
unfolding spelled_in
path-exact x [] = refl
path-exact x (k ∷ q) = ap₂ (λ n r. n ∷ r) (spelling-exact k (kids x)) (path-exact (entry Exact k (kids x)) q)

line-exact : (l r : Forest) (x : Line) → spelled_line Exact l r x ≡ x
line-exact l r (line q d) = ap (λ (p : TreePath). line p d) (go (at (folder (fold Exact l)) q))
  where
    go : (x : Node) → spelled_by x (spelled_in Exact (folder l) q) (spelled_in Exact (folder r) q) ≡ q
    go absent = path-exact (folder r) q
    go (file c) = path-exact (folder l) q
    go (folder k) = path-exact (folder l) q

lines-exact : (l r : Forest) (xs : Lines) → map (spelled_line Exact l r) xs ≡ xs
lines-exact l r [] = refl
lines-exact l r (x ∷ xs) = ap₂ (λ y ys. y ∷ ys) (line-exact l r x) (lines-exact l r xs)

pub run-exact : (o l r : Forest) → run_text Exact o l r ≡ plan_text (outcome o l r).lines
unfolding run_text
run-exact o l r = ap plan_text (lines-exact l r _ ∙ ap (λ (u : Outcome). u.lines) (outcome-exact o l r))

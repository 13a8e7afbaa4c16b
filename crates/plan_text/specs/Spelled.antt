-- The list of a run in a profile as it is printed: a path is spelled as left spells all of it where left has the entry, else as
-- right does.
use Rattle.std.specs.Prelude.{List, map, ℕ}
use Rattle.tree.specs.Forest.{TreePath, Forest, Node, Node.absent, Node.file, Node.folder, at}
use Rattle.tree.specs.declared.Profile.{Profile}
use Rattle.tree.specs.Key.{fold}
use Rattle.settle.specs.Results.{Line, Line.line}
use Rattle.settle.specs.Spelled.{outcome_in}
use Rattle.table_route.specs.Route.{spelled_in}
use Rattle.plan_text.specs.Text.{plan_text}

-- by what left has there: left's path, or right's
abbrev pub spelled_by : Node → TreePath → TreePath → TreePath
spelled_by absent l r = r
spelled_by (file c) l r = l
spelled_by (folder k) l r = l

abbrev pub spelled_line : Profile → Forest → Forest → Line → Line
spelled_line p l r (line q d) = line (spelled_by (at (folder (fold p l)) q) (spelled_in p (folder l) q) (spelled_in p (folder r) q)) d

unfoldable pub run_text : Profile → Forest → Forest → Forest → List ℕ
run_text p o l r = plan_text (map (spelled_line p l r) (outcome_in p o l r).lines)

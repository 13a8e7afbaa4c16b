-- THE BRIDGE: for tables of three well-formed trees the words that are settled are those of the trees' plan.
use mathlib.Core.Path.{◌≡◌, refl, ap, sym, ◌∙◌}
use mathlib.Core.List.{List, [], ◌∷◌, append-nil}
use native.Mathlib.Omega.{arith}
use lib.ListN.{drop}
use Prim.Native.Nat.{ℕ, suc, ◌+◌}
use Rattle.tree.specs.Forest.{TreePath, Forest, Node.folder, find, at, size}
use Rattle.tree.specs.Rules.{WellFormed}
use Rattle.settle.specs.Plan.{plan}
use Rattle.settle.specs.Results.{Line.line, Lines}
use Rattle.table_row.specs.Table.{rows}
use Rattle.table_row.specs.Tree.{root_name, rows_of, node_rows}
use Rattle.table_stands.specs.Around.{before, row_in}
use Rattle.table_stands.proofs.Forest.{ruled-within}
use Rattle.plan.specs.Items.{items, or_none, row_of, words_of, item_words, plan_words}
use Rattle.plan_cursor.specs.Three.{Three}
use Rattle.plan.specs.Settle.{enough, settled}
use Rattle.plan.proofs.Runs.{row_from, Runs, run_words}
use Rattle.plan.proofs.Head.{Siblings, run, from-run}
use Rattle.plan.proofs.Keys.{run-size}
use Rattle.plan.proofs.Bridge.{Fit, folders}

-- w is the table of the tree f, by its rows
pub record IsTable (w : List ℕ) (f : Forest) : Type 0 where
  pub rows_are : rows w ≡ node_rows 0 root_name (folder f)
  pub formed : WellFormed f

row_from-one : (f : Forest) (p : TreePath) → row_from 1 f p ≡ row_of f p
unfolding row_from row_in at
row_from-one f [] = refl
row_from-one f (n ∷ p) =
    let z : 1 + size (before n f) + row_in (find n f) p ≡ suc (size (before n f) + row_in (find n f) p) = omega arith in
    ap (or_none (at (find n f) p)) z

whole : Forest → Forest → Forest → Runs
whole o l r = record { o = o; l = l; r = r; bo = 1; bl = 1; br = 1 }

words-whole : (o l r : Forest) (xs : Lines) → words_of (run_words (whole o l r)) xs ≡ words_of (item_words o l r) xs
unfolding words_of whole
words-whole o l r [] = refl
words-whole o l r (line p d ∷ xs) = rw (row_from-one o p, row_from-one l p, row_from-one r p, words-whole o l r xs)

root-siblings : (w : List ℕ) (f : Forest) → IsTable w f → Siblings w 0 f 1
unfolding node_rows
root-siblings w f t = record { rest = []; here = ap (drop 1) t.rows_are ∙ sym (append-nil (rows_of 1 f)); ended = tt }

root-fit : (w : List ℕ) (f : Forest) → IsTable w f → Fit w 0 16 f 1
root-fit w f t = record {
  run = run w 0 f 1 (root-siblings w f t);
  ruled = ruled-within 16 f t.formed.within;
  sorted = t.formed.sorted;
  levels = t.formed.within;
}

pub settled-plan : (u v w : List ℕ) (o l r : Forest) → Three u v w → IsTable u o → IsTable v l → IsTable w r → settled u v w ≡ plan_words o l r
unfolding settled plan_words whole
settled-plan u v w o l r T a b c =
    let sa = root-siblings u o a in let sb = root-siblings v l b in let sc = root-siblings w r c in
    rw (from-run u 0 o 1 sa, from-run v 0 l 1 sb, from-run w 0 r 1 sc)
    (folders u v w T 16 (enough u v w) 0 (whole o l r) (record { fo = root-fit u o a; fl = root-fit v l b; fr = root-fit w r c })
    (let x = run-size u 0 o 1 (run u 0 o 1 sa) in let y = run-size v 0 l 1 (run v 0 l 1 sb) in let z = run-size w 0 r 1 (run w 0 r 1 sc) in omega arith)
    ∙ words-whole o l r (items (plan o l r)))

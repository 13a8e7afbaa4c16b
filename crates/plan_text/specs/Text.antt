-- The text of a list: a line for each of its lines, and a last one with the counts.
use Rattle.std.specs.Prelude.{List, [], ◌∷◌, ◌++◌, cond, eqb, ℕ}
use Rattle.tree.specs.Forest.{TreePath}
use Rattle.settle.specs.Results.{Line, Line.line, Lines}
use Rattle.plan.specs.Items.{kind}
use Rattle.plan_tally.specs.declared.Tally.{Tally}
use Rattle.plan_tally.specs.Count.{tally_of}
use Rattle.listing.specs.Bytes.{text}
use Rattle.listing.specs.Writing.{name_text, decimal}

-- of kind 1, left gets; 2, right gets; 3, clash
unfoldable pub mark : ℕ → List ℕ
mark k = cond (eqb k 1) (text "<") (cond (eqb k 2) (text ">") (text "!"))

-- a slash before each name, which is spelt as the writer does
unfoldable pub names_text : TreePath → List ℕ
names_text [] = []
names_text (n ∷ p) = text "/" ++ (name_text n ++ names_text p)

-- below the root that is ./ and the names parted by / (proofs/Path)
unfoldable pub path_text : TreePath → List ℕ
path_text p = text "." ++ names_text p

-- the mark of a kind, and a path's text
unfoldable pub marked : ℕ → List ℕ → List ℕ
marked k s = mark k ++ (text " " ++ (s ++ text "\n"))

abbrev pub line_text : Line → List ℕ
line_text (line p d) = marked (kind d) (path_text p)

unfoldable pub lines_text : Lines → List ℕ
lines_text [] = []
lines_text (x ∷ xs) = line_text x ++ lines_text xs

-- decimal, without leading zeros
abbrev pub count_text : ℕ → List ℕ
count_text n = decimal 20 n []

unfoldable pub counts_text : Tally → List ℕ
counts_text t =
    text "= " ++ (count_text t.left ++ (text " " ++ (count_text t.right ++ (text " " ++ (count_text t.clash ++ text "\n")))))

unfoldable pub plan_text : Lines → List ℕ
plan_text xs = lines_text xs ++ counts_text (tally_of xs)

-- Lines at whose paths something stands on a side.
use Rattle.std.specs.Prelude.{[], ◌∷◌, ◌⊎◌}
use Rattle.tree.specs.Forest.{Forest, Node.folder, Present, at}
use Rattle.settle.specs.Results.{Line, Line.line, Lines}

abbrev pub OnASide : Forest → Forest → Line → Type 0
OnASide l r (line p d) = Present (at (folder l) p) ⊎ Present (at (folder r) p)

-- each of the lines
unfoldable pub Sided : Forest → Forest → Lines → Type 0
Sided l r [] = Unit {0}
Sided l r (x ∷ xs) = OnASide l r x × Sided l r xs

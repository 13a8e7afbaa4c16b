-- Where two trees differ first, by examples: one row each.
use Rattle.std.specs.Prelude.{◌≡◌, List, [], ◌∷◌, map, Option, Some, None, ℕ}
use Rattle.tree.specs.Name.{Name}
use Rattle.tree.specs.Forest.{Content, Forest, Forest.end, Forest.leaf, Forest.dir, Node, Node.absent, Node.file, Node.folder}
use Rattle.tree.specs.Preorder.{compared}

pub record Example : Type 0 where
  pub one : Node
  pub other : Node
  pub answer : Option ℕ

abbrev example : Node → Node → Option ℕ → Example
example x y c = record { one = x; other = y; answer = c }

abbrev a : Name
a = 1 ∷ []

abbrev b : Name
b = 2 ∷ []

abbrev f : Content
f = 1 ∷ 8 ∷ []

abbrev g : Content
g = 1 ∷ 9 ∷ []

-- the folder with a and b, and what else is in it
abbrev days : Forest → Node
days s = folder (leaf a f (leaf b f s))

abbrev pub examples : List Example
examples =
    example absent absent None ∷
    example (days end) (days end) None ∷
    -- what is absent ends at 0
    example absent (days end) (Some 0) ∷
    example (file f) absent (Some 0) ∷
    -- the first row
    example (file f) (file g) (Some 0) ∷
    example (file f) (folder end) (Some 0) ∷
    -- a row further down: its content, its name, its kind
    example (days end) (folder (leaf a f (leaf b g end))) (Some 2) ∷
    example (days end) (folder (leaf b f end)) (Some 1) ∷
    example (days end) (folder (dir a end (leaf b f end))) (Some 1) ∷
    -- the shorter one ends
    example (days end) (folder (leaf a f end)) (Some 2) ∷
    example (folder end) (days end) (Some 1) ∷
    -- depth alone: a/b against a and b
    example (folder (dir a (dir b end end) end)) (folder (dir a end (dir b end end))) (Some 2) ∷
    []

abbrev pub ExamplesHold : Type 0
ExamplesHold = map (λ (e : Example). compared e.one e.other) examples ≡ map (λ (e : Example). e.answer) examples

-- Demand 3 on trees: listed moves carried out in any order, then a run with the old archive; and the closing run.
use Rattle.std.specs.Prelude.{◌≡◌, [], ◌∷◌, ◌⊎◌, Bool, true, false, ◌&&◌, not}
use Rattle.tree.specs.Forest.{TreePath, Forest, Node.folder, kids, at}
use Rattle.tree.specs.Same.{same_words}
use Rattle.tree.specs.Put.{put}
use Rattle.settle.specs.Decision.{Decision, Decision.agreed, Decision.left_gets, Decision.right_gets, Decision.clash}
use Rattle.settle.specs.Plan.{plan}
use Rattle.settle.specs.Results.{new_left, new_right, new_archive, Line, Line.line, Lines, list, Outcome, outcome}
use Rattle.settle.specs.Begins.{places_in, places, Begins}

-- the two sides while moves are carried out
pub record Sides : Type 0 where
  pub left : Forest
  pub right : Forest

-- the target's subtree at the path becomes the source's
abbrev pub moved : TreePath → Forest → Forest → Forest
moved p source target = kids (put p (at (folder source) p) (folder target))

abbrev pub carry : Line → Sides → Sides
carry (line p agreed) s = s
carry (line p left_gets) s = record { left = moved p s.right s.left; right = s.right }
carry (line p right_gets) s = record { left = s.left; right = moved p s.left s.right }
carry (line p clash) s = s

unfoldable pub after : Lines → Sides → Sides
after [] s = s
after (m ∷ ms) s = after ms (carry m s)

unfoldable pub In : Line → Lines → Type 0
In x [] = ⊥
In x (y ∷ ys) = (x ≡ y) ⊎ In x ys

abbrev pub keep_if : Bool → Line → Lines → Lines
keep_if true x xs = x ∷ xs
keep_if false x xs = xs

-- the lines that pass a test
unfoldable pub keep : (Line → Bool) → Lines → Lines
keep f [] = []
keep f (x ∷ xs) = keep_if (f x) x (keep f xs)

unfoldable pub same_path : TreePath → TreePath → Bool
same_path [] [] = true
same_path [] (y ∷ q) = false
same_path (x ∷ p) [] = false
same_path (x ∷ p) (y ∷ q) = same_words x y && same_path p q

abbrev pub elsewhere : TreePath → Line → Bool
elsewhere p (line q d) = not (same_path p q)

-- the list without the lines of the paths of ms
unfoldable pub minus : Lines → Lines → Lines
minus [] xs = xs
minus (line p d ∷ ms) xs = minus ms (keep (elsewhere p) xs)

abbrev pub IsMove : Decision → Type 0
IsMove agreed = ⊥
IsMove left_gets = Unit {0}
IsMove right_gets = Unit {0}
IsMove clash = ⊥

-- no line of xs has the path p
unfoldable pub Fresh : TreePath → Lines → Type 0
Fresh p [] = Unit {0}
Fresh p (x ∷ xs) = (elsewhere p x ≡ true) × Fresh p xs

-- moves of the list xs, none twice, in any order
unfoldable pub Chosen : Lines → Lines → Type 0
Chosen [] xs = Unit {0}
Chosen (line p d ∷ ms) xs = In (line p d) xs × IsMove d × Fresh p ms × Chosen ms xs

-- the same three trees with another list
abbrev pub with_lines : Lines → Outcome → Outcome
with_lines xs u = record { lines = xs; archive = u.archive; left = u.left; right = u.right }

-- after the moves ms a run with the old archive lists the rest and gives the same three trees
abbrev pub Resumes : Lines → Forest → Forest → Forest → Type 0
Resumes ms o l r =
    let s : Sides = after ms (record { left = l; right = r }) in
    outcome o s.left s.right ≡ with_lines (minus ms (list (plan o l r))) (outcome o l r)

-- and the lines that are left have the places that they had
abbrev pub ResumesPlaces : Lines → Forest → Forest → Forest → Type 0
ResumesPlaces ms o l r =
    let s : Sides = after ms (record { left = l; right = r }) in
    let xs : Lines = minus ms (list (plan o l r)) in
    places o s.left s.right xs ≡ places o l r xs

abbrev pub is_clash : Line → Bool
is_clash (line p agreed) = false
is_clash (line p left_gets) = false
is_clash (line p right_gets) = false
is_clash (line p clash) = true

-- where the moves ms leave only the clashes, the two sides have become the new trees
abbrev pub Finishes : Lines → Forest → Forest → Forest → Type 0
Finishes ms o l r =
    minus ms (list (plan o l r)) ≡ keep is_clash (list (plan o l r))
    → after ms (record { left = l; right = r }) ≡ record { left = new_left o l r; right = new_right o l r }

-- a run on the results lists the clashes, no moves, and alters no tree
abbrev pub Closes : Forest → Forest → Forest → Type 0
Closes o l r =
    outcome (new_archive o l r) (new_left o l r) (new_right o l r) ≡ with_lines (keep is_clash (list (plan o l r))) (outcome o l r)

-- and the clashes have the places that they had
abbrev pub ClosesPlaces : Forest → Forest → Forest → Type 0
ClosesPlaces o l r =
    let xs : Lines = keep is_clash (list (plan o l r)) in
    places (new_archive o l r) (new_left o l r) (new_right o l r) xs ≡ places o l r xs

-- a listed clash begins at its two places
abbrev pub ClashesBegin : Forest → Forest → Forest → Type 0
ClashesBegin o l r =
    (p : TreePath) → In (line p clash) (list (plan o l r))
    → Begins o l p (places_in o l r (line p clash)).left × Begins o r p (places_in o l r (line p clash)).right

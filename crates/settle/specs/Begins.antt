-- Where a clash begins: for each side the first place at which its subtree differs from the archive's.
use Rattle.std.specs.Prelude.{◌≡◌, List, map, length, ℕ, ◌≤◌, Option, Some, None}
use Rattle.tree.specs.Forest.{TreePath, Forest, Node.folder, at}
use Rattle.tree.specs.Preorder.{preorder, compared}
use Rattle.settle.specs.Decision.{Decision.agreed, Decision.left_gets, Decision.right_gets, Decision.clash}
use Rattle.settle.specs.Results.{Line, Line.line, Lines}

abbrev pub no_place : ℕ
no_place = 4294967295

abbrev pub place_of : Option ℕ → ℕ
place_of None = no_place
place_of (Some k) = k

-- where the side s differs from the archive o at the path of a clash; other lines have no place
unfoldable pub place_in : Forest → Forest → Line → ℕ
place_in o s (line p agreed) = no_place
place_in o s (line p left_gets) = no_place
place_in o s (line p right_gets) = no_place
place_in o s (line p clash) = place_of (compared (at (folder s) p) (at (folder o) p))

-- the places of left and of right
pub record Places : Type 0 where
  pub left : ℕ
  pub right : ℕ

abbrev pub places_in : Forest → Forest → Forest → Line → Places
places_in o l r x = record { left = place_in o l x; right = place_in o r x }

abbrev pub places : Forest → Forest → Forest → Lines → List Places
places o l r xs = map (places_in o l r) xs

-- on the side s a clash at p begins at the place k: there the two subtrees differ first, and each has at least k entries
pub record Begins (o s : Forest) (p : TreePath) (k : ℕ) : Type 0 where
  pub differs : compared (at (folder s) p) (at (folder o) p) ≡ Some k
  pub side : k ≤ length (preorder (at (folder s) p))
  pub archive : k ≤ length (preorder (at (folder o) p))

-- The folder in which an entry stands.
use mathlib.Core.List.{[], ◌++◌, ◌∷◌}
use mathlib.Core.Path.{◌≡◌, refl}
use Rattle.tree.specs.Name.{Name}
use Rattle.tree.specs.Forest.{Present, Node, Node.absent, Node.file, Node.folder, TreePath, at, find, kids}
use Rattle.tree.specs.Put.{Reaches}
use Rattle.tree.proofs.Put.{reaches-entry}
use Rattle.listing.specs.Accepted.{IsFolder}

-- an entry of a folder that stands at a path
pub parent-last : (p : TreePath) (n : Name) (t : Node) → IsFolder (at t p) → Reaches (p ++ (n ∷ [])) t
parent-last p n t h = go (at t p) refl h
  where
    go : (y : Node) → at t p ≡ y → IsFolder y → Reaches (p ++ (n ∷ [])) t
    go absent e q = absurd q
    go (file c) e q = absurd q
    go (folder k) e q = reaches-entry n k p t e

pub folder-above : (p : TreePath) (n : Name) (t : Node) → Present (at t (p ++ (n ∷ []))) → IsFolder (at t p)
unfolding at find
folder-above [] n absent h = h
folder-above [] n (file c) h = h
folder-above [] n (folder f) h = tt
folder-above (m ∷ p) n t h = folder-above p n (find m (kids t)) h

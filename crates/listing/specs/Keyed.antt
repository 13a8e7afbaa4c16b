-- Reading by key: where every byte counts an entry is placed by its name; and in each profile, once names are folded, an entry is
-- placed as its key is among keys, with the same number.
use Rattle.std.specs.Prelude.{◌≡◌, [], ◌∷◌, ◌++◌, cond, length, ltb, leb, ℕ, suc}
use Rattle.tree.specs.Name.{Name}
use Rattle.tree.specs.Forest.{TreePath, Forest, Node, Node.folder, kids, at, size}
use Rattle.tree.specs.Put.{put}
use Rattle.tree.specs.Key.{key, fold, fold_node, fold_path}
use Rattle.tree.specs.declared.Profile.{Profile}
use Rattle.tree.specs.declared.Profile.TheVariants.{Exact}
use Rattle.listing.specs.Entries.{Said}
use Rattle.listing.specs.Reading.{State, State.before, State.inside, State.closed, Step, Step.stops, Step.goes, is_absent, opened, placed}

-- the state, every name its key
abbrev pub fold_state : Profile → State → State
fold_state p (before d) = before d
fold_state p (inside f q d) = inside (fold p f) (fold_path p q) d
fold_state p (closed f) = closed (fold p f)

abbrev pub fold_step : Profile → Step → Step
fold_step p (stops n) = stops n
fold_step p (goes s) = goes (fold_state p s)

pub record PlacedByKey : Type 0 where
  pub exact : (most : ℕ) (n : Name) (x : Node) (f : Forest) (q : TreePath) (d : Said)
      → placed Exact most n x f q d
      ≡ cond (leb 16 (length q)) (stops 14)
      (cond (is_absent (at (folder f) (q ++ (n ∷ []))))
      (cond (ltb (suc (size f)) most) (goes (opened n x (kids (put (q ++ (n ∷ [])) x (folder f))) q d)) (stops 3))
      (stops 13))
  pub keys : (p : Profile) (most : ℕ) (n : Name) (x : Node) (f : Forest) (q : TreePath) (d : Said)
      → fold_step p (placed p most n x f q d) ≡ placed Exact most (key p n) (fold_node p x) (fold p f) (fold_path p q) d

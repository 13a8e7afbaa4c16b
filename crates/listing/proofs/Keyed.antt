-- Reading by key: an entry is placed as its key is among keys.
use mathlib.Core.Path.{◌≡◌, refl, ap, ◌∙◌}
use mathlib.Core.List.{[], ◌∷◌, ◌++◌}
use mathlib.Core.Bool.{Bool, true, false, cond}
use lib.ListN.{length}
use lib.Dec.{ltb, leb}
use Prim.Native.Nat.{ℕ, suc}
use Rattle.tree.specs.Name.{Name}
use Rattle.tree.specs.Forest.{TreePath, Forest, Node, Node.absent, Node.file, Node.folder, kids, at, size}
use Rattle.tree.specs.Put.{put}
use Rattle.tree.specs.Key.{key, fold, fold_node, fold_path, put_in}
use Rattle.tree.specs.declared.Profile.{Profile}
use Rattle.tree.specs.declared.Profile.TheVariants.{Exact}
use Rattle.tree.proofs.Folds.{fold-exact, path-exact, size-fold}
use Rattle.tree.proofs.Spots.{fold-put-last, path-append, put-exact}
use Rattle.listing.specs.Entries.{Said}
use Rattle.listing.specs.Reading.{Step.stops, Step.goes, at_key, is_absent, opened, placed}
use Rattle.listing.specs.Keyed.{fold_state, fold_step, PlacedByKey}

-- by name
by_name : (most : ℕ) (n : Name) (x : Node) (f : Forest) (q : TreePath) (d : Said)
    → placed Exact most n x f q d
    ≡ cond (leb 16 (length q)) (stops 14)
    (cond (is_absent (at (folder f) (q ++ (n ∷ []))))
    (cond (ltb (suc (size f)) most) (goes (opened n x (kids (put (q ++ (n ∷ [])) x (folder f))) q d)) (stops 3))
    (stops 13))
unfolding placed
by_name most n x f q d = rw (fold-exact f, path-exact (q ++ (n ∷ [])), put-exact (q ++ (n ∷ [])) x (folder f))

fold-opened : (p : Profile) (n : Name) (x : Node) (f : Forest) (q : TreePath) (d : Said)
    → fold_state p (opened n x f q d) ≡ opened (key p n) (fold_node p x) (fold p f) (fold_path p q) d
fold-opened p n absent f q d = refl
fold-opened p n (file c) f q d = refl
fold-opened p n (folder k) f q d = rw (path-append p q (n ∷ []))

length-path : (p : Profile) (q : TreePath) → length (fold_path p q) ≡ length q
length-path p [] = refl
length-path p (n ∷ q) = ap suc (length-path p q)

module _ (p : Profile) (most : ℕ) (n : Name) (x : Node) (f : Forest) (q : TreePath) (d : Said) where
  -- once the entry is in
  fold-after : fold_state p (opened n x (kids (put_in p (q ++ (n ∷ [])) x (folder f))) q d)
      ≡ opened (key p n) (fold_node p x) (kids (put (fold_path p q ++ (key p n ∷ [])) (fold_node p x) (folder (fold p f)))) (fold_path p q) d
  fold-after = fold-opened p n x _ q d ∙ rw (fold-put-last p q n x f, path-append p q (n ∷ []))

  at-keys : fold_step p (placed p most n x f q d) ≡ placed Exact most (key p n) (fold_node p x) (fold p f) (fold_path p q) d
  unfolding placed
  at-keys =
      rw (by_name most (key p n) (fold_node p x) (fold p f) (fold_path p q) d, length-path p q, size-fold p f, ← fold-after, ← path-append p q (n ∷ []))
      (go (leb 16 (length q)) (is_absent (at_key p f (q ++ (n ∷ [])))) (ltb (suc (size f)) most))
    where
      go : (t u v : Bool) → fold_step p (cond t (stops 14) (cond u (cond v (goes (opened n x (kids (put_in p (q ++ (n ∷ [])) x (folder f))) q d)) (stops 3)) (stops 13)))
          ≡ cond t (stops 14) (cond u (cond v (goes (fold_state p (opened n x (kids (put_in p (q ++ (n ∷ [])) x (folder f))) q d))) (stops 3)) (stops 13))
      go true u v = refl
      go false true true = refl
      go false true false = refl
      go false false v = refl

pub placed-by-key : PlacedByKey
placed-by-key = record { exact = by_name; keys = at-keys }

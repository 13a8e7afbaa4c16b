-- Whose name a piece of a new tree has: that of the tree gone by where it has the entry, else that of the other. A name that is an
-- entry's has eight words.
use mathlib.Core.Path.{◌≡◌, refl}
use mathlib.Core.List.{[], ◌∷◌}
use lib.ListN.{length}
use Prim.Native.Nat.{Ordering}
use Rattle.tree.specs.Name.{Name, cmp, if_same}
use Rattle.tree.specs.Forest.{TreePath, Forest, Forest.end, Forest.leaf, Forest.dir, Node, Node.absent, Node.file, Node.folder, kids, Present}
use Rattle.tree.specs.Rules.{NameRule}
use Rattle.tree.specs.declared.Profile.{Profile}
use Rattle.tree.specs.Key.{key, entry, spelling}
use Rattle.tree.proofs.Folds.{reach, own_name}
use Rattle.tree.proofs.Respelled.{spelling-none, spelling-some}
use Rattle.settle.specs.Decision.{Decision, Decision.agreed, Decision.left_gets, Decision.right_gets, Decision.clash}
use Rattle.settle.proofs.Picks.{Result.left, Result.right, Result.archive}
use Rattle.settle.proofs.Places.{called}
use Rattle.table_stands.specs.Stands.{Ruled, RuledNode}
use Rattle.plan_results.proofs.Spelled.{name_in}

abbrev pub NoClash : Decision → Type 0
NoClash agreed = Unit {0}
NoClash left_gets = Unit {0}
NoClash right_gets = Unit {0}
NoClash clash = ⊥

-- names have eight words
module _ (p : Profile) where
  spelling-ruled : (n m : Name) (f : Forest) → Ruled f → Present (entry p n f) → NameRule (spelling p n f m)
  unfolding Ruled entry spelling
  spelling-ruled n m end r h = absurd h
  spelling-ruled n m (leaf k c s) r h = go (cmp n (key p k)) (spelling-ruled n m s r.2) h
    where
      go : (w : Ordering) → (Present (entry p n s) → NameRule (spelling p n s m)) → Present (if_same w (file c) (entry p n s)) → NameRule (if_same w k (spelling p n s m))
      go Ordering.lt ih i = ih i
      go Ordering.eq ih i = r.0
      go Ordering.gt ih i = ih i
  spelling-ruled n m (dir k j s) r h = go (cmp n (key p k)) (spelling-ruled n m s r.2) h
    where
      go : (w : Ordering) → (Present (entry p n s) → NameRule (spelling p n s m)) → Present (if_same w (folder j) (entry p n s)) → NameRule (if_same w k (spelling p n s m))
      go Ordering.lt ih i = ih i
      go Ordering.eq ih i = r.0
      go Ordering.gt ih i = ih i

  entry-ruled : (n : Name) (f : Forest) → Ruled f → RuledNode (entry p n f)
  unfolding Ruled entry
  entry-ruled n end r = tt
  entry-ruled n (leaf k c s) r = go (cmp n (key p k)) (entry-ruled n s r.2)
    where
      go : (w : Ordering) → RuledNode (entry p n s) → RuledNode (if_same w (file c) (entry p n s))
      go Ordering.lt ih = ih
      go Ordering.eq ih = r.1
      go Ordering.gt ih = ih
  entry-ruled n (dir k j s) r = go (cmp n (key p k)) (entry-ruled n s r.2)
    where
      go : (w : Ordering) → RuledNode (entry p n s) → RuledNode (if_same w (folder j) (entry p n s))
      go Ordering.lt ih = ih
      go Ordering.eq ih = r.1
      go Ordering.gt ih = ih

  ruled-kids : (x : Node) → RuledNode x → Ruled (kids x)
  unfolding Ruled
  ruled-kids absent r = tt
  ruled-kids (file c) r = tt
  ruled-kids (folder k) r = r

  pub own-eight : (q : TreePath) (m : Name) (x : Node) → RuledNode x → (Present x → length m ≡ 8) → Present (reach p x q) → length (own_name p m x q) ≡ 8
  unfolding reach own_name
  own-eight [] m x r h i = h i
  own-eight (n ∷ q) m x r h i =
      own-eight q (spelling p n (kids x) n) (entry p n (kids x)) (entry-ruled n (kids x) (ruled-kids x r)) (λ j. (spelling-ruled n n (kids x) (ruled-kids x r) j).eight) i

  -- THE NAME OF A PIECE: that of the tree gone by where it has the entry, else that of the other
  pub left_there : (q : TreePath) (e : Decision) (m : Decision → Name) (M : Name) (o l r : Node) → (Present l → m e ≡ M) → Present (reach p l q) → name_in p left m o l r q e ≡ own_name p M l q
  unfolding reach own_name name_in
  left_there [] e m M o l r h i = h i
  left_there (n ∷ q) e m M o l r h i =
      left_there q e (called p left n (kids o) (kids l) (kids r)) (spelling p n (kids l) n) (entry p n (kids o)) (entry p n (kids l)) (entry p n (kids r))
      (λ j. spelling-some p n (kids l) (spelling p n (kids r) n) n j) i

  pub left-else : (q : TreePath) (e : Decision) (m : Decision → Name) (M : Name) (o l r : Node) → (l ≡ absent → m e ≡ M) → reach p l q ≡ absent → name_in p left m o l r q e ≡ own_name p M r q
  unfolding reach own_name name_in
  left-else [] e m M o l r h i = h i
  left-else (n ∷ q) e m M o l r h i =
      left-else q e (called p left n (kids o) (kids l) (kids r)) (spelling p n (kids r) n) (entry p n (kids o)) (entry p n (kids l)) (entry p n (kids r))
      (λ j. spelling-none p n (kids l) (spelling p n (kids r) n) j) i

  pub right_there : (q : TreePath) (e : Decision) (m : Decision → Name) (M : Name) (o l r : Node) → (Present r → m e ≡ M) → Present (reach p r q) → name_in p right m o l r q e ≡ own_name p M r q
  unfolding reach own_name name_in
  right_there [] e m M o l r h i = h i
  right_there (n ∷ q) e m M o l r h i =
      right_there q e (called p right n (kids o) (kids l) (kids r)) (spelling p n (kids r) n) (entry p n (kids o)) (entry p n (kids l)) (entry p n (kids r))
      (λ j. spelling-some p n (kids r) (spelling p n (kids l) n) n j) i

  pub right-else : (q : TreePath) (e : Decision) (m : Decision → Name) (M : Name) (o l r : Node) → (r ≡ absent → m e ≡ M) → reach p r q ≡ absent → name_in p right m o l r q e ≡ own_name p M l q
  unfolding reach own_name name_in
  right-else [] e m M o l r h i = h i
  right-else (n ∷ q) e m M o l r h i =
      right-else q e (called p right n (kids o) (kids l) (kids r)) (spelling p n (kids l) n) (entry p n (kids o)) (entry p n (kids l)) (entry p n (kids r))
      (λ j. spelling-none p n (kids r) (spelling p n (kids l) n) j) i

  -- the archive goes by left's names but at a clash
  as-left : (e : Decision) → NoClash e → (n : Name) (o l r : Forest) → called p archive n o l r e ≡ called p left n o l r e
  as-left agreed c n o l r = refl
  as-left left_gets c n o l r = refl
  as-left right_gets c n o l r = refl
  as-left clash c n o l r = absurd c

  pub archive-left : (q : TreePath) (e : Decision) → NoClash e → (m k : Decision → Name) (o l r : Node) → m e ≡ k e → name_in p archive m o l r q e ≡ name_in p left k o l r q e
  unfolding name_in
  archive-left [] e c m k o l r h = h
  archive-left (n ∷ q) e c m k o l r h =
      archive-left q e c (called p archive n (kids o) (kids l) (kids r)) (called p left n (kids o) (kids l) (kids r)) (entry p n (kids o)) (entry p n (kids l)) (entry p n (kids r)) (as-left e c n (kids o) (kids l) (kids r))

  pub archive-clash : (q : TreePath) (m : Decision → Name) (M : Name) (o l r : Node) → m clash ≡ M → name_in p archive m o l r q clash ≡ own_name p M o q
  unfolding name_in own_name
  archive-clash [] m M o l r h = h
  archive-clash (n ∷ q) m M o l r h = archive-clash q (called p archive n (kids o) (kids l) (kids r)) (spelling p n (kids o) n) (entry p n (kids o)) (entry p n (kids l)) (entry p n (kids r)) refl

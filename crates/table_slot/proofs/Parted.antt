-- An entry put in by key leaves the rows before and behind it as they are, and stands between them as it is spelled.
use mathlib.Core.Path.{◌≡◌, refl, sym, ap, ◌∙◌}
use mathlib.Core.List.{List, [], ◌∷◌, ◌++◌, append_assoc}
use native.Mathlib.Omega.{arith}
use lib.ListN.{length, length-append}
use Prim.Native.Nat.{ℕ, suc, ◌+◌, Ordering}
use Rattle.tree.specs.Name.{Name, cmp, by_order, if_same}
use Rattle.tree.specs.Forest.{TreePath, Forest, Forest.end, Forest.leaf, Forest.dir, Node, Node.absent, Node.file, Node.folder, Sorted, SortedNode, add, at}
use Rattle.tree.specs.Put.{Reaches}
use Rattle.tree.specs.declared.Profile.{Profile}
use Rattle.tree.specs.Key.{key, fold, fold_node, fold_path, entry, spelling, update_in, put_in}
use Rattle.table_row.specs.Table.{Row}
use Rattle.table_row.specs.Tree.{folder_row, rows_of, node_rows}
use Rattle.table_stands.specs.Around.{row_in}
use Rattle.tree.proofs.Forest.{sorted-find}
use Rattle.tree.proofs.Folds.{entry-fold, fold-absent}
use Rattle.tree.proofs.Respelled.{spelling-none, spelling-some}
use Rattle.table_row.proofs.Tree.{rows-add, length-rows}
use Rattle.table_stands.proofs.Keyed.{before_key, behind_key, size-before, rows_split, under-head}

module _ (p : Profile) where
  -- one sibling, y called m, by the order of the keys of n and m
  update-step : (d : ℕ) (n m : Name) (x y : Node) (s : Forest) (o : Ordering) → (o ≡ Ordering.lt → spelling p (key p n) s n ≡ n)
      → rows_of d (update_in p n x s) ≡ rows_of d (before_key p (key p n) s) ++ (node_rows d (spelling p (key p n) s n) x ++ rows_of d (behind_key p (key p n) s))
      → rows_of d (by_order o (add n x (add m y s)) (add m x s) (add m y (update_in p n x s))) ≡ rows_of d (by_order o end end (add m y (before_key p (key p n) s)))
      ++ (node_rows d (if_same o m (spelling p (key p n) s n)) x ++ rows_of d (by_order o (add m y s) s (behind_key p (key p n) s)))
  unfolding rows_of
  update-step d n m x y s Ordering.lt a e = rw (a refl) (rows-add d n x (add m y s))
  update-step d n m x y s Ordering.eq a e = rows-add d m x s
  update-step d n m x y s Ordering.gt a e = rw (rows-add d m y (update_in p n x s), e, rows-add d m y (before_key p (key p n) s), append_assoc)

  -- the entry by the key of n changed
  rows-changed : (d : ℕ) (n : Name) (x : Node) (f : Forest) → Sorted (fold p f)
      → rows_of d (update_in p n x f) ≡ rows_of d (before_key p (key p n) f) ++ (node_rows d (spelling p (key p n) f n) x ++ rows_of d (behind_key p (key p n) f))
  unfolding update_in fold Sorted spelling before_key behind_key rows_of
  rows-changed d n x end h = rows-add d n x end
  rows-changed d n x (leaf m c s) h =
      update-step d n m x (file c) s (cmp (key p n) (key p m)) (λ e. spelling-none p (key p n) s n (under-head p (key p n) m s h.0 e)) (rows-changed d n x s h.1)
  rows-changed d n x (dir m k s) h =
      update-step d n m x (folder k) s (cmp (key p n) (key p m)) (λ e. spelling-none p (key p n) s n (under-head p (key p n) m s h.0 e)) (rows-changed d n x s h.2)

  -- an entry that is there has its own name, whatever one without an entry would have
  own_name : (d : ℕ) (k : Name) (f : Forest) (a b : Name) → node_rows d (spelling p k f a) (entry p k f) ≡ node_rows d (spelling p k f b) (entry p k f)
  unfolding node_rows
  own_name d k f a b = go (entry p k f) refl
    where
      go : (x : Node) → entry p k f ≡ x → node_rows d (spelling p k f a) x ≡ node_rows d (spelling p k f b) x
      go absent e = refl
      go (file c) e = rw (spelling-some p k f a b (rw e tt))
      go (folder j) e = rw (spelling-some p k f a b (rw e tt))

-- the rows of x, called m and at depth d, about the place of an entry called n of the folder at q, where there is none
pub record Parted (p : Profile) (d : ℕ) (m : Name) (x : Node) (q : TreePath) (n : Name) (y : Node) : Type 0 where
  pub front : List Row
  pub back : List Row
  pub are : node_rows d m x ≡ front ++ back
  pub place : length front ≡ row_in (fold_node p x) (fold_path p (q ++ (n ∷ [])))
  pub grown : node_rows d m (put_in p (q ++ (n ∷ [])) y x) ≡ front ++ (node_rows (d + suc (length q)) n y ++ back)

-- what is parted in an entry is parted in its folder
deeper : (p : Profile) (q : TreePath) (n : Name) (y : Node) (d : ℕ) (m l : Name) (f : Forest) → Sorted (fold p f)
    → Parted p (suc d) (spelling p (key p l) f l) (entry p (key p l) f) q n y → Parted p d m (folder f) (l ∷ q) n y
unfolding row_in node_rows put_in
deeper p q n y d m l f s h =
    let k = key p l in
    let b = rows_of (suc d) (before_key p k f) in
    let c = rows_of (suc d) (behind_key p k f) in
    let z : d + suc (suc (length q)) ≡ suc d + suc (length q) = omega arith in
    record {
      front = folder_row d m ∷ (b ++ h.front);
      back = h.back ++ c;
      are = ap (λ (rs : List Row). folder_row d m ∷ rs) (rows_split p (suc d) k f s ∙ rw (own_name p (suc d) k f k l, h.are) (simp append_assoc));
      place = ap suc (length-append b h.front ∙ rw (length-rows (suc d) (before_key p k f), size-before p k f, h.place, entry-fold p k f));
      grown = rw z
          (ap (λ (rs : List Row). folder_row d m ∷ rs) (rows-changed p (suc d) l (put_in p (q ++ (n ∷ [])) y (entry p k f)) f s
          ∙ rw h.grown (simp append_assoc (sym (append_assoc b h.front (node_rows (suc d + suc (length q)) n y ++ (h.back ++ c)))))));
    }

pub parted : (p : Profile) (q : TreePath) (n : Name) (y : Node) (d : ℕ) (m : Name) (x : Node) → SortedNode (fold_node p x)
    → Reaches (fold_path p (q ++ (n ∷ []))) (fold_node p x) → at (fold_node p x) (fold_path p (q ++ (n ∷ []))) ≡ absent → Parted p d m x q n y
unfolding Reaches at row_in node_rows put_in
parted p [] n y d m absent s r e = absurd r
parted p [] n y d m (file c) s r e = absurd r
parted p [] n y d m (folder f) s r e =
    let none : entry p (key p n) f ≡ absent = fold-absent p (entry p (key p n) f) (entry-fold p (key p n) f ∙ e) in
    let b = rows_of (suc d) (before_key p (key p n) f) in
    let z : d + 1 ≡ suc d = omega arith in
    record {
      front = folder_row d m ∷ b;
      back = rows_of (suc d) (behind_key p (key p n) f);
      are = ap (λ (rs : List Row). folder_row d m ∷ rs) (rows_split p (suc d) (key p n) f s ∙ rw none);
      place = ap suc (length-rows (suc d) (before_key p (key p n) f) ∙ size-before p (key p n) f ∙ omega arith);
      grown = rw z (ap (λ (rs : List Row). folder_row d m ∷ rs) (rows-changed p (suc d) n y f s ∙ rw (spelling-none p (key p n) f n none)));
    }
parted p (l ∷ q) n y d m absent s r e = absurd r
parted p (l ∷ q) n y d m (file c) s r e = absurd r
parted p (l ∷ q) n y d m (folder f) s r e =
    let i = entry-fold p (key p l) f in
    deeper p q n y d m l f s (parted p q n y (suc d) (spelling p (key p l) f l) (entry p (key p l) f) (rw i (sorted-find (key p l) (fold p f) s)) (rw i r) (rw i e))

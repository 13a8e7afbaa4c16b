-- The rows of siblings in three pieces about a name: those before it, its own entry's, those after it.
use mathlib.Core.Path.{◌≡◌, refl, sym, ap, ◌∙◌}
use mathlib.Core.List.{◌++◌, append_assoc}
use Prim.Native.Nat.{ℕ, Ordering}
use Rattle.tree.specs.Name.{Name, cmp, by_order}
use Rattle.tree.specs.Forest.{Forest, Forest.end, Forest.leaf, Forest.dir, Node, Node.absent, Node.file, Node.folder, Sorted, add, find, Present}
use Rattle.tree.specs.Put.{update}
use Rattle.table_row.specs.Tree.{rows_of, node_rows}
use Rattle.table_row.proofs.Tree.{rows-add}
use Rattle.tree.proofs.Put.{update-find}
use Rattle.table_stands.specs.Around.{before, behind}

pub before-add : (n m : Name) (y : Node) (s : Forest) → Present y → before n (add m y s) ≡ by_order (cmp n m) end end (add m y (before n s))
unfolding before
before-add n m absent s h = absurd h
before-add n m (file c) s h = refl
before-add n m (folder k) s h = refl

-- one sibling, y called m, by the order of n and m
module _ (n m : Name) (y : Node) (s : Forest) where
  update-step : (d : ℕ) (x : Node) (o : Ordering) → rows_of d (update n x s) ≡ rows_of d (before n s) ++ (node_rows d n x ++ rows_of d (behind n s))
      → rows_of d (by_order o (add n x (add m y s)) (add n x s) (add m y (update n x s))) ≡ rows_of d (by_order o end end (add m y (before n s))) ++ (node_rows d n x ++ rows_of d (by_order o (add m y s) s (behind n s)))
  unfolding rows_of
  update-step d x Ordering.lt e = rows-add d n x (add m y s)
  update-step d x Ordering.eq e = rows-add d n x s
  update-step d x Ordering.gt e = rw (rows-add d m y (update n x s), e, rows-add d m y (before n s), append_assoc)

-- the entry called n changed: the pieces before and after it stay
pub rows-update : (d : ℕ) (n : Name) (x : Node) (f : Forest) → rows_of d (update n x f) ≡ rows_of d (before n f) ++ (node_rows d n x ++ rows_of d (behind n f))
unfolding update before behind rows_of
rows-update d n x end = rows-add d n x end
rows-update d n x (leaf m c s) = update-step n m (file c) s d x (cmp n m) (rows-update d n x s)
rows-update d n x (dir m k s) = update-step n m (folder k) s d x (cmp n m) (rows-update d n x s)

pub rows_split : (d : ℕ) (n : Name) (f : Forest) → Sorted f → rows_of d f ≡ rows_of d (before n f) ++ (node_rows d n (find n f) ++ rows_of d (behind n f))
rows_split d n f h = ap (rows_of d) (sym (update-find n f h)) ∙ rows-update d n (find n f) f

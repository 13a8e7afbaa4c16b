-- What is put at a path changes one piece of the rows: those before it and those after it stay.
use mathlib.Core.Path.{◌≡◌, refl, sym, ap, ap₂, ◌∙◌}
use mathlib.Core.List.{List, [], ◌∷◌, ◌++◌, append_assoc, append-nil}
use native.Mathlib.Omega.{arith}
use native.Mathlib.Nat.{add-zero, zero-add}
use lib.ListN.{length, take, drop, length-append}
use Prim.Native.Nat.{ℕ, suc, ◌+◌, ◌*◌}
use Rattle.tree.specs.Name.{Name}
use Rattle.tree.specs.Forest.{TreePath, Forest, Node, Node.absent, Node.file, Node.folder, at, find, kids, size}
use Rattle.tree.specs.Put.{update, put, Reaches}
use Rattle.table_row.specs.Table.{Row, flat}
use Rattle.table_row.specs.Tree.{folder_row, rows_of, node_rows}
use Rattle.table_find.specs.Entry.{place}
use Rattle.tree.proofs.Forest.{sorted-at}
use Rattle.tree.proofs.Put.{put-at, reaches-entry}
use Rattle.tree.proofs.Size.{row_count}
use Rattle.table_row.proofs.Flat.{Whole, flat_append, length-flat}
use Rattle.table_row.proofs.Tree.{length-rows}
use Rattle.table_stands.specs.Stands.{Stands, Ruled, Holds}
use Rattle.table_stands.specs.Around.{before, behind, entry_end, row_in, name_on, front, back}
use Rattle.table_stands.proofs.Rows.{cut, whole-front, whole_back}
use Rattle.table_stands.proofs.Forest.{length-node_rows, wide-node_rows}
use Rattle.table_stands.proofs.Around.{rows-update}
use Rattle.table_stands.proofs.Entry.{folder-place, folder-end}
use Rattle.table_stands.proofs.Subtree.{stands-whole}
use Rattle.table_stands.proofs.Path.{ruled-at, stands_at}

-- the rows of a node with y put at a path, in three pieces
pub put-rows : (p : TreePath) (d : ℕ) (m : Name) (y x : Node) → Reaches p x
    → node_rows d m (put p y x) ≡ front d m x p ++ (node_rows (d + length p) (name_on m p) y ++ back d x p)
unfolding put Reaches name_on front back node_rows
put-rows [] d m y x h = rw (add-zero, append-nil)
put-rows (n ∷ p) d m y absent h = absurd h
put-rows (n ∷ p) d m y (file c) h = absurd h
put-rows (n ∷ p) d m y (folder k) h = whole (put p y (find n k)) (put-rows p (suc d) n y (find n k) h)
  where
    e : d + suc (length p) ≡ suc d + length p
    e = omega arith

    whole : (z : Node) → node_rows (suc d) n z ≡ front (suc d) n (find n k) p ++ (node_rows (suc d + length p) (name_on n p) y ++ back (suc d) (find n k) p)
        → node_rows d m (folder (update n z k)) ≡ folder_row d m ∷ ((rows_of (suc d) (before n k) ++ front (suc d) n (find n k) p) ++ (node_rows (d + suc (length p)) (name_on n p) y ++ (back (suc d) (find n k) p ++ rows_of (suc d) (behind n k))))
    whole z q = ap (λ (rs : List Row). folder_row d m ∷ rs) (rows-update (suc d) n z k ∙ rw (q, e) (simp append_assoc))

pub flat-three : (a b c : List Row) → flat (a ++ (b ++ c)) ≡ flat a ++ (flat b ++ flat c)
flat-three a b c = rw (flat_append a (b ++ c), flat_append b c)

pub length_front : (p : TreePath) (d : ℕ) (m : Name) (x : Node) → length (front d m x p) ≡ row_in x p
unfolding front row_in
length_front [] d m x = refl
length_front (n ∷ p) d m x =
    ap suc (length-append (rows_of (suc d) (before n (kids x))) (front (suc d) n (find n (kids x)) p) ∙ ap₂ ◌+◌ (length-rows (suc d) (before n (kids x))) (length_front p (suc d) n (find n (kids x))))

-- the words before a path's node, its own, and those after it
module _ (p : TreePath) (w : List ℕ) (d : ℕ) (m : Name) (x : Node) (h : Holds w d m x) (g : Reaches p x) where
  pub put-words : (y : Node)
      → flat (node_rows d m (put p y x)) ≡ take (20 * row_in x p) w ++ (flat (node_rows (d + length p) (name_on m p) y) ++ drop (20 * (row_in x p + row_count (at x p))) w)
  put-words y =
      let a = front d m x p in
      let b = node_rows (d + length p) (name_on m p) (at x p) in
      let c = back d x p in
      let e : node_rows d m x ≡ a ++ (b ++ c) = ap (node_rows d m) (sym (put-at p x h.sorted)) ∙ put-rows p d m (at x p) x g in
      let v : Whole (a ++ (b ++ c)) = rw e at (wide-node_rows d m x h.eight h.ruled) in
      let i : length (flat a) ≡ 20 * row_in x p = length-flat a (whole-front a (b ++ c) v) ∙ rw (length_front p d m x) in
      let j : length (flat b) ≡ 20 * row_count (at x p) = length-flat b (whole-front b c (whole_back a (b ++ c) v)) ∙ rw (length-node_rows (d + length p) (name_on m p) (at x p)) in
      let q = cut w (flat a) (flat b) (flat c) (20 * row_in x p) (20 * (row_in x p + row_count (at x p))) (h.words ∙ ap flat e ∙ flat-three a b c) i (omega arith) in
      rw (q.0, q.1) (ap flat (put-rows p d m y x g) ∙ flat-three a (node_rows (d + length p) (name_on m p) y) c)

-- an entry n of the folder k that stands at a path q
module _ (n : Name) (k : Forest) where
  pub at_entry : (q : TreePath) (x : Node) → at x q ≡ folder k → at x (q ++ (n ∷ [])) ≡ find n k
  unfolding at
  at_entry [] x e = rw e
  at_entry (m ∷ q) x e = at_entry q (find m (kids x)) e

  pub row-entry : (q : TreePath) (x : Node) → at x q ≡ folder k → row_in x (q ++ (n ∷ [])) ≡ row_in x q + 1 + size (before n k)
  unfolding at row_in
  row-entry [] x e = rw e (omega arith)
  row-entry (m ∷ q) x e = let i = row-entry q (find m (kids x)) e in omega arith

pub name-entry : (q : TreePath) (m n : Name) → name_on m (q ++ (n ∷ [])) ≡ n
unfolding name_on
name-entry [] m n = refl
name-entry (l ∷ q) m n = name-entry q l n

-- what is put in as the entry n of the folder k that stands at the path q: the words before the entry's place, those put
-- in, and the words from the entry's end on
module _ (q : TreePath) (n : Name) (k : Forest) (w : List ℕ) (d : ℕ) (m : Name) (x : Node) (h : Holds w d m x) (e : at x q ≡ folder k) where
  stands-folder : Stands w (row_in x q) (d + length q) (name_on m q) (folder k)
  stands-folder =
      let s = stands_at q w 0 d m x (stands-whole w d m x h) h.sorted (rw e tt) in
      rw (← e, ← zero-add (row_in x q)) s

  ruled-folder : Ruled k
  ruled-folder = rw e at (ruled-at q x h.ruled)

  pub place-entry : place w (row_in x q) n ≡ row_in x (q ++ (n ∷ []))
  place-entry = folder-place w (row_in x q) (d + length q) (name_on m q) k stands-folder n ruled-folder ∙ sym (row-entry n k q x e)

  pub end-entry : entry_end w (row_in x q) n ≡ row_in x (q ++ (n ∷ [])) + row_count (at x (q ++ (n ∷ [])))
  end-entry = folder-end w (row_in x q) (d + length q) (name_on m q) k stands-folder n ruled-folder (rw e at (sorted-at q x h.sorted)) ∙ rw (row-entry n k q x e, at_entry n k q x e)

  pub put-entry : (y : Node)
      → flat (node_rows d m (put (q ++ (n ∷ [])) y x)) ≡ take (20 * place w (row_in x q) n) w ++ (flat (node_rows (d + suc (length q)) n y) ++ drop (20 * entry_end w (row_in x q) n) w)
  put-entry y =
      let l : length (q ++ (n ∷ [])) ≡ suc (length q) = length-append q (n ∷ []) ∙ omega arith in
      rw (end-entry, place-entry) (put-words (q ++ (n ∷ [])) w d m x h (reaches-entry n k q x e) y ∙ rw (l, name-entry q m n))

-- The table of a tree with an entry more: the row put in at its place.
use mathlib.Core.Path.{◌≡◌, refl, sym, ap, ◌∙◌}
use mathlib.Core.List.{List, [], ◌∷◌, ◌++◌, append_assoc, append-nil}
use native.Mathlib.Omega.{arith}
use native.Mathlib.Nat.{zero-add}
use lib.ListN.{length, take, drop, length-append, length-drop}
use lib.Seq.{take_at, drop_at, take-take, length-take-le}
use Prim.Native.Nat.{ℕ, suc, ◌+◌, ◌*◌, ◌-◌, ◌≤◌, Ordering}
use Rattle.tree.specs.Name.{Name, cmp, by_order}
use Rattle.tree.specs.Forest.{Content, Forest, Forest.end, Forest.leaf, Forest.dir, Node, Node.absent, Node.file, Node.folder, Present, Sorted, TreePath, add, at, kids, size}
use Rattle.tree.specs.Put.{update, Reaches}
use Rattle.tree.specs.declared.Profile.{Profile}
use Rattle.tree.specs.Key.{key, fold, fold_path, FormedIn, put_in}
use Rattle.table_row.specs.Table.{Row, rows, flat}
use Rattle.table_row.specs.Tree.{file_row, folder_row, node_rows, rows_of, root_name, table}
use Rattle.table_row.specs.Buffer.{written}
use Rattle.table_stands.specs.Stands.{Holds}
use Rattle.table_stands.specs.Around.{before, row_in, name_on}
use Rattle.tree.proofs.Forest.{sorted-at}
use Rattle.tree.proofs.Order.{cmp-refl}
use Rattle.tree.proofs.Put.{find-update-same}
use Rattle.tree.proofs.Spots.{path-append, put_in-folder}
use Rattle.table_row.proofs.Table.{drop-take}
use Rattle.table_row.proofs.Flat.{Whole, flat_append, length-flat, whole-rows}
use Rattle.table_row.proofs.Tree.{length-table, rows-table}
use Rattle.table_stands.proofs.Rows.{cut, whole-front}
use Rattle.table_stands.proofs.Path.{leads, ruled-at}
use Rattle.table_stands.proofs.Put.{place-entry, at_entry}
use Rattle.table_stands.proofs.Around.{before-add}
use Rattle.table_slot.specs.Insert.{inserted, spot_of, Last}
use Rattle.table_slot.proofs.Spots.{spot_at, spot-found}
use Rattle.table_slot.proofs.Parted.{parted}

-- what is in use, what is not, and the length of a table with a row put in
module _ (w : List ℕ) (n a : ℕ) (r : Row) (h : a ≤ n) (g : n + 20 ≤ length w) (e : length r ≡ 20) where
  moved : List ℕ
  moved = take (n - a) (drop a w)

  length_moved : length moved ≡ n - a
  unfolding moved
  length_moved = length-take-le (n - a) (drop a w) (simp length-drop (omega arith))

  length-put : length (take a w ++ (r ++ moved)) ≡ n + 20
  length-put = let l = length-take-le a w (omega arith) in let k = length_moved in simp length-append (omega arith)

  pieces : inserted w n a r ≡ (take a w ++ (r ++ moved)) ++ drop (n + 20) w
  unfolding inserted written moved
  pieces =
      let k = length_moved in
      let z : a + length (r ++ take (n - a) (drop a w)) ≡ n + 20 = simp length-append (omega arith) in
      rw z (sym (append_assoc (take a w) (r ++ take (n - a) (drop a w)) (drop (n + 20) w)))

  pub inserted-used : take (n + 20) (inserted w n a r) ≡ take a (take n w) ++ (r ++ drop a (take n w))
  unfolding moved
  inserted-used =
      let z : a + (n - a) ≡ n = omega arith in
      let q : drop a (take n w) ≡ take (n - a) (drop a w) = rw z at (drop-take a (n - a) w) in
      rw (pieces, take_at (take a w ++ (r ++ take (n - a) (drop a w))) (drop (n + 20) w) (n + 20) length-put, take-take a n w h, q)

  pub inserted-rest : drop (n + 20) (inserted w n a r) ≡ drop (n + 20) w
  inserted-rest = rw (pieces, drop_at (take a w ++ (r ++ moved)) (drop (n + 20) w) (n + 20) length-put)

  pub length_inserted : length (inserted w n a r) ≡ length w
  length_inserted = rw (pieces, length-append (take a w ++ (r ++ moved)) (drop (n + 20) w), length-put, length-drop) (omega arith)

-- the rows of an entry that has none beneath it
pub file-words : (d : ℕ) (n : Name) (c : Content) → flat (node_rows d n (file c)) ≡ file_row d n c
unfolding flat node_rows
file-words d n c = append-nil (file_row d n c)

pub folder-words : (d : ℕ) (n : Name) → flat (node_rows d n (folder end)) ≡ folder_row d n
unfolding flat node_rows rows_of
folder-words d n = append-nil (folder_row d n)

-- where an entry called m of the folder at the path q goes, in the words of a tree of keys
pub spot-entry : (q : TreePath) (m : Name) (k : Forest) (w : List ℕ) (d : ℕ) (root : Name) (x : Node) → Holds w d root x → at x q ≡ folder k
    → (last : ℕ) → Last (row_in x q) k last → spot_of w (row_in x q) last m ≡ spot_at (at x (q ++ (m ∷ []))) (row_in x (q ++ (m ∷ [])))
spot-entry q m k w d root x h e last l =
    rw (at_entry m k q x e, ← place-entry q m k w d root x h e)
    (spot-found w (row_in x q) (d + length q) (name_on root q) k (rw e at (leads q w d root x h (rw e tt)).stands)
    (rw e at (ruled-at q x h.ruled)) (rw e at (sorted-at q x h.sorted)) m last l)

-- THE TABLE OF A TREE WITH AN ENTRY MORE, called m in the folder at the path q: its row at the place of its key
module _ (p : Profile) (q : TreePath) (m : Name) (f : Forest) (y : Node) (w : List ℕ) (n : ℕ) (r : Row) where
  abbrev keys : TreePath
  keys = fold_path p q ++ (key p m ∷ [])

  abbrev row : ℕ
  row = row_in (folder (fold p f)) keys

  pub put-row : FormedIn p f → take n w ≡ table f → Reaches keys (folder (fold p f)) → at (folder (fold p f)) keys ≡ absent
      → flat (node_rows (suc (length q)) m y) ≡ r → length r ≡ 20 → 20 * row ≤ n → n + 20 ≤ length w
      → take (n + 20) (inserted w n (20 * row) r) ≡ table (kids (put_in p (q ++ (m ∷ [])) y (folder f)))
  unfolding table
  put-row good used there none is long low room =
      let k = path-append p q (m ∷ []) in
      let h = parted p q m y 0 root_name (folder f) good.sorted (rw k there) (rw k none) in
      let a = h.front in
      let c = h.back in
      let u : Whole (rows (table f)) = whole-rows (table f) (let l = length-table f good.within in omega arith) in
      let v : Whole (a ++ c) = rw (rows-table f good.within ∙ h.are) at u in
      let i : length (flat a) ≡ 20 * row = length-flat a (whole-front a c v) ∙ rw (h.place, k) in
      let z = cut (take n w) (flat a) [] (flat c) (20 * row) (20 * row) (used ∙ ap flat h.are ∙ flat_append a c) i (omega arith) in
      let b = node_rows (0 + suc (length q)) m y in
      let g : flat (a ++ (b ++ c)) ≡ flat a ++ (r ++ flat c) = rw (flat_append a (b ++ c), flat_append b c, zero-add (suc (length q)), is) in
      inserted-used w n (20 * row) r low room long ∙ rw (z.0, z.1) (sym g ∙ ap flat (sym h.grown) ∙ rw (put_in-folder p q m y f))

-- an entry that has been put in is the last
module _ (n : Name) (x : Node) (p : Present x) where
  before-step : (m : Name) (y : Node) (s : Forest) (o : Ordering) → cmp n m ≡ o → Present y → before n (update n x s) ≡ before n s
      → before n (by_order o (add n x (add m y s)) (add n x s) (add m y (update n x s))) ≡ by_order o end end (add m y (before n s))
  before-step m y s Ordering.lt e h q = before-add n n x (add m y s) p ∙ rw (cmp-refl n)
  before-step m y s Ordering.eq e h q = before-add n n x s p ∙ rw (cmp-refl n)
  before-step m y s Ordering.gt e h q = before-add n m y (update n x s) h ∙ rw (e, q)

  pub before-update : (f : Forest) → before n (update n x f) ≡ before n f
  unfolding update before
  before-update end = before-add n n x end p ∙ rw (cmp-refl n)
  before-update (leaf m c s) = before-step m (file c) s (cmp n m) refl tt (before-update s)
  before-update (dir m k s) = before-step m (folder k) s (cmp n m) refl tt (before-update s)

pub last-put : (f : ℕ) (n : Name) (x : Node) (k : Forest) → Present x → Sorted k → Last f (update n x k) (f + 1 + size (before n k))
last-put f n x k p h = rw (← before-update n x p k) (Last.entry n (rw (find-update-same n x k h) p))

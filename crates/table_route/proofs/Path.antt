-- In a tree's table the row of what stands at a path of keys has that path, as the tree spells it.
use mathlib.Core.Path.{◌≡◌, refl, sym, ap, ◌∙◌}
use mathlib.Core.List.{List, [], ◌∷◌, ◌++◌, append_assoc, append-nil}
use native.Mathlib.Omega.{arith}
use native.Mathlib.Nat.{add-zero}
use native.Mathlib.Numerals.{add-one}
use lib.ListN.{length, drop}
use lib.Seq.{drop_at, drop-drop}
use Prim.Native.Nat.{ℕ, suc, ◌+◌, ◌/◌, ◌≤◌, ◌<◌, Ordering}
use Rattle.tree.specs.Name.{Name, cmp, if_same}
use Rattle.tree.specs.Forest.{TreePath, Forest, Forest.end, Forest.leaf, Forest.dir, Node, Node.absent, Node.file, Node.folder, Present, Sorted, SortedNode, at, find, size}
use Rattle.tree.specs.Rules.{NameRule}
use Rattle.tree.specs.declared.Profile.{Profile}
use Rattle.tree.specs.Key.{key, fold, fold_node, FormedIn, entry, spelling}
use Rattle.tree.proofs.Forest.{sorted-find}
use Rattle.tree.proofs.Folds.{entry-fold, reach, own_name, reach-fold, reach-absent}
use Rattle.table_row.specs.Table.{Row, row_at, rows, depth, name}
use Rattle.table_row.specs.Tree.{file_row, folder_row, rows_of, node_rows, root_name, table}
use Rattle.table_row.proofs.Flat.{rows-flat}
use Rattle.table_row.proofs.Tree.{length-rows}
use Rattle.table_stands.specs.Stands.{Stands, Ruled, RuledNode}
use Rattle.table_stands.specs.Around.{before, row_in}
use Rattle.table_stands.proofs.Rows.{head}
use Rattle.table_stands.proofs.Forest.{file-name, folder-name, ruled-within, wide-node_rows}
use Rattle.table_stands.proofs.Keyed.{before_key, behind_key, size-before, rows_split, stands-entry, stands-reach}
use Rattle.table_route.specs.Route.{last_above, path_of, spelled_in}
use Rattle.table_route.proofs.Above.{above-here, above-back, path-root, path-next}

-- rows at least as deep as d are passed over
skip : (w : List ℕ) (d e : ℕ) (f : Forest) (i : ℕ) (rest : List Row) → d ≤ e → drop i (rows w) ≡ rows_of e f ++ rest
    → last_above w d (i + size f) ≡ last_above w d i
unfolding rows_of size
skip w d e end i rest h q = rw add-zero
skip w d e (leaf n c s) i rest h q =
    let t = head w i (file_row e n c) (rows_of e s ++ rest) q in
    let r = t.row in
    let z : i + suc (size s) ≡ i + 1 + size s = omega arith in
    rw z (skip w d e s (i + 1) rest h t.next ∙ rw add-one (above-back w d i (rw r h)))
skip w d e (dir n k s) i rest h q =
    let t = head w i (folder_row e n) (rows_of (suc e) k ++ (rows_of e s ++ rest)) (q ∙ ap (λ (l : List Row). folder_row e n ∷ l) (append_assoc (rows_of (suc e) k) (rows_of e s) rest)) in
    let r = t.row in
    let z : i + suc (size k + size s) ≡ i + 1 + size k + size s = omega arith in
    let u = sym (drop-drop (size k) (i + 1) (rows w)) ∙ ap (drop (size k)) t.next ∙ drop_at (rows_of (suc e) k) (rows_of e s ++ rest) (size k) (length-rows (suc e) k) in
    rw z
    (skip w d e s (i + 1 + size k) rest h u
    ∙ skip w d (suc e) k (i + 1) (rows_of e s ++ rest) (omega arith) t.next
    ∙ rw add-one (above-back w d i (rw r h)))

-- a node's own row
pub record Own (w : List ℕ) (i d : ℕ) (n : Name) : Type 0 where
  pub deep : depth (row_at w i) ≡ d
  pub called : name (row_at w i) ≡ n

own : (w : List ℕ) (i d : ℕ) (n : Name) (x : Node) → Stands w i d n x → Present x → NameRule n → Own w i d n
unfolding node_rows
own w i d n absent s h N = absurd h
own w i d n (file c) s h N =
    let t = head w i (file_row d n c) s.rest s.here in
    record { deep = rw t.row; called = rw t.row (file-name d n c N) }
own w i d n (folder k) s h N =
    let t = head w i (folder_row d n) (rows_of (suc d) k ++ s.rest) s.here in
    record { deep = rw t.row; called = rw t.row (folder-name d n N) }

-- an entry's folder is the one that it is found in, by key
module _ (p : Profile) (w : List ℕ) (i d : ℕ) (m n : Name) (k : Forest) (s : Stands w i d m (folder k)) (o : Sorted (fold p k)) where
  folder-above : last_above w (suc d) (i + 1 + size (before n (fold p k))) ≡ i
  unfolding node_rows
  folder-above =
      let b = rows_of (suc d) (before_key p n k) in
      let y = node_rows (suc d) (spelling p n k n) (entry p n k) ++ rows_of (suc d) (behind_key p n k) in
      let t = head w i (folder_row d m) (rows_of (suc d) k ++ s.rest) s.here in
      let r = t.row in
      rw (← size-before p n k)
      (skip w (suc d) (suc d) (before_key p n k) (i + 1) (y ++ s.rest) (omega arith)
      (t.next ∙ ap (λ (l : List Row). l ++ s.rest) (rows_split p (suc d) n k o) ∙ append_assoc b y s.rest)
      ∙ rw add-one (above-here w (suc d) i (rw r (omega arith))))

  entry-path : Present (entry p n k) → NameRule (spelling p n k n) → path_of w (i + 1 + size (before n (fold p k))) ≡ path_of w i ++ (spelling p n k n ∷ [])
  entry-path h N =
      let j = i + size (before n (fold p k)) in
      let z : i + 1 + size (before n (fold p k)) ≡ suc j = omega arith in
      let a = own w (i + 1 + size (before n (fold p k))) (suc d) (spelling p n k n) (entry p n k) (stands-entry p w i d m k s n o) h N in
      let e = rw z at a.deep in
      let c = rw z at a.called in
      rw z (path-next w j ∙ rw (e, c, ← z, folder-above))

module _ (p : Profile) where
  -- what has something below it is there
  pub reach-above : (q : TreePath) (x : Node) → Present (reach p x q) → Present x
  reach-above q absent h = absurd (rw (reach-absent p q) at h)
  reach-above q (file c) h = tt
  reach-above q (folder k) h = tt

  -- an entry that is there keeps the rules of the folder
  pub ruled-entry : (n : Name) (f : Forest) → Ruled f → Present (entry p n f) → NameRule (spelling p n f n) × RuledNode (entry p n f)
  unfolding Ruled entry spelling
  ruled-entry n end r h = absurd h
  ruled-entry n (leaf m c s) r h = go (cmp n (key p m)) h (ruled-entry n s r.2)
    where
      go : (o : Ordering) → Present (if_same o (file c) (entry p n s)) → (Present (entry p n s) → NameRule (spelling p n s n) × RuledNode (entry p n s))
          → NameRule (if_same o m (spelling p n s n)) × RuledNode (if_same o (file c) (entry p n s))
      go Ordering.lt h ih = ih h
      go Ordering.eq h ih = (r.0, r.1)
      go Ordering.gt h ih = ih h
  ruled-entry n (dir m k s) r h = go (cmp n (key p m)) h (ruled-entry n s r.2)
    where
      go : (o : Ordering) → Present (if_same o (folder k) (entry p n s)) → (Present (entry p n s) → NameRule (spelling p n s n) × RuledNode (entry p n s))
          → NameRule (if_same o m (spelling p n s n)) × RuledNode (if_same o (folder k) (entry p n s))
      go Ordering.lt h ih = ih h
      go Ordering.eq h ih = (r.0, r.1)
      go Ordering.gt h ih = ih h

  -- what stands at a path below a node
  path-below : (q : TreePath) (w : List ℕ) (i d : ℕ) (m : Name) (x : Node) → Stands w i d m x → SortedNode (fold_node p x) → RuledNode x → Present (reach p x q)
      → path_of w (i + row_in (fold_node p x) q) ≡ path_of w i ++ spelled_in p x q
  unfolding reach row_in spelled_in entry
  path-below [] w i d m x s o r h = rw (add-zero, append-nil)
  path-below (n ∷ q) w i d m absent s o r h = absurd (rw (reach-absent p q) at h)
  path-below (n ∷ q) w i d m (file c) s o r h = absurd (rw (reach-absent p q) at h)
  path-below (n ∷ q) w i d m (folder k) s o r h =
      let c = i + 1 + size (before n (fold p k)) in
      let f = entry-fold p n k in
      let z : i + suc (size (before n (fold p k)) + row_in (find n (fold p k)) q) ≡ c + row_in (find n (fold p k)) q = omega arith in
      let y = reach-above q (entry p n k) h in
      let u = ruled-entry n k r y in
      rw (z, ← f)
      (path-below q w c (suc d) (spelling p n k n) (entry p n k) (stands-entry p w i d m k s n o) (rw f (sorted-find n (fold p k) o)) u.1 h
      ∙ rw (entry-path p w i d m n k s o y u.0) (append_assoc (path_of w i) (spelling p n k n ∷ []) (spelled_in p (entry p n k) q)))

  -- what a path of keys leads to in the tree of keys it leads to in the tree
  pub present-reach : (f : Forest) (q : TreePath) → Present (at (folder (fold p f)) q) → Present (reach p (folder f) q)
  present-reach f q h = go (reach p (folder f) q) (rw (← reach-fold p q (folder f)) at h)
    where
      go : (x : Node) → Present (fold_node p x) → Present x
      go absent h = h
      go (file c) h = tt
      go (folder k) h = tt

  module _ (f : Forest) (F : FormedIn p f) (q : TreePath) (h : Present (at (folder (fold p f)) q)) where
    there : Present (reach p (folder f) q)
    there = present-reach f q h

    stands : Stands (table f) 0 0 root_name (folder f)
    unfolding table
    stands = record {
      rest = [];
      here = rows-flat (node_rows 0 root_name (folder f)) (wide-node_rows 0 root_name (folder f) refl (ruled-within 16 f F.within)) ∙ sym (append-nil (node_rows 0 root_name (folder f)));
      ended = tt;
    }

    -- the row is one of the table's
    pub row_is : row_in (folder (fold p f)) q < length (table f) / 20
    unfolding node_rows
    row_is = first (reach p (folder f) q) there (stands-reach p q (table f) 0 0 root_name (folder f) stands F.sorted there)
      where
        i : ℕ
        i = 0 + row_in (folder (fold p f)) q

        first : (x : Node) → Present x → Stands (table f) i (0 + length q) (own_name p root_name (folder f) q) x → row_in (folder (fold p f)) q < length (table f) / 20
        first absent y s = absurd y
        first (file c) y s = let t = (head (table f) i _ s.rest s.here).is in omega arith
        first (folder k) y s = let t = (head (table f) i _ (rows_of (suc (0 + length q)) k ++ s.rest) s.here).is in omega arith

    -- and it has the path, as the tree spells it
    pub path-of : path_of (table f) (row_in (folder (fold p f)) q) ≡ spelled_in p (folder f) q
    path-of =
        let e : 0 + row_in (folder (fold p f)) q ≡ row_in (folder (fold p f)) q = omega arith in
        rw e at (path-below q (table f) 0 0 root_name (folder f) stands F.sorted (ruled-within 16 f F.within) there) ∙ rw path-root

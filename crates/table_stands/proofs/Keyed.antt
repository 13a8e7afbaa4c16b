-- Where names are matched by a key: a path of keys leads, in the rows of a tree, to the row that it leads to in the tree of keys.
use mathlib.Core.Path.{◌≡◌, refl, sym, ap, ◌∙◌}
use mathlib.Core.List.{List, [], ◌∷◌, ◌++◌, append_assoc}
use native.Mathlib.Omega.{arith}
use native.Mathlib.Nat.{add-zero}
use lib.ListN.{length, drop}
use lib.Seq.{drop_at, drop-drop}
use Prim.Native.Nat.{ℕ, suc, ◌+◌, Ordering}
use Rattle.tree.specs.Name.{Name, cmp, by_order, if_same}
use Rattle.tree.specs.Forest.{TreePath, Forest, Forest.end, Forest.leaf, Forest.dir, Node, Node.absent, Node.file, Node.folder, Above, Sorted, SortedNode, Present, find, kids, at, add, size}
use Rattle.tree.specs.declared.Profile.{Profile}
use Rattle.tree.specs.Key.{key, fold, fold_node, fold_path, entry, spelling, respell}
use Rattle.tree.proofs.Keys.{key-idem}
use Rattle.tree.proofs.Forest.{find-above, above-trans, sorted-find}
use Rattle.tree.specs.Put.{update, put}
use Rattle.tree.proofs.Folds.{respell_node, fold-respell, fold-idem, fold-kids, key-spelling, respell-add, fold-absent, entry-fold, size-fold, reach, own_name, reach-absent}
use Rattle.tree.proofs.Respelled.{Sees, sees-rest, sees-head, respell-seen, fold-respell_node, fold_node-idem, respell_node-same}
use Rattle.table_row.specs.Table.{Row, rows}
use Rattle.table_row.specs.Tree.{folder_row, rows_of, node_rows}
use Rattle.table_row.proofs.Tree.{rows-add, length-rows}
use Rattle.table_stands.specs.Stands.{Stands}
use Rattle.table_stands.specs.Around.{before, row_in}
use Rattle.table_stands.proofs.Rows.{head}
use Rattle.table_stands.proofs.Forest.{ended-up, ended-rows}

module _ (p : Profile) where
  -- the siblings before the key n, and those behind it
  unfoldable pub before_key : Name → Forest → Forest
  before_key n end = end
  before_key n (leaf m c s) = by_order (cmp n (key p m)) end end (leaf m c (before_key n s))
  before_key n (dir m k s) = by_order (cmp n (key p m)) end end (dir m k (before_key n s))

  unfoldable pub behind_key : Name → Forest → Forest
  behind_key n end = end
  behind_key n (leaf m c s) = by_order (cmp n (key p m)) (leaf m c s) s (behind_key n s)
  behind_key n (dir m k s) = by_order (cmp n (key p m)) (dir m k s) s (behind_key n s)

  fold-before : (n : Name) (f : Forest) → fold p (before_key n f) ≡ before n (fold p f)
  unfolding fold before before_key
  fold-before n end = refl
  fold-before n (leaf m c s) = go (cmp n (key p m)) (fold-before n s)
    where
      go : (w : Ordering) → fold p (before_key n s) ≡ before n (fold p s) → fold p (by_order w end end (leaf m c (before_key n s))) ≡ by_order w end end (leaf (key p m) c (before n (fold p s)))
      go Ordering.lt e = refl
      go Ordering.eq e = refl
      go Ordering.gt e = rw e
  fold-before n (dir m k s) = go (cmp n (key p m)) (fold-before n s)
    where
      go : (w : Ordering) → fold p (before_key n s) ≡ before n (fold p s) → fold p (by_order w end end (dir m k (before_key n s))) ≡ by_order w end end (dir (key p m) (fold p k) (before n (fold p s)))
      go Ordering.lt e = refl
      go Ordering.eq e = refl
      go Ordering.gt e = rw e

  pub size-before : (n : Name) (f : Forest) → size (before_key n f) ≡ size (before n (fold p f))
  size-before n f = sym (size-fold p (before_key n f)) ∙ ap size (fold-before n f)

  -- one sibling, y called m, by the order of n and its key
  split_step : (d : ℕ) (n m : Name) (y : Node) (s : Forest) (w : Ordering) → (w ≡ Ordering.lt → entry p n s ≡ absent)
      → rows_of d s ≡ rows_of d (before_key n s) ++ (node_rows d (spelling p n s n) (entry p n s) ++ rows_of d (behind_key n s))
      → rows_of d (add m y s) ≡ rows_of d (by_order w end end (add m y (before_key n s)))
      ++ (node_rows d (if_same w m (spelling p n s n)) (if_same w y (entry p n s)) ++ rows_of d (by_order w (add m y s) s (behind_key n s)))
  unfolding rows_of node_rows
  split_step d n m y s Ordering.lt a e = rw (a refl)
  split_step d n m y s Ordering.eq a e = rows-add d m y s
  split_step d n m y s Ordering.gt a e = rw (rows-add d m y s, rows-add d m y (before_key n s), append_assoc) (ap (λ (x : List Row). node_rows d m y ++ x) e)

  pub under-head : (n m : Name) (s : Forest) → Above (key p m) (fold p s) → cmp n (key p m) ≡ Ordering.lt → entry p n s ≡ absent
  under-head n m s a e = fold-absent p (entry p n s) (entry-fold p n s ∙ find-above n (fold p s) (above-trans n (key p m) e (fold p s) a))

  pub rows_split : (d : ℕ) (n : Name) (f : Forest) → Sorted (fold p f)
      → rows_of d f ≡ rows_of d (before_key n f) ++ (node_rows d (spelling p n f n) (entry p n f) ++ rows_of d (behind_key n f))
  unfolding fold Sorted entry spelling before_key behind_key rows_of node_rows
  rows_split d n end h = refl
  rows_split d n (leaf m c s) h = split_step d n m (file c) s (cmp n (key p m)) (under-head n m s h.0) (rows_split d n s h.1)
  rows_split d n (dir m k s) h = split_step d n m (folder k) s (cmp n (key p m)) (under-head n m s h.0) (rows_split d n s h.2)

  pub stands-entry : (w : List ℕ) (f d : ℕ) (m : Name) (k : Forest) → Stands w f d m (folder k) → (n : Name) → Sorted (fold p k)
      → Stands w (f + 1 + size (before n (fold p k))) (suc d) (spelling p n k n) (entry p n k)
  unfolding node_rows
  stands-entry w f d m k s n h = record {
    rest = rows_of (suc d) (behind_key n k) ++ s.rest;
    here =
        let b = rows_of (suc d) (before_key n k) in
        let y = node_rows (suc d) (spelling p n k n) (entry p n k) in
        let z = rows_of (suc d) (behind_key n k) in
        sym (drop-drop (size (before n (fold p k))) (f + 1) (rows w))
        ∙ ap (drop (size (before n (fold p k)))) ((head w f (folder_row d m) (rows_of (suc d) k ++ s.rest) s.here).next ∙ ap (λ (rs : List Row). rs ++ s.rest) (rows_split (suc d) n k h) ∙ append_assoc b (y ++ z) s.rest)
        ∙ drop_at b ((y ++ z) ++ s.rest) (size (before n (fold p k))) (length-rows (suc d) (before_key n k) ∙ size-before n k)
        ∙ append_assoc y z s.rest;
    ended = ended-rows (suc d) (behind_key n k) s.rest (ended-up d s.rest s.ended);
  }

  pub stands-reach : (q : TreePath) (w : List ℕ) (i d : ℕ) (m : Name) (x : Node) → Stands w i d m x → SortedNode (fold_node p x) → Present (reach p x q)
      → Stands w (i + row_in (fold_node p x) q) (d + length q) (own_name p m x q) (reach p x q)
  unfolding reach row_in own_name entry
  stands-reach [] w i d m x s o h = rw (add-zero i, add-zero d) s
  stands-reach (n ∷ q) w i d m absent s o h = absurd (rw (reach-absent p q) at h)
  stands-reach (n ∷ q) w i d m (file c) s o h = absurd (rw (reach-absent p q) at h)
  stands-reach (n ∷ q) w i d m (folder k) s o h =
      let e = entry-fold p n k in
      let a : i + suc (size (before n (fold p k)) + row_in (find n (fold p k)) q) ≡ i + 1 + size (before n (fold p k)) + row_in (find n (fold p k)) q = omega arith in
      let b : d + suc (length q) ≡ suc d + length q = omega arith in
      rw (a, b, ← e)
      (stands-reach q w (i + 1 + size (before n (fold p k))) (suc d) (spelling p n k n) (entry p n k) (stands-entry w i d m k s n o) (rw e (sorted-find n (fold p k) o)) h)

  -- A MOVE: one entry of t changed, all spelled by t and where t has none by s; the other rows stay as they are
  module _ (s t : Forest) (k : Name) (key-k : key p k ≡ k) (x : Node) (d : ℕ) where
    abbrev moved_name : Name
    moved_name = spelling p k t (spelling p k s k)

    abbrev moved_entry : Node
    moved_entry = respell_node p (entry p k t) (respell_node p (entry p k s) x)

    put-rows : (v : Forest) → rows_of d (respell p t (respell p s (add k x v))) ≡ node_rows d moved_name moved_entry ++ rows_of d (respell p t (respell p s v))
    put-rows v =
        rw (respell-add p s k x v, respell-add p t (spelling p (key p k) s k) (respell_node p (entry p (key p k) s) x) (respell p s v), key-spelling p (key p k) s k refl, key-k)
        (rows-add d moved_name moved_entry (respell p t (respell p s v)))

    -- entries of t that are not changed
    stays : (u : Forest) → Sees p t u → Sorted (fold p u) → respell p t (respell p s (fold p u)) ≡ u
    stays u e a = respell-seen p t u (respell p s (fold p u)) e a (sym (fold-respell p s (fold p u) ∙ fold-idem p u))

    stays-head : (m : Name) (y : Node) (u v : Forest) → Present y → SortedNode (fold_node p y) → Sees p t (add m y u)
        → respell p t (respell p s (add (key p m) (fold_node p y) v)) ≡ add m y (respell p t (respell p s v))
    stays-head m y u v h a e =
        let i : key p (spelling p (key p (key p m)) s (key p m)) ≡ key p m = key-spelling p (key p (key p m)) s (key p m) refl ∙ key-idem p m in
        let g = sees-head p t m y u h e (key p m) (spelling p (key p (key p m)) s (key p m)) refl in
        rw (respell-add p s (key p m) (fold_node p y) v, respell-add p t (spelling p (key p (key p m)) s (key p m)) (respell_node p (entry p (key p (key p m)) s) (fold_node p y)) (respell p s v), i, g.0, g.1)
        (ap (λ (z : Node). add m z (respell p t (respell p s v)))
        (respell_node-same p y (respell_node p (entry p (key p (key p m)) s) (fold_node p y)) a (sym (fold-respell_node p (entry p (key p (key p m)) s) (fold_node p y) ∙ fold_node-idem p y))))

    move_step : (m : Name) (y : Node) (u : Forest) → Present y → SortedNode (fold_node p y) → Above (key p m) (fold p u) → Sorted (fold p (add m y u)) → Sorted (fold p u) → Sees p t (add m y u)
        → rows_of d (respell p t (respell p s (update k x (fold p u)))) ≡ rows_of d (before_key k u) ++ (node_rows d moved_name moved_entry ++ rows_of d (behind_key k u))
        → (w : Ordering) → rows_of d (respell p t (respell p s (by_order w (add k x (fold p (add m y u))) (add k x (fold p u)) (add (key p m) (fold_node p y) (update k x (fold p u))))))
        ≡ rows_of d (by_order w end end (add m y (before_key k u))) ++ (node_rows d moved_name moved_entry ++ rows_of d (by_order w (add m y u) u (behind_key k u)))
    unfolding rows_of
    move_step m y u h a b f g e ih Ordering.lt = put-rows (fold p (add m y u)) ∙ rw (stays (add m y u) e f)
    move_step m y u h a b f g e ih Ordering.eq = put-rows (fold p u) ∙ rw (stays u (sees-rest p t m y u h b e) g)
    move_step m y u h a b f g e ih Ordering.gt =
        rw (stays-head m y u (update k x (fold p u)) h a e, rows-add d m y (respell p t (respell p s (update k x (fold p u)))), rows-add d m y (before_key k u), append_assoc)
        (ap (λ (z : List Row). node_rows d m y ++ z) ih)

    rows_seen : (u : Forest) → Sees p t u → Sorted (fold p u)
        → rows_of d (respell p t (respell p s (update k x (fold p u)))) ≡ rows_of d (before_key k u) ++ (node_rows d moved_name moved_entry ++ rows_of d (behind_key k u))
    unfolding update fold Sorted before_key behind_key rows_of respell
    rows_seen end e a = put-rows end
    rows_seen (leaf m c u) e a =
        move_step m (file c) u tt tt a.0 a a.1 e (rows_seen u (sees-rest p t m (file c) u tt a.0 e) a.1) (cmp k (key p m))
    rows_seen (dir m j u) e a =
        move_step m (folder j) u tt a.1 a.0 a a.2 e (rows_seen u (sees-rest p t m (folder j) u tt a.0 e) a.2) (cmp k (key p m))

    pub rows-moved : Sorted (fold p t) → rows_of d (respell p t (respell p s (update k x (fold p t)))) ≡ rows_of d (before_key k t) ++ (node_rows d moved_name moved_entry ++ rows_of d (behind_key k t))
    rows-moved = rows_seen t (λ i j h. (refl, refl))

  -- the whole move, at one node after the other along the path
  abbrev pub moved_node : TreePath → Node → Node → Node
  moved_node q s t = respell_node p t (respell_node p s (put (fold_path p q) (at (fold_node p s) (fold_path p q)) (fold_node p t)))

  pub moved-end : (s t : Node) → SortedNode (fold_node p s) → moved_node [] s t ≡ respell_node p t s
  unfolding put at
  moved-end s t a = ap (respell_node p t) (respell_node-same p s (fold_node p s) a (sym (fold_node-idem p s)))

  pub moved-rows : (n : Name) (q : TreePath) (d : ℕ) (m : Name) (s : Node) (t : Forest) → Sorted (fold p t)
      → node_rows d m (moved_node (n ∷ q) s (folder t))
      ≡ folder_row d m ∷ (rows_of (suc d) (before_key (key p n) t)
      ++ (node_rows (suc d) (spelling p (key p n) t (spelling p (key p n) (kids s) (key p n))) (moved_node q (entry p (key p n) (kids s)) (entry p (key p n) t))
      ++ rows_of (suc d) (behind_key (key p n) t)))
  unfolding put at node_rows
  moved-rows n q d m s t a =
      ap (λ (z : List Row). folder_row d m ∷ z)
      (rows-moved (kids s) t (key p n) (key-idem p n) (put (fold_path p q) (at (find (key p n) (kids (fold_node p s))) (fold_path p q)) (find (key p n) (fold p t))) (suc d) a
      ∙ rw (← fold-kids p s, ← entry-fold p (key p n) (kids s), ← entry-fold p (key p n) t))

-- Where a name goes in a folder that stands in a table: to its place, if the folder has no entry of that name.
use Rattle.std.proofs.Common.{Option, Some, None}
use mathlib.Core.Path.{◌≡◌, refl, sym, ◌∙◌}
use mathlib.Core.List.{List, [], ◌∷◌, ◌++◌, append_assoc}
use native.Mathlib.Omega.{arith}
use native.Mathlib.Nat.{add_assoc}
use lib.ListN.{length, drop}
use lib.Seq.{drop-drop, drop-append-add}
use Prim.Native.Nat.{ℕ, suc, ◌+◌, ◌<◌, Ordering}
use borrow.Author.Tests.{lt-ltb, le-ltb}
use Rattle.tree.specs.Name.{Name, cmp, by_order, if_same}
use Rattle.tree.specs.Forest.{Forest, Forest.end, Forest.leaf, Forest.dir, Node, Node.absent, Node.file, Node.folder, Above, Sorted, add, find, size, Present}
use Rattle.tree.specs.Rules.{NameRule}
use Rattle.table_row.specs.Table.{Row, row_at, rows, name}
use Rattle.table_row.specs.Tree.{file_row, folder_row, rows_of, node_rows}
use Rattle.table_row.proofs.Tree.{length-rows}
use Rattle.table_find.specs.Entry.{place}
use Rattle.table_stands.specs.Stands.{Ended, Stands, Ruled}
use Rattle.table_stands.specs.Around.{before}
use Rattle.tree.proofs.Forest.{above-trans, find-above}
use Rattle.tree.proofs.Order.{cmp-eq, cmp-flip, cmp-trans}
use Rattle.tree.proofs.Size.{size-add, row_count}
use Rattle.table_stands.proofs.Rows.{Head, head}
use Rattle.table_stands.proofs.Forest.{file-name, folder-name}
use Rattle.table_stands.proofs.Entry.{folder-place, stands-child}
use Rattle.table_stands.proofs.Path.{ruled-find}
use Rattle.table_slot.specs.Insert.{against, spot_in, searched, spot_of, Last, Last.none, Last.entry}
use Rattle.table_slot.proofs.Search.{against-over, against-entry, against-deep}

-- row i, where nothing stands there yet
abbrev pub spot_at : Node → ℕ → Option ℕ
spot_at absent i = Some i
spot_at (file c) i = None
spot_at (folder k) i = None

taken : (x : Node) (i : ℕ) → Present x → spot_at x i ≡ None
taken absent i h = absurd h
taken (file c) i h = refl
taken (folder k) i h = refl

module _ (n : Name) (d : ℕ) where
  spot-ended : (i : ℕ) (rs : List Row) → Ended d rs → spot_in n d i rs ≡ Some i
  unfolding spot_in
  spot-ended i [] h = refl
  spot-ended i (r ∷ rs) h = rw (against-over d n r h)

  -- rows beneath the entries are passed
  spot-deep : (e i : ℕ) (f : Forest) (rs : List Row) → suc d < e → spot_in n d i (rows_of e f ++ rs) ≡ spot_in n d (i + size f) rs
  unfolding spot_in rows_of size
  spot-deep e i end rs h = let z : i + 0 ≡ i = omega arith in rw z
  spot-deep e i (leaf m c s) rs h =
      let z : suc i + size s ≡ i + suc (size s) = omega arith in
      rw (against-deep d n (file_row e m c) (omega arith) (omega arith), ← z) (spot-deep e (suc i) s rs h)
  spot-deep e i (dir m k s) rs h =
      let z : suc i + size k + size s ≡ i + suc (size k + size s) = omega arith in
      rw (against-deep d n (folder_row e m) (omega arith) (omega arith), append_assoc (rows_of (suc e) k) (rows_of e s) rs, ← z)
      (spot-deep (suc e) (suc i) k (rows_of e s ++ rs) (omega arith) ∙ spot-deep e (suc i + size k) s rs h)

  -- one sibling, y called m, by the order of n and m
  spot-step : (m : Name) (y : Node) (s : Forest) (i : ℕ) (t : Option ℕ) (o : Ordering) → cmp n m ≡ o → Present y → Above m s
      → t ≡ spot_at (find n s) (i + row_count y + size (before n s))
      → by_order o (Some i) None t ≡ spot_at (if_same o y (find n s)) (i + size (by_order o end end (add m y (before n s))))
  unfolding size
  spot-step m y s i t Ordering.lt e h a q = let z : i + 0 ≡ i = omega arith in rw (find-above n s (above-trans n m e s a), z)
  spot-step m y s i t Ordering.eq e h a q = sym (taken y (i + 0) h)
  spot-step m y s i t Ordering.gt e h a q = q ∙ rw (size-add m y (before n s), add_assoc)

  spot-rows : (i : ℕ) (f : Forest) (rs : List Row) → Ruled f → Sorted f → Ended d rs
      → spot_in n d i (rows_of (suc d) f ++ rs) ≡ spot_at (find n f) (i + size (before n f))
  unfolding spot_in rows_of size find before Ruled Sorted
  spot-rows i end rs r h e = let z : i + 0 ≡ i = omega arith in rw z (spot-ended i rs e)
  spot-rows i (leaf m c s) rs r h e =
      let z : i + 1 ≡ suc i = omega arith in
      rw (against-entry d n (file_row (suc d) m c) refl, file-name (suc d) m c r.0)
      (spot-step m (file c) s i _ (cmp n m) refl tt h.0 (rw z (spot-rows (suc i) s rs r.2 h.1 e)))
  spot-rows i (dir m k s) rs r h e =
      let z : i + suc (size k) ≡ suc i + size k = omega arith in
      rw (against-entry d n (folder_row (suc d) m) refl, folder-name (suc d) m r.0, append_assoc (rows_of (suc (suc d)) k) (rows_of (suc d) s) rs)
      (spot-step m (folder k) s i _ (cmp n m) refl tt h.0
      (rw z (spot-deep (suc (suc d)) (suc i) k (rows_of (suc d) s ++ rs) (omega arith) ∙ spot-rows (suc i + size k) s rs r.2 h.2 e)))

-- entries up to one whose name is less are passed, that one included
module _ (n a : Name) (d : ℕ) (past : cmp n a ≡ Ordering.gt) where
  further : (m : Name) → cmp a m ≡ Ordering.gt → cmp n m ≡ Ordering.gt
  further m e = rw (cmp-trans m a n (rw e at (cmp-flip a m)) (rw past at (cmp-flip n a))) at (cmp-flip m n)

  -- one sibling, y called m, with its rows: r and the b rows beneath it
  module _ (m : Name) (y : Node) (s : Forest) (r : Row) (beneath rs : List Row) (b i : ℕ) (is : against d n r ≡ cmp n m) (rows_of_lem : row_count y ≡ suc b) (long : length beneath ≡ b) (deep : spot_in n d (suc i) (beneath ++ rs) ≡ spot_in n d (suc i + b) rs) where
    first : cmp n m ≡ Ordering.gt → spot_in n d i (r ∷ (beneath ++ rs)) ≡ spot_in n d (suc i) (beneath ++ rs)
    unfolding spot_in
    first e = rw (is, e)

    pass_step : (o : Ordering) → cmp a m ≡ o → Above m s → Present (if_same o y (find a s))
        → (Present (find a s) → spot_in n d (suc i + b) rs ≡ spot_in n d (suc i + b + suc (size (before a s))) (drop (suc (size (before a s))) rs))
        → spot_in n d i (r ∷ (beneath ++ rs)) ≡ spot_in n d (i + suc (size (by_order o end end (add m y (before a s))))) (drop (size (by_order o end end (add m y (before a s)))) (beneath ++ rs))
    unfolding size
    pass_step Ordering.lt e h p f = absurd (rw (find-above a s (above-trans a m e s h)) at p)
    pass_step Ordering.eq e h p f = let z : i + 1 ≡ suc i = omega arith in rw z (first (rw (cmp-eq a m e) at past))
    pass_step Ordering.gt e h p f =
        let x = size (before a s) in
        let c : size (add m y (before a s)) ≡ b + suc x = size-add m y (before a s) ∙ rw rows_of_lem (omega arith) in
        let z : i + suc (b + suc x) ≡ suc i + b + suc x = omega arith in
        let q : drop (b + suc x) (beneath ++ rs) ≡ drop (suc x) rs = rw (← long) (drop-append-add beneath rs (suc x)) in
        rw (c, z, q) (first (further m e) ∙ deep ∙ f p)

  pass : (i : ℕ) (f : Forest) (rs : List Row) → Ruled f → Sorted f → Present (find a f)
      → spot_in n d i (rows_of (suc d) f ++ rs) ≡ spot_in n d (i + suc (size (before a f))) (drop (suc (size (before a f))) (rows_of (suc d) f ++ rs))
  unfolding rows_of find before Ruled Sorted
  pass i end rs r h p = absurd p
  pass i (leaf m c s) rs r h p =
      let e : against d n (file_row (suc d) m c) ≡ cmp n m = against-entry d n (file_row (suc d) m c) refl ∙ rw (file-name (suc d) m c r.0) in
      let z : suc i + 0 ≡ suc i = omega arith in
      pass_step m (file c) s (file_row (suc d) m c) [] (rows_of (suc d) s ++ rs) 0 i e refl refl (rw z) (cmp a m) refl h.0 p
      (λ q. pass (suc i + 0) s rs r.2 h.1 q)
  pass i (dir m k s) rs r h p =
      let e : against d n (folder_row (suc d) m) ≡ cmp n m = against-entry d n (folder_row (suc d) m) refl ∙ rw (folder-name (suc d) m r.0) in
      rw (append_assoc (rows_of (suc (suc d)) k) (rows_of (suc d) s) rs)
      (pass_step m (folder k) s (folder_row (suc d) m) (rows_of (suc (suc d)) k) (rows_of (suc d) s ++ rs) (size k) i e refl (length-rows (suc (suc d)) k)
      (spot-deep n d (suc (suc d)) (suc i) k (rows_of (suc d) s ++ rs) (omega arith)) (cmp a m) refl h.0 p (λ q. pass (suc i + size k) s rs r.2 h.2 q))

row-name : (w : List ℕ) (i d : ℕ) (a : Name) (x : Node) → Stands w i d a x → Present x → NameRule a → name (row_at w i) ≡ a
unfolding node_rows
row-name w i d a absent s p r = absurd p
row-name w i d a (file c) s p r = rw (head w i (file_row d a c) s.rest s.here).row (file-name d a c r)
row-name w i d a (folder k) s p r = rw (head w i (folder_row d a) (rows_of (suc d) k ++ s.rest) s.here).row (folder-name d a r)

module _ (w : List ℕ) (f d : ℕ) (m : Name) (k : Forest) (s : Stands w f d m (folder k)) (r : Ruled k) (h : Sorted k) (n : Name) where
  after : Head w f (folder_row d m) (rows_of (suc d) k ++ s.rest)
  unfolding node_rows
  after = head w f (folder_row d m) (rows_of (suc d) k ++ s.rest) s.here

  spot-all : searched w f n (f + 1) ≡ spot_at (find n k) (place w f n)
  spot-all =
      rw (after.row, after.next, folder-place w f d m k s n r) (spot-rows n d (f + 1) k s.rest r h s.ended)

  spot-later : (a : Name) → Present (find a k) → cmp n a ≡ Ordering.gt → searched w f n (f + 1 + size (before a k) + 1) ≡ searched w f n (f + 1)
  spot-later a p e =
      let z : f + 1 + size (before a k) + 1 ≡ f + 1 + suc (size (before a k)) = omega arith in
      rw (z, ← drop-drop (suc (size (before a k))) (f + 1) (rows w), after.row, after.next) (sym (pass n a d e (f + 1) k s.rest r h p))

  pub spot-found : (last : ℕ) → Last f k last → spot_of w f last n ≡ spot_at (find n k) (place w f n)
  unfolding spot_of
  spot-found last none = rw (le-ltb f f (omega arith)) spot-all
  spot-found last (entry a p) =
      let j = f + 1 + size (before a k) in
      let g : f < j = omega arith in
      rw (lt-ltb f j g, row-name w j (suc d) a (find a k) (stands-child w f d m k s a h) p (ruled-find a k r p).0) (go (cmp n a) refl)
    where
      go : (o : Ordering) → cmp n a ≡ o → searched w f n (by_order o (f + 1) (f + 1) (f + 1 + size (before a k) + 1)) ≡ spot_at (find n k) (place w f n)
      go Ordering.lt e = spot-all
      go Ordering.eq e = spot-all
      go Ordering.gt e = spot-later a p e ∙ spot-all

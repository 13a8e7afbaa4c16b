-- An entry of a folder that stands at a row: where it stands, that it is found, and its place.
use Rattle.std.proofs.Common.{None}
use mathlib.Core.Path.{◌≡◌, refl, sym, ap, ◌∙◌}
use mathlib.Core.List.{List, [], ◌∷◌, ◌++◌, append_assoc}
use mathlib.Core.Bool.{Bool, true, false, cond}
use native.Mathlib.Omega.{arith}
use native.Mathlib.Nat.{add-zero, add_assoc}
use native.Mathlib.Numerals.{add-one}
use lib.Dec.{compare_is_eq}
use lib.ListN.{drop}
use lib.Seq.{drop_at, drop-drop}
use Prim.Native.Nat.{ℕ, suc, ◌+◌, ◌<◌, Ordering}
use borrow.Author.Tests.{lt-ltb, le-ltb, eq-eqb, ne_eqb}
use Rattle.tree.specs.Name.{Name, cmp, by_order, if_same}
use Rattle.tree.specs.Forest.{Content, Forest, Forest.end, Forest.leaf, Forest.dir, Node, Node.absent, Node.file, Node.folder, Above, Sorted, add, find, size, Present}
use Rattle.tree.specs.Same.{same_words}
use Rattle.table_row.specs.Table.{Row, rows}
use Rattle.table_row.specs.Tree.{file_row, folder_row, rows_of, node_rows}
use Rattle.table_row.proofs.Tree.{length-rows}
use Rattle.table_find.specs.Subtree.{end_of}
use Rattle.table_find.specs.Entry.{Stop, Stop.entry, Stop.over, seek, among, found, row, child, up_to, place}
use Rattle.tree.proofs.Forest.{find-above, above-trans}
use Rattle.tree.proofs.Size.{size-add, row_count}
use Rattle.table_stands.specs.Stands.{Ended, Stands, found_at, Ruled}
use Rattle.table_stands.specs.Around.{before, behind, ended_by, entry_end}
use Rattle.table_stands.proofs.Rows.{Head, head}
use Rattle.table_stands.proofs.Forest.{ended-up, ended-rows, file-name, folder-name}
use Rattle.table_stands.proofs.Around.{rows_split}
use Rattle.table_stands.proofs.Subtree.{present-found, stands-end}

-- where a search among siblings stops, the first of which stands at row i
unfoldable stop : (Name → Bool) → ℕ → Forest → Stop
stop p i end = over i
stop p i (leaf m c s) = cond (p m) (entry i) (stop p (i + row_count (file c)) s)
stop p i (dir m k s) = cond (p m) (entry i) (stop p (i + row_count (folder k)) s)

module _ (p : Name → Bool) (d : ℕ) where
  seek-ended : (i : ℕ) (rs : List Row) → Ended d rs → seek p d i rs ≡ over i
  unfolding seek
  seek-ended i [] h = refl
  seek-ended i (r ∷ rs) h = rw (le-ltb _ _ h)

  -- rows beneath the entries are passed over
  seek-skip : (e i : ℕ) (f : Forest) (rs : List Row) → suc d < e → seek p d i (rows_of e f ++ rs) ≡ seek p d (i + size f) rs
  unfolding seek rows_of size
  seek-skip e i end rs h = let z : i + 0 ≡ i = omega arith in rw z
  seek-skip e i (leaf n c s) rs h =
      let z : suc i + size s ≡ i + suc (size s) = omega arith in
      rw (lt-ltb d e (omega arith), ne_eqb e (suc d) (omega arith), ← z) (seek-skip e (suc i) s rs h)
  seek-skip e i (dir n k s) rs h =
      let z : suc i + size k + size s ≡ i + suc (size k + size s) = omega arith in
      rw (lt-ltb d e (omega arith), ne_eqb e (suc d) (omega arith), append_assoc (rows_of (suc e) k) (rows_of e s) rs, ← z)
      (seek-skip (suc e) (suc i) k (rows_of e s ++ rs) (omega arith) ∙ seek-skip e (suc i + size k) s rs h)

  seek-rows : (i : ℕ) (f : Forest) (rs : List Row) → Ruled f → Ended d rs → seek p d i (rows_of (suc d) f ++ rs) ≡ stop p i f
  unfolding seek rows_of stop Ruled
  seek-rows i end rs r h = seek-ended i rs h
  seek-rows i (leaf n c s) rs r h =
      rw (lt-ltb d (suc d) (omega arith), eq-eqb (suc d) (suc d) refl, file-name (suc d) n c r.0, ← add-one i, seek-rows (i + 1) s rs r.2 h)
  seek-rows i (dir n k s) rs r h =
      let z : suc i + size k ≡ i + suc (size k) = omega arith in
      rw (
        lt-ltb d (suc d) (omega arith),
        eq-eqb (suc d) (suc d) refl,
        folder-name (suc d) n r.0,
        append_assoc (rows_of (suc (suc d)) k) (rows_of (suc d) s) rs,
        seek-skip (suc (suc d)) (suc i) k (rows_of (suc d) s ++ rs) (omega arith),
        z,
        seek-rows (i + suc (size k)) s rs r.2 h,
      )

-- a search by the name n among siblings: one of them, y called m, by the order of n and m
module _ (n m : Name) (y : Node) (s : Forest) (i : ℕ) where
  called-step : (t : Stop) (o : Ordering) → cmp n m ≡ o → Present y → Above m s → found t ≡ found_at (find n s) (i + row_count y + size (before n s))
      → found (cond (compare_is_eq o) (entry i) t) ≡ found_at (if_same o y (find n s)) (i + size (by_order o end end (add m y (before n s))))
  unfolding size
  called-step t Ordering.lt e h a q = q ∙ rw (find-above n s (above-trans n m e s a))
  called-step t Ordering.eq e h a q = sym (present-found y (i + 0) h ∙ rw (add-zero i))
  called-step t Ordering.gt e h a q = q ∙ rw (size-add m y (before n s), add_assoc)

  place-step : (t : Stop) (o : Ordering) → row t ≡ i + row_count y + size (before n s)
      → row (cond (by_order o true true false) (entry i) t) ≡ i + size (by_order o end end (add m y (before n s)))
  unfolding size
  place-step t Ordering.lt q = omega arith
  place-step t Ordering.eq q = omega arith
  place-step t Ordering.gt q = q ∙ rw (size-add m y (before n s), add_assoc)

stop-called : (n : Name) (i : ℕ) (f : Forest) → Sorted f → found (stop (same_words n) i f) ≡ found_at (find n f) (i + size (before n f))
unfolding stop same_words find before size Sorted
stop-called n i end h = refl
stop-called n i (leaf m c s) h = called-step n m (file c) s i (stop (same_words n) (i + 1) s) (cmp n m) refl tt h.0 (stop-called n (i + 1) s h.1)
stop-called n i (dir m k s) h = called-step n m (folder k) s i (stop (same_words n) (i + suc (size k)) s) (cmp n m) refl tt h.0 (stop-called n (i + suc (size k)) s h.2)

stop-place : (n : Name) (i : ℕ) (f : Forest) → row (stop (up_to n) i f) ≡ i + size (before n f)
unfolding stop before size
stop-place n i end = omega arith
stop-place n i (leaf m c s) = place-step n m (file c) s i (stop (up_to n) (i + 1) s) (cmp n m) (stop-place n (i + 1) s)
stop-place n i (dir m k s) = place-step n m (folder k) s i (stop (up_to n) (i + suc (size k)) s) (cmp n m) (stop-place n (i + suc (size k)) s)

end-at : (w : List ℕ) (i : ℕ) (y : Node) → (Present y → end_of w i ≡ i + row_count y) → ended_by w (found_at y i) i ≡ i + row_count y
end-at w i absent h = omega arith
end-at w i (file c) h = h tt
end-at w i (folder k) h = h tt

-- a file has no entries
pub file-child : (w : List ℕ) (f d : ℕ) (m n : Name) (c : Content) → Stands w f d m (file c) → child w f n ≡ None
unfolding child node_rows
file-child w f d m n c s =
    let h = head w f (file_row d m c) s.rest s.here in
    rw (h.row, h.next) (ap found (seek-ended (same_words n) d (f + 1) s.rest s.ended))

module _ (w : List ℕ) (f d : ℕ) (m : Name) (k : Forest) (s : Stands w f d m (folder k)) where
  after : Head w f (folder_row d m) (rows_of (suc d) k ++ s.rest)
  unfolding node_rows
  after = head w f (folder_row d m) (rows_of (suc d) k ++ s.rest) s.here

  among-stop : (p : Name → Bool) → Ruled k → among p w f ≡ stop p (f + 1) k
  among-stop p r = rw (after.row, after.next) (seek-rows p d (f + 1) k s.rest r s.ended)

  module _ (n : Name) where
    -- the entry called n is found where it stands, and nothing where the folder has none
    pub folder-child : Ruled k → Sorted k → child w f n ≡ found_at (find n k) (f + 1 + size (before n k))
    unfolding child
    folder-child r h = ap found (among-stop (same_words n) r) ∙ stop-called n (f + 1) k h

    pub folder-place : Ruled k → place w f n ≡ f + 1 + size (before n k)
    unfolding place
    folder-place r = ap row (among-stop (up_to n) r) ∙ stop-place n (f + 1) k

    pub stands-child : Sorted k → Stands w (f + 1 + size (before n k)) (suc d) n (find n k)
    stands-child h = record {
      rest = rows_of (suc d) (behind n k) ++ s.rest;
      here =
          let b = rows_of (suc d) (before n k) in
          let y = node_rows (suc d) n (find n k) in
          let z = rows_of (suc d) (behind n k) in
          sym (drop-drop (size (before n k)) (f + 1) (rows w))
          ∙ ap (drop (size (before n k))) (after.next ∙ ap (λ (rs : List Row). rs ++ s.rest) (rows_split (suc d) n k h) ∙ append_assoc b (y ++ z) s.rest)
          ∙ drop_at b ((y ++ z) ++ s.rest) (size (before n k)) (length-rows (suc d) (before n k))
          ∙ append_assoc y z s.rest;
      ended = ended-rows (suc d) (behind n k) s.rest (ended-up d s.rest s.ended);
    }

    -- where it ends; where it is absent that is its place
    pub folder-end : Ruled k → Sorted k → entry_end w f n ≡ f + 1 + size (before n k) + row_count (find n k)
    folder-end r h = rw (folder-child r h, folder-place r) (end-at w (f + 1 + size (before n k)) (find n k) (stands-end w (f + 1 + size (before n k)) (suc d) n (find n k) (stands-child h)))

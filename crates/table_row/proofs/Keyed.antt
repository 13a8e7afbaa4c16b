-- The tree of a table of keys is the tree of keys.
use mathlib.Core.Path.{◌≡◌, refl, ap, sym, ◌∙◌}
use mathlib.Core.List.{List, [], ◌∷◌, ◌++◌, map, append-nil, append_assoc}
use mathlib.Core.Bool.{Bool, true, false, cond}
use native.Mathlib.Omega.{arith}
use native.Mathlib.Nat.{zero-add}
use lib.Dec.{eqb}
use lib.ListN.{length, take, drop, length-append, length-take, length-drop, take-append-drop, drop_of_length-le}
use lib.Seq.{take_at, take-append-le, drop_at, drop-drop, drop-append-le, drop-append-add}
use Prim.Native.Nat.{ℕ, zero, suc, ◌+◌, ◌*◌, ◌/◌, ◌%◌, ◌≤◌, compare, Ordering}
use Rattle.tree.specs.Name.{Name, by_order}
use Rattle.tree.specs.Forest.{Content, Forest, Forest.end, Forest.leaf, Forest.dir, Node.folder}
use Rattle.tree.specs.Rules.{NameRule, ContentRule, Within, zeros}
use Rattle.tree.specs.declared.Profile.{Profile}
use Rattle.tree.specs.declared.Profile.TheVariants.{Exact}
use Rattle.tree.specs.Key.{key, fold}
use Rattle.tree.proofs.Keys.{length-key, zeros-key}
use Rattle.table_row.specs.Table.{Row, row_at, rows_n, rows, flat, depth, kind, name, content}
use Rattle.table_row.specs.Tree.{file_row, folder_row, rows_of, node_rows, root_name, table, entry_of, siblings, tree_of}
use Rattle.table_row.specs.Keyed.{keyed_row, keyed}
use Rattle.table_row.specs.Buffer.{written, over}
use Rattle.table_row.proofs.Table.{length-rows_n}
use Rattle.table_row.proofs.Buffer.{written-first, written-second}
use Rattle.table_row.proofs.Flat.{Whole, rows-flat, length-flat, flat_rows, whole-rows}
use Rattle.table_row.proofs.Tree.{whole-rows_of}

-- the rows of any words are whole
pub all_whole : (n : ℕ) (w : List ℕ) → 20 * n ≤ length w → Whole (rows_n n w)
unfolding rows_n Whole
all_whole zero w h = tt
all_whole (suc n) w h = (simp length-take (omega arith), all_whole n (drop 20 w) (simp length-drop (omega arith)))

-- what a row of a key holds
pub record HasKey (p : Profile) (r : Row) : Type 0 where
  pub twenty : length (keyed_row p r) ≡ 20
  pub depth_is : depth (keyed_row p r) ≡ depth r
  pub kind-is : kind (keyed_row p r) ≡ kind r
  pub name-is : name (keyed_row p r) ≡ key p (name r)
  pub rest-is : drop 10 (keyed_row p r) ≡ drop 10 r

module _ (p : Profile) where
  pub has_key : (r : Row) → length r ≡ 20 → HasKey p r
  has_key [] h = absurd (omega arith)
  has_key (a ∷ []) h = absurd (omega arith)
  has_key (a ∷ b ∷ s) h =
      let e : length (key p (take 8 s)) ≡ 8 = length-key p (take 8 s) ∙ simp length-take (omega arith) in
      record {
        twenty = omega (arith, length-append (key p (take 8 s)) (drop 8 s), length-drop 8 s);
        depth_is = refl;
        kind-is = refl;
        name-is = take_at (key p (take 8 s)) (drop 8 s) 8 e;
        rest-is = drop_at (key p (take 8 s)) (drop 8 s) 8 e;
      }

  pub whole-keyed : (rs : List Row) → Whole rs → Whole (map (keyed_row p) rs)
  unfolding Whole
  whole-keyed [] h = tt
  whole-keyed (r ∷ rs) h = ((has_key r h.0).twenty, whole-keyed rs h.1)

  pub rows-keyed : (w : List ℕ) → rows (keyed p w) ≡ map (keyed_row p) (rows w)
  unfolding keyed
  rows-keyed w = rows-flat (map (keyed_row p) (rows w)) (whole-keyed (rows w) (all_whole (length w / 20) w (omega arith)))

  -- one row more
  keyed-next : (n : ℕ) (w : List ℕ) → flat (map (keyed_row p) (rows_n (suc n) w)) ≡ flat (map (keyed_row p) (rows_n n w)) ++ keyed_row p (row_at w n)
  unfolding rows_n flat
  keyed-next zero w = append-nil (keyed_row p (take 20 w))
  keyed-next (suc n) w =
      let e : 20 + 20 * n ≡ 20 * suc n = omega arith in
      ap (λ (x : List ℕ). keyed_row p (take 20 w) ++ x) (keyed-next n (drop 20 w)) ∙ rw (drop-drop (20 * n) 20 w, e) (sym (append_assoc (keyed_row p (take 20 w)) (flat (map (keyed_row p) (rows_n n (drop 20 w)))) (keyed_row p (row_at w (suc n)))))

  length-map : (rs : List Row) → length (map (keyed_row p) rs) ≡ length rs
  length-map [] = refl
  length-map (r ∷ rs) = ap suc (length-map rs)

  length-keyed_n : (n : ℕ) (w : List ℕ) → 20 * n ≤ length w → length (flat (map (keyed_row p) (rows_n n w))) ≡ 20 * n
  length-keyed_n n w h = omega (arith, length-flat (map (keyed_row p) (rows_n n w)) (whole-keyed (rows_n n w) (all_whole n w h)), length-map (rows_n n w), length-rows_n n w)

  pub length-keyed : (w : List ℕ) → length w % 20 ≡ 0 → length (keyed p w) ≡ length w
  unfolding keyed
  length-keyed w h = omega (arith, length-keyed_n (length w / 20) w (omega arith))

  -- the key of a row's name written into the row, which stands among other words
  module _ (x r y z : List ℕ) (h : length r ≡ 20) where
    abbrev all : List ℕ
    all = x ++ (r ++ y) ++ z

    name_in : take 8 (drop (length x + 2) all) ≡ name r
    name_in =
        rw (append_assoc x (r ++ y) z, drop-append-add, append_assoc r y z, drop-append-le 2 r (y ++ z) (omega arith), take-append-le 8 (drop 2 r) (y ++ z) (simp length-drop (omega arith)))

    key_in : written all (length x + 2) (key p (take 8 (drop (length x + 2) all))) ≡ x ++ (keyed_row p r ++ y) ++ z
    unfolding written
    key_in =
        let n = key p (name r) in
        let e : length n ≡ 8 = length-key p (name r) ∙ simp (length-take, length-drop) (omega arith) in
        let f : length x + 2 + length n ≤ length (x ++ (r ++ y)) = omega (arith, length-append x (r ++ y), length-append r y) in
        let g : written r 2 n ≡ keyed_row p r = rw e in
        rw name_in (written-first (x ++ (r ++ y)) z n (length x + 2) f ∙ rw (written-second x (r ++ y) n (length x + 2) 2 refl, written-first r y n 2 (omega arith), g))

  -- the first n rows keyed and the others as they are, before other words
  abbrev pub mixed : ℕ → List ℕ → List ℕ → List ℕ
  mixed n w z = flat (map (keyed_row p) (rows_n n w)) ++ drop (20 * n) w ++ z

  pub mixed-next : (n : ℕ) (w z : List ℕ) → 20 * n + 20 ≤ length w
      → written (mixed n w z) (20 * n + 2) (key p (take 8 (drop (20 * n + 2) (mixed n w z)))) ≡ mixed (suc n) w z
  mixed-next n w z h =
      let x = flat (map (keyed_row p) (rows_n n w)) in
      let r = row_at w n in
      let y = drop (20 * suc n) w in
      let m : 20 * n + 20 ≡ 20 * suc n = omega arith in
      let e : drop (20 * n) w ≡ r ++ y = sym (take-append-drop 20 (drop (20 * n) w)) ∙ rw (drop-drop 20 (20 * n) w, m) in
      let l : length x ≡ 20 * n = length-keyed_n n w (omega arith) in
      let k = key_in x r y z (simp (length-take, length-drop) (omega arith)) in
      rw (e, keyed-next n w, append_assoc x (keyed_row p r) y) (rw l at k)

  pub mixed-none : (d w : List ℕ) → written d 0 w ≡ mixed 0 w (drop (length w) d)
  unfolding written rows_n flat
  mixed-none d w = rw zero-add

  pub mixed-all : (d w : List ℕ) → length w % 20 ≡ 0 → mixed (length w / 20) w (drop (length w) d) ≡ over d (keyed p w)
  unfolding over keyed
  mixed-all d w h = rw (drop_of_length-le w {i = 20 * (length w / 20)} (omega arith), append-nil, length-keyed w h)

  -- the keys at the start of an array
  pub keys-front : (d w : List ℕ) → length w % 20 ≡ 0 → take (length w) (over d (keyed p w)) ≡ keyed p w
  unfolding over
  keys-front d w h = take_at (keyed p w) (drop (length (keyed p w)) d) (length w) (length-keyed w h)

  entry-keyed : (r : Row) → length r ≡ 20 → (k s : Forest) → entry_of (keyed_row p r) (fold p k) (fold p s) ≡ fold p (entry_of r k s)
  unfolding fold
  entry-keyed r h k s = let K = has_key r h in rw (K.kind-is, K.name-is, K.rest-is) (go (eqb (kind r) 0))
    where
      go : (b : Bool) → cond b (dir (key p (name r)) (fold p k) (fold p s)) (leaf (key p (name r)) (content r) (fold p s)) ≡ fold p (cond b (dir (name r) k s) (leaf (name r) (content r) s))
      go true = refl
      go false = refl

  pub siblings-keyed : (d : ℕ) (rs : List Row) → Whole rs → siblings d (map (keyed_row p) rs) ≡ fold p (siblings d rs)
  unfolding siblings fold Whole
  siblings-keyed d [] h = refl
  siblings-keyed d (r ∷ rs) h =
      rw ((has_key r h.0).depth_is, siblings-keyed d rs h.1, siblings-keyed (suc d) rs h.1, entry-keyed r h.0 (siblings (suc d) rs) (siblings d rs)) (go (compare (depth r) d))
    where
      go : (w : Ordering) → by_order w end (fold p (entry_of r (siblings (suc d) rs) (siblings d rs))) (fold p (siblings d rs)) ≡ fold p (by_order w end (entry_of r (siblings (suc d) rs) (siblings d rs)) (siblings d rs))
      go Ordering.lt = refl
      go Ordering.eq = refl
      go Ordering.gt = refl

  whole_drop : (rs : List Row) → Whole rs → Whole (drop 1 rs)
  unfolding Whole
  whole_drop [] h = tt
  whole_drop (r ∷ rs) h = h.1

  drop-map : (rs : List Row) → drop 1 (map (keyed_row p) rs) ≡ map (keyed_row p) (drop 1 rs)
  drop-map [] = refl
  drop-map (r ∷ rs) = refl

  -- THE TREE OF A TABLE OF KEYS
  pub tree-keyed : (w : List ℕ) → tree_of (keyed p w) ≡ fold p (tree_of w)
  unfolding tree_of
  tree-keyed w =
      ap (λ (rs : List Row). siblings 1 (drop 1 rs)) (rows-keyed w) ∙ rw (drop-map (rows w))
      (siblings-keyed 1 (drop 1 (rows w)) (whole_drop (rows w) (all_whole (length w / 20) w (omega arith))))

  -- a tree's rows
  folder-keyed : (d : ℕ) (n : Name) → length n ≡ 8 → keyed_row p (folder_row d n) ≡ folder_row d (key p n)
  folder-keyed d n h = let z : List ℕ = 0 ∷ 0 ∷ 0 ∷ 0 ∷ 0 ∷ 0 ∷ 0 ∷ 0 ∷ 0 ∷ 0 ∷ [] in rw (take_at n z 8 h, drop_at n z 8 h)

  file-keyed : (d : ℕ) (n : Name) → length n ≡ 8 → (c : Content) → keyed_row p (file_row d n c) ≡ file_row d (key p n) c
  file-keyed d n h c = rw (take_at n (drop 1 c) 8 h, drop_at n (drop 1 c) 8 h)

  map-append : (rs qs : List Row) → map (keyed_row p) (rs ++ qs) ≡ map (keyed_row p) rs ++ map (keyed_row p) qs
  map-append [] qs = refl
  map-append (r ∷ rs) qs = ap (λ (x : List Row). keyed_row p r ∷ x) (map-append rs qs)

  pub rows_of-keyed : (k d : ℕ) (f : Forest) → Within NameRule ContentRule k f → map (keyed_row p) (rows_of d f) ≡ rows_of d (fold p f)
  unfolding rows_of fold Within
  rows_of-keyed k d end w = refl
  rows_of-keyed zero d (leaf n c s) w = absurd w
  rows_of-keyed (suc k) d (leaf n c s) w = rw (file-keyed d n w.0.eight c, rows_of-keyed (suc k) d s w.2)
  rows_of-keyed zero d (dir n j s) w = absurd w
  rows_of-keyed (suc k) d (dir n j s) w =
      rw (folder-keyed d n w.0.eight, map-append (rows_of (suc d) j) (rows_of d s), rows_of-keyed k (suc d) j w.1, rows_of-keyed (suc k) d s w.2)

  pub root-keyed : (f : Forest) → Within NameRule ContentRule 16 f → map (keyed_row p) (node_rows 0 root_name (folder f)) ≡ node_rows 0 root_name (folder (fold p f))
  unfolding node_rows zeros
  root-keyed f w = rw (zeros-key p root_name refl, rows_of-keyed 16 1 f w)

  -- THE TABLE OF A TREE OF KEYS
  pub table-keyed : (f : Forest) → Within NameRule ContentRule 16 f → keyed p (table f) ≡ table (fold p f)
  unfolding keyed table Whole node_rows
  table-keyed f w =
      ap (λ (rs : List Row). flat (map (keyed_row p) rs)) (rows-flat (node_rows 0 root_name (folder f)) (refl, whole-rows_of 16 1 f w))
      ∙ ap flat (root-keyed f w)

-- where every byte counts a table is its own table of keys
own_row : (r : Row) → length r ≡ 20 → keyed_row Exact r ≡ r
unfolding key
own_row [] e = absurd (omega arith)
own_row (a ∷ []) e = absurd (omega arith)
own_row (a ∷ b ∷ s) e = ap (λ (x : Row). a ∷ b ∷ x) (take-append-drop 8 s)

own-rows : (rs : List Row) → Whole rs → map (keyed_row Exact) rs ≡ rs
unfolding Whole
own-rows [] h = refl
own-rows (r ∷ rs) h = rw (own_row r h.0, own-rows rs h.1)

pub keyed-exact : (w : List ℕ) → length w % 20 ≡ 0 → keyed Exact w ≡ w
unfolding keyed
keyed-exact w h = ap flat (own-rows (rows w) (whole-rows w h)) ∙ flat_rows w h

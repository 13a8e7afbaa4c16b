-- The table of a tree, read back: the rows of siblings give the siblings.
use mathlib.Core.Path.{◌≡◌, refl, sym, ap, ◌∙◌}
use mathlib.Core.List.{List, [], ◌∷◌, ◌++◌, append_assoc, append-nil}
use native.Mathlib.Omega.{arith}
use lib.ListN.{length, drop, length-append, length-drop}
use lib.Seq.{drop-cons, take_at, drop_at}
use Prim.Native.Nat.{ℕ, zero, suc, ◌*◌, ◌<◌}
use borrow.Author.Tests.{ne_eqb}
use Rattle.tree.specs.Name.{Name}
use Rattle.tree.specs.Forest.{Content, Forest, Forest.end, Forest.leaf, Forest.dir, Node, Node.absent, Node.file, Node.folder, add, size}
use Rattle.tree.specs.Rules.{NameRule, ContentRule, Within}
use Rattle.tree.proofs.Order.{compare_refl, compare-below, compare-above}
use Rattle.tree.proofs.Rules.{WithinNode}
use Rattle.table_row.specs.Table.{Row, rows, depth, kind, name, content}
use Rattle.table_row.specs.Tree.{file_row, folder_row, rows_of, node_rows, root_name, table, entry_of, siblings, tree_of}
use Rattle.table_row.proofs.Flat.{Whole, whole_append, length-flat, rows-flat}

-- the size of a forest is the number of its rows
pub length-rows : (d : ℕ) (f : Forest) → length (rows_of d f) ≡ size f
unfolding rows_of size
length-rows d end = refl
length-rows d (leaf n c s) = ap suc (length-rows d s)
length-rows d (dir n k s) =
    ap suc (length-append (rows_of (suc d) k) (rows_of d s) ∙ rw (length-rows (suc d) k, length-rows d s))

-- the rows of what stands at one place, before those of its later siblings
pub rows-add : (d : ℕ) (n : Name) (x : Node) (s : Forest) → rows_of d (add n x s) ≡ node_rows d n x ++ rows_of d s
unfolding rows_of node_rows
rows-add d n absent s = refl
rows-add d n (file c) s = refl
rows-add d n (folder k) s = refl

-- rows have twenty words
module _ (d : ℕ) {n : Name} (N : NameRule n) where
  pub length-folder_row : length (folder_row d n) ≡ 20
  length-folder_row = omega (arith, length-append n (0 ∷ 0 ∷ 0 ∷ 0 ∷ 0 ∷ 0 ∷ 0 ∷ 0 ∷ 0 ∷ 0 ∷ []), N.eight)

  pub length-file_row : {c : Content} → ContentRule c → length (file_row d n c) ≡ 20
  length-file_row {c} C = omega (arith, length-append n (drop 1 c), length-drop 1 c, N.eight, C.eleven)

  -- what they hold
  pub name-folder : name (folder_row d n) ≡ n
  name-folder = take_at n (0 ∷ 0 ∷ 0 ∷ 0 ∷ 0 ∷ 0 ∷ 0 ∷ 0 ∷ 0 ∷ 0 ∷ []) 8 N.eight

  pub name-file : (c : Content) → name (file_row d n c) ≡ n
  name-file c = take_at n (drop 1 c) 8 N.eight

  pub content-file : {c : Content} → ContentRule c → content (file_row d n c) ≡ c
  content-file {c} C = rw (drop_at n (drop 1 c) 8 N.eight) (sym (drop-cons c 0 0 (omega (arith, C.eleven))))

  -- read as entries
  pub entry-folder : (k s : Forest) → entry_of (folder_row d n) k s ≡ dir n k s
  entry-folder k s = rw name-folder

  pub entry-file : {c : Content} → ContentRule c → (k s : Forest) → entry_of (file_row d n c) k s ≡ leaf n c s
  entry-file {c} C k s =
      let h : kind (file_row d n c) ≡ 0 → ⊥ = omega (arith, C.kind) in
      rw (ne_eqb _ _ h, name-file c, content-file C)

pub whole-rows_of : (k d : ℕ) (f : Forest) → Within NameRule ContentRule k f → Whole (rows_of d f)
unfolding Within rows_of Whole
whole-rows_of k d end w = tt
whole-rows_of zero d (leaf n c s) w = absurd w
whole-rows_of (suc k) d (leaf n c s) w = (length-file_row d w.0 w.1, whole-rows_of (suc k) d s w.2)
whole-rows_of zero d (dir n j s) w = absurd w
whole-rows_of (suc k) d (dir n j s) w =
    (length-folder_row d w.0, whole_append (rows_of (suc d) j) (rows_of d s) (whole-rows_of k (suc d) j w.1) (whole-rows_of (suc k) d s w.2))

-- the rows, if there are any, start with one less deep than d: the folder whose entries stand at depth d has ended
unfoldable pub Ended : ℕ → List Row → Type 0
Ended d [] = Unit {0}
Ended d (r ∷ rs) = depth r < d

pub siblings-ended : (d : ℕ) (rs : List Row) → Ended d rs → siblings d rs ≡ end
unfolding siblings Ended
siblings-ended d [] h = refl
siblings-ended d (r ∷ rs) h = rw (compare-below (depth r) d h)

pub ended-rows : (d e : ℕ) (f : Forest) (rs : List Row) → d < e → Ended e rs → Ended e (rows_of d f ++ rs)
unfolding rows_of Ended
ended-rows d e end rs h g = g
ended-rows d e (leaf n c s) rs h g = h
ended-rows d e (dir n k s) rs h g = h

pub ended-deeper : (d : ℕ) (rs : List Row) → Ended d rs → Ended (suc d) rs
unfolding Ended
ended-deeper d [] h = tt
ended-deeper d (r ∷ rs) h = omega arith

-- a subtree's rows are skipped by a reader less deep
pub siblings-skip : (d e : ℕ) (f : Forest) (rs : List Row) → d < e → siblings d (rows_of e f ++ rs) ≡ siblings d rs
unfolding siblings rows_of
siblings-skip d e end rs h = refl
siblings-skip d e (leaf n c s) rs h = rw (compare-above e d h) (siblings-skip d e s rs h)
siblings-skip d e (dir n k s) rs h =
    rw (compare-above e d h, append_assoc (rows_of (suc e) k) (rows_of e s) rs)
    (siblings-skip d (suc e) k (rows_of e s ++ rs) (omega arith) ∙ siblings-skip d e s rs h)

-- the siblings at the front of the rows of f are f
pub siblings-rows : (k d : ℕ) (f : Forest) (rs : List Row) → Within NameRule ContentRule k f → Ended d rs → siblings d (rows_of d f ++ rs) ≡ f
unfolding siblings rows_of Within
siblings-rows k d end rs w h = siblings-ended d rs h
siblings-rows zero d (leaf n c s) rs w h = absurd w
siblings-rows (suc k) d (leaf n c s) rs w h =
    rw (compare_refl d, entry-file d w.0 w.1) (ap (leaf n c) (siblings-rows (suc k) d s rs w.2 h))
siblings-rows zero d (dir n j s) rs w h = absurd w
siblings-rows (suc k) d (dir n j s) rs w h =
    rw (compare_refl d, append_assoc (rows_of (suc d) j) (rows_of d s) rs, entry-folder d w.0)
    (let a = siblings-rows k (suc d) j (rows_of d s ++ rs) w.1 (ended-rows d (suc d) s rs (omega arith) (ended-deeper d rs h)) in
    let b = siblings-skip d (suc d) j (rows_of d s ++ rs) (omega arith) ∙ siblings-rows (suc k) d s rs w.2 h in
    cc)

-- and so for what stands at one place, before its later siblings
pub siblings-node : (k d : ℕ) (n : Name) (x : Node) (rs : List Row) → NameRule n → WithinNode NameRule ContentRule k x → Ended (suc d) rs
    → siblings d (node_rows d n x ++ rs) ≡ add n x (siblings d rs)
unfolding siblings node_rows
siblings-node k d n absent rs N w h = refl
siblings-node k d n (file c) rs N w h = rw (compare_refl d, entry-file d N w)
siblings-node k d n (folder j) rs N w h = rw (compare_refl d, entry-folder d N, siblings-rows k (suc d) j rs w h, siblings-skip d (suc d) j rs (omega arith))

-- the rows of a whole tree
module _ (f : Forest) (W : Within NameRule ContentRule 16 f) where
  whole-table : Whole (node_rows 0 root_name (folder f))
  unfolding node_rows Whole
  whole-table = (refl, whole-rows_of 16 1 f W)

  pub rows-table : rows (table f) ≡ node_rows 0 root_name (folder f)
  unfolding table
  rows-table = rows-flat (node_rows 0 root_name (folder f)) whole-table

  pub length-table : length (table f) ≡ 20 * suc (size f)
  unfolding table node_rows
  length-table = length-flat (node_rows 0 root_name (folder f)) whole-table ∙ ap (λ (n : ℕ). 20 * suc n) (length-rows 1 f)

  -- the tree of a tree's table is the tree
  pub tree-table : tree_of (table f) ≡ f
  unfolding tree_of node_rows Ended
  tree-table = rw rows-table (ap (siblings 1) (sym (append-nil (rows_of 1 f))) ∙ siblings-rows 16 1 f [] W tt)

-- so two trees with equal tables are equal
pub table-one : (f g : Forest) → Within NameRule ContentRule 16 f → Within NameRule ContentRule 16 g → table f ≡ table g → f ≡ g
table-one f g F G e = sym (tree-table f F) ∙ ap tree_of e ∙ tree-table g G

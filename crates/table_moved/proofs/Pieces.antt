-- The words of a moved tree are three pieces: the target's before the path's entry, the source's spelled as the target's folder is, the
-- target's behind it.
use Rattle.std.proofs.Common.{Some, None}
use mathlib.Core.Path.{◌≡◌, refl, sym, ap, ap₂, subst, ◌∙◌}
use mathlib.Core.List.{List, [], ◌∷◌, ◌++◌, map}
use mathlib.Core.Bool.{true, false, cond}
use native.Mathlib.Omega.{arith}
use native.Mathlib.Nat.{zero-add}
use native.Mathlib.Numerals.{sub-one}
use lib.ListN.{length, take, get_or, length-take}
use lib.Seq.{take-suc}
use Prim.Native.Nat.{ℕ, zero, suc, ◌+◌, ◌*◌, ◌-◌, ◌≤◌}
use Rattle.tree.specs.Name.{Name}
use Rattle.tree.specs.Forest.{Forest, Node, Node.absent, Node.file, Node.folder, TreePath, Present, kids, at, size}
use Rattle.tree.specs.Rules.{Words32, NameRule, ContentRule, Within, zeros}
use Rattle.tree.proofs.Forest.{sorted-at}
use Rattle.tree.specs.Put.{put}
use Rattle.tree.specs.declared.Profile.{Profile}
use Rattle.tree.specs.Key.{key, fold, fold_node, fold_path, entry, spelling, respell, FormedIn}
use Rattle.tree.proofs.Never.{never}
use Rattle.tree.proofs.Keys.{key-idem, zeros-key}
use Rattle.tree.proofs.Put.{put-folder}
use Rattle.tree.proofs.Folds.{key-spelling, size-respell, within-respell, respell_node, reach, own_name, reach-fold}
use Rattle.settle.specs.Spelled.{moved_in}
use Rattle.table_row.specs.Table.{rows, flat}
use Rattle.table_row.specs.Tree.{rows_of, node_rows, root_name, table, tree_of}
use Rattle.table_row.specs.Keyed.{keyed}
use Rattle.table_row.proofs.Flat.{length-flat, rows-flat}
use Rattle.table_row.proofs.Tree.{length-rows}
use Rattle.table_row.proofs.Keyed.{tree-keyed, length-keyed}
use Rattle.table_rules.specs.Keyed.{Passes}
use Rattle.table_rules.proofs.Passed.{passed-table, passed-formed, passed-whole, passed_words}
use Rattle.table_find.specs.Entry.{place}
use Rattle.table_stands.specs.Stands.{Holds}
use Rattle.table_stands.specs.Around.{entry_end, row_in, name_on}
use Rattle.table_stands.proofs.Forest.{wide-rows_of, ruled-within}
use Rattle.table_stands.proofs.Path.{leads}
use Rattle.table_stands.proofs.Put.{place-entry, end-entry}
use Rattle.table_stands.proofs.Keyed.{moved_node}
use Rattle.table_stands.proofs.Moved.{path-entry, moved-entry}
use Rattle.table_respell.specs.Respell.{respelled, Shallow}
use Rattle.table_respell.proofs.Node.{There}
use Rattle.table_respell.proofs.Spelled.{respelled-rows, shallow-rows}
use Rattle.table_carry.proofs.Nodes.{words_at, node-stands}
use Rattle.table_moved.specs.Move.{is_folder, moved_words}
use Rattle.table_moved.specs.Path.{parent_of, path_of}
use Rattle.table_moved.specs.Pieces.{folder_at, pieces, Rows, Ready}
use Rattle.table_moved.proofs.Names.{length-path, path-own, name-own}
use Rattle.table_moved.proofs.Source.{keys-hold, one, one-within, one-words, folder-within}

-- the last name of a path, and its parent
path-last : (names : List Name) (n : ℕ) → 1 ≤ n → n ≤ length names → take n names ≡ take (n - 1) names ++ (get_or names (n - 1) [] ∷ [])
path-last names zero h k = absurd (omega arith)
path-last names (suc n) h k = rw sub-one (take-suc names n [] k)

-- a folder that is found
folder-there : (y : Node) (i j : ℕ) → cond (is_folder y) (Some j) None ≡ Some i → ((k : Forest) × (y ≡ folder k)) × (j ≡ i)
folder-there absent i j e = never (cc)
folder-there (file c) i j e = never (cc)
folder-there (folder k) i j e = ((k, refl), cc)

pub no-folder : (f : Forest) (q : TreePath) → folder_at f q ≡ None → is_folder (at (folder f) q) ≡ false
unfolding folder_at
no-folder f q = go (at (folder f) q)
  where
    go : (y : Node) → cond (is_folder y) (Some (row_in (folder f) q)) None ≡ None → is_folder y ≡ false
    go absent e = refl
    go (file c) e = refl
    go (folder k) e = never (cc)

pub is-folder : (f : Forest) (q : TreePath) (i : ℕ) → folder_at f q ≡ Some i → is_folder (at (folder f) q) ≡ true
unfolding folder_at
is-folder f q i e = rw (folder-there (at (folder f) q) i (row_in (folder f) q) e).0.1

-- siblings that keep the rules, in words
flat-size : (d k : ℕ) (f : Forest) → Within NameRule ContentRule k f → length (flat (rows_of d f)) ≡ 20 * size f
flat-size d k f W = length-flat (rows_of d f) (wide-rows_of d f (ruled-within k f W)) ∙ rw (length-rows d f)

module _ (p : Profile) where
  fold-folder : (x : Node) (k : Forest) → fold_node p x ≡ folder k → (j : Forest) × (x ≡ folder j)
  fold-folder absent k e = never (cc)
  fold-folder (file c) k e = never (cc)
  fold-folder (folder j) k e = (j, refl)

  root-key : key p root_name ≡ root_name
  unfolding zeros
  root-key = zeros-key p root_name refl

  -- the name at a path, by its key
  own_key : (q : TreePath) (m l : Name) (x : Node) → key p m ≡ l → key p (own_name p m x (fold_path p q)) ≡ name_on l (fold_path p q)
  unfolding own_name name_on
  own_key [] m l x e = e
  own_key (n ∷ q) m l x e =
      own_key q (spelling p (key p n) (kids x) (key p n)) (key p n) (entry p (key p n) (kids x)) (key-spelling p (key p n) (kids x) (key p n) (key-idem p n))

  -- a move beneath a folder leaves it a folder
  moved-folder : (q : TreePath) (n : Name) (g f : Forest) → moved_node p (q ++ (n ∷ [])) (folder g) (folder f) ≡ folder (moved_in p (q ++ (n ∷ [])) g f)
  unfolding moved_in
  moved-folder q n g f =
      let x = at (folder (fold p g)) (fold_path p (q ++ (n ∷ []))) in
      let e : folder (kids (put (fold_path p (q ++ (n ∷ []))) x (folder (fold p f)))) ≡ put (fold_path p (q ++ (n ∷ []))) x (folder (fold p f)) =
      subst (λ (r : TreePath). folder (kids (put r x (folder (fold p f)))) ≡ put r x (folder (fold p f))) (sym (path-entry p q n)) (put-folder (fold_path p q) (key p n) x (fold p f)) in
      ap (λ (y : Node). respell_node p (folder f) (respell_node p (folder g) y)) (sym e)

  -- an entry n of the folder that stands at the path q, at row i
  module _ (w : List ℕ) (P : Passes p w) (s : Words32 w) (q : TreePath) (n : Name) (h : length q + 1 ≤ 16) (i : ℕ) (e : folder_at (fold p (tree_of w)) (fold_path p q) ≡ Some i) where
    abbrev f : Forest
    f = tree_of w

    abbrev v : List ℕ
    v = keyed p w

    abbrev Q : TreePath
    Q = fold_path p q

    abbrev path : TreePath
    path = fold_path p q ++ (key p n ∷ [])

    F : FormedIn p f
    F = passed-formed p w P s

    H : Holds v 0 root_name (folder (fold p f))
    H = keys-hold p w P s

    found : ((k : Forest) × (at (folder (fold p f)) Q ≡ folder k)) × (row_in (folder (fold p f)) Q ≡ i)
    unfolding folder_at
    found = folder-there (at (folder (fold p f)) Q) i (row_in (folder (fold p f)) Q) e

    there : (j : Forest) × (reach p (folder f) Q ≡ folder j)
    there = fold-folder (reach p (folder f) Q) found.0.0 (reach-fold p Q (folder f) ∙ found.0.1)

    abbrev j : Forest
    j = there.0

    pub place-first : place v i (key p n) ≤ entry_end v i (key p n)
    place-first =
        let k = found.0.0 in
        let a = place-entry Q (key p n) k v 0 root_name (folder (fold p f)) H found.0.1 in
        let b = end-entry Q (key p n) k v 0 root_name (folder (fold p f)) H found.0.1 in
        rw (← found.1) (omega arith)

    short : length Q + 1 ≤ 16
    short = omega (arith, length-path p q)

    keys-there : at (folder (fold p f)) Q ≡ folder (fold p j)
    keys-there = sym (reach-fold p Q (folder f)) ∙ ap (fold_node p) there.1

    -- where that folder stands, in the table and among the keys
    opened : There p w v (length Q) (folder j) i
    opened =
        let m = own_name p root_name (folder f) Q in
        let a = node-stands p w P s Q (subst Present (sym there.1) tt) in
        let b = (leads Q v 0 root_name (folder (fold p f)) H (subst Present (sym keys-there) tt)).stands in
        let d = zero-add (length Q) in
        record {
          called-as = m;
          plain = rw (found.1, there.1) at a;
          keys = rw (own_key q root_name root_name (folder f) root-key) (rw (found.1, keys-there, d) at b);
          ruled = ruled-within (16 - length Q) j (folder-within p f F Q (key p n) short j there.1);
          sorted = rw keys-there at (sorted-at Q (folder (fold p f)) F.sorted);
        }

    module _ (g : Forest) (G : FormedIn p g) where
      abbrev o : Forest
      o = one p g Q (key p n)

      O : Within NameRule ContentRule (16 - length Q) o
      O = one-within p g G Q (key p n) short

      -- what is put in
      middle : respelled p w v i (words_at p g path) ≡ flat (rows_of (suc (length Q)) (respell p j o))
      middle = respelled-rows p w v i (length Q) (16 - length Q) j o (words_at p g path) opened O (let a = short in omega arith) (one-words p g G Q (key p n) short)

      pub as_long : length (respelled p w v i (words_at p g path)) ≡ length (words_at p g path)
      as_long =
          let R = within-respell p NameRule ContentRule (16 - length Q) j o (folder-within p f F Q (key p n) short j there.1) O in
          rw (middle, one-words p g G Q (key p n) short) (flat-size (suc (length Q)) (16 - length Q) (respell p j o) R ∙ rw (size-respell p j o) (sym (flat-size (suc (length Q)) (16 - length Q) o O)))

      pub shallow : Shallow (rows (words_at p g path))
      shallow =
          let z = rows-flat (rows_of (suc (length Q)) o) (wide-rows_of (suc (length Q)) o (ruled-within (16 - length Q) o O)) in
          rw (one-words p g G Q (key p n) short, z) (shallow-rows (16 - length Q) (length Q) o O (let a = short in omega arith))

      moved-pieces : table (moved_in p (q ++ (n ∷ [])) g f) ≡ pieces p w v i (key p n) (words_at p g path)
      unfolding table
      moved-pieces =
          let z : 0 + suc (length q) ≡ suc (length Q) = omega (arith, length-path p q) in
          let K : Holds v 0 (key p root_name) (folder (fold p f)) = rw root-key H in
          ap (λ (x : Node). flat (node_rows 0 root_name x)) (sym (moved-folder q n g f))
          ∙ moved-entry p q n w v 0 root_name (folder g) (folder f) (sym (passed-table p w P)) refl (ruled-within 16 f F.within) G.sorted K j there.1
          ∙ rw (z, found.1, middle)

-- a path of keys, given as names and a depth: what its parent's row says of the move
module _ (p : Profile) (w : List ℕ) (P : Passes p w) (s : Words32 w) (names : List Name) (K : map (key p) names ≡ names) (sixteen : length names ≡ 16) (depth : ℕ) (low : 1 ≤ depth) (high : depth ≤ 16)
    (i : ℕ) (e : folder_at (tree_of (keyed p w)) (parent_of names depth) ≡ Some i) (inside : 20 * (i + 1) ≤ length (keyed p w)) where
  abbrev q : TreePath
  q = parent_of names depth

  abbrev n : Name
  n = get_or names (depth - 1) []

  own : fold_path p q ≡ q
  own = path-own p names K (depth - 1)

  named : key p n ≡ n
  named = name-own p names K (depth - 1) (omega arith)

  whole : path_of names depth ≡ q ++ (n ∷ [])
  whole = path-last names depth low (omega arith)

  at-parent : folder_at (fold p (tree_of w)) (fold_path p q) ≡ Some i
  at-parent = rw (own, ← tree-keyed p w) e

  h : length q + 1 ≤ 16
  h = simp length-take (omega arith)

  module _ (source : List ℕ) (S : Passes p source) (t : Words32 source) (words : List ℕ) (part : words ≡ words_at p (tree_of source) (path_of names depth)) (R : Rows words) where
    same : words ≡ words_at p (tree_of source) (fold_path p q ++ (key p n ∷ []))
    same = part ∙ rw (own, named, whole)

    G : FormedIn p (tree_of source)
    G = passed-formed p source S t

    pub ready : Ready p w (keyed p w) i n words
    ready = record {
      inside = inside;
      keys = length-keyed p w (passed-whole p w P);
      target = record { whole = passed-whole p w P; most = passed_words p w P };
      source = R;
      shallow = rw same (shallow p w P s q n h i at-parent (tree_of source) G);
      as_long = rw same (as_long p w P s q n h i at-parent (tree_of source) G);
      order = rw named at (place-first p w P s q n h i at-parent);
    }

    pub moved-words : moved_words p w source names depth ≡ pieces p w (keyed p w) i n words
    moved-words =
        ap (λ (r : TreePath). table (moved_in p r (tree_of source) (tree_of w))) whole
        ∙ moved-pieces p w P s q n h i at-parent (tree_of source) G
        ∙ ap₂ (pieces p w (keyed p w) i) named (sym same)

-- An entry of a folder, and its counterpart in another table: what the counterpart is, and the name that is taken from it.
use Rattle.std.proofs.Common.{Option, Some, None}
use mathlib.Core.Path.{◌≡◌, refl, sym, ap, subst, ◌∙◌}
use mathlib.Core.List.{List, [], ◌∷◌, ◌++◌}
use lib.ListN.{length, drop}
use lib.Seq.{drop_at}
use Prim.Native.Nat.{ℕ, suc, ◌+◌, Ordering}
use Rattle.tree.specs.Name.{Name, cmp, if_same}
use Rattle.tree.specs.Forest.{Content, Forest, Forest.end, Forest.leaf, Forest.dir, Node, Node.absent, Node.file, Node.folder, SortedNode, Present, find, kids, size}
use Rattle.tree.specs.Rules.{NameRule}
use Rattle.tree.specs.declared.Profile.{Profile}
use Rattle.tree.specs.Key.{key, fold, fold_node, entry, spelling}
use Rattle.tree.proofs.Keys.{key-idem, rule-key}
use Rattle.tree.proofs.Forest.{sorted-find}
use Rattle.tree.proofs.Folds.{entry-fold, key-spelling}
use Rattle.tree.proofs.Respelled.{spelling-none, spelling-some}
use Rattle.table_row.specs.Table.{row_at, name}
use Rattle.table_row.specs.Tree.{file_row, folder_row, rows_of, node_rows}
use Rattle.table_stands.specs.Stands.{Stands, Ruled, RuledNode, found_at}
use Rattle.table_stands.specs.Around.{before}
use Rattle.table_stands.proofs.Rows.{head}
use Rattle.table_stands.proofs.Forest.{file-name, folder-name}
use Rattle.table_stands.proofs.Entry.{file-child, folder-child, stands-child}
use Rattle.table_stands.proofs.Keyed.{stands-entry}
use Rattle.table_respell.specs.Respell.{counterpart, spelled}

-- the name that a row called n takes
abbrev pub called : List ℕ → Option ℕ → Name → Name
called w (Some i) n = name (row_at w i)
called w None n = n

-- rows with that name
pub spelled-file : (w : List ℕ) (c : Option ℕ) (d : ℕ) (n : Name) (x : Content) → length n ≡ 8 → spelled w c (file_row d n x) ≡ file_row d (called w c n) x
spelled-file w (Some i) d n x h = rw (drop_at n (drop 1 x) 8 h)
spelled-file w None d n x h = refl

pub spelled-folder : (w : List ℕ) (c : Option ℕ) (d : ℕ) (n : Name) → length n ≡ 8 → spelled w c (folder_row d n) ≡ folder_row d (called w c n)
spelled-folder w (Some i) d n h = let z : List ℕ = 0 ∷ 0 ∷ 0 ∷ 0 ∷ 0 ∷ 0 ∷ 0 ∷ 0 ∷ 0 ∷ 0 ∷ [] in rw (drop_at n z 8 h)
spelled-folder w None d n h = refl

-- the name of a node that stands at a row
stands-name : (w : List ℕ) (i d : ℕ) (n : Name) (x : Node) → Stands w i d n x → Present x → NameRule n → name (row_at w i) ≡ n
unfolding node_rows
stands-name w i d n absent s h r = absurd h
stands-name w i d n (file c) s h r = ap name (head w i (file_row d n c) s.rest s.here).row ∙ file-name d n c r
stands-name w i d n (folder k) s h r = ap name (head w i (folder_row d n) (rows_of (suc d) k ++ s.rest) s.here).row ∙ folder-name d n r

module _ (p : Profile) where
  ruled-fold : (f : Forest) → Ruled f → Ruled (fold p f)
  unfolding Ruled fold
  ruled-fold end r = tt
  ruled-fold (leaf n c s) r = (rule-key p n r.0, r.1, ruled-fold s r.2)
  ruled-fold (dir n k s) r = (rule-key p n r.0, ruled-fold k r.1, ruled-fold s r.2)

  -- an entry by its key keeps the rules of its folder
  pub ruled-entry : (k d : Name) (f : Forest) → Ruled f → Present (entry p k f) → NameRule (spelling p k f d) × RuledNode (entry p k f)
  unfolding Ruled entry spelling
  ruled-entry k d end r h = absurd h
  ruled-entry k d (leaf m c s) r h = go (cmp k (key p m)) (ruled-entry k d s r.2) h
    where
      go : (o : Ordering) → (Present (entry p k s) → NameRule (spelling p k s d) × RuledNode (entry p k s)) → Present (if_same o (file c) (entry p k s))
          → NameRule (if_same o m (spelling p k s d)) × RuledNode (if_same o (file c) (entry p k s))
      go Ordering.lt ih h = ih h
      go Ordering.eq ih h = (r.0, r.1)
      go Ordering.gt ih h = ih h
  ruled-entry k d (dir m j s) r h = go (cmp k (key p m)) (ruled-entry k d s r.2) h
    where
      go : (o : Ordering) → (Present (entry p k s) → NameRule (spelling p k s d) × RuledNode (entry p k s)) → Present (if_same o (folder j) (entry p k s))
          → NameRule (if_same o m (spelling p k s d)) × RuledNode (if_same o (folder j) (entry p k s))
      go Ordering.lt ih h = ih h
      go Ordering.eq ih h = (r.0, r.1)
      go Ordering.gt ih h = ih h

  module _ (w v : List ℕ) where
    -- x stands at one row of the table and, by its keys, of the table of keys
    pub record There (d : ℕ) (x : Node) (i : ℕ) : Type 0 where
      pub called-as : Name
      pub plain : Stands w i d called-as x
      pub keys : Stands v i d (key p called-as) (fold_node p x)
      pub ruled : RuledNode x
      pub sorted : SortedNode (fold_node p x)

    -- what a search for x found
    abbrev pub Opens : ℕ → Node → Option ℕ → Type 0
    Opens d absent f = f ≡ None
    Opens d (file c) f = (i : ℕ) × (f ≡ Some i) × There d (file c) i
    Opens d (folder k) f = (i : ℕ) × (f ≡ Some i) × There d (folder k) i

    -- a counterpart, and the name that is taken from it
    abbrev Counter : ℕ → Node → Name → Name → Option ℕ → Type 0
    Counter d y n l c = Opens d y c × (called w c n ≡ l)

    -- an entry y of a folder stands there too
    entry-there : (d i : ℕ) (k : Forest) (n : Name) → There d (folder k) i → (y : Node) → entry p (key p n) k ≡ y → Present y
        → There (suc d) y (i + 1 + size (before (key p n) (fold p k))) × (name (row_at w (i + 1 + size (before (key p n) (fold p k)))) ≡ spelling p (key p n) k n)
    entry-there d i k n T y e h =
        let K = key p n in
        let r = i + 1 + size (before K (fold p k)) in
        let l = spelling p K k K in
        let g : Present (entry p K k) = subst Present (sym e) h in
        let R = ruled-entry K K k T.ruled g in
        let f : find K (fold p k) ≡ fold_node p y = sym (entry-fold p K k) ∙ ap (fold_node p) e in
        let a : Stands w r (suc d) l y = subst (Stands w r (suc d) l) e (stands-entry p w i d T.called-as k T.plain K T.sorted) in
        let b : Stands v r (suc d) K (fold_node p y) = subst (Stands v r (suc d) K) f (stands-child v i d (key p T.called-as) (fold p k) T.keys K T.sorted) in (
          record {
            called-as = l;
            plain = a;
            keys = rw (key-spelling p K k K (key-idem p n)) b;
            ruled = subst RuledNode e R.1;
            sorted = subst SortedNode f (sorted-find K (fold p k) T.sorted);
          },
          stands-name w r (suc d) l y a h R.0 ∙ spelling-some p K k K n g,
        )

    -- of an entry y that its folder may have, under the key of n
    counter-entry : (d i : ℕ) (k : Forest) (n : Name) → There d (folder k) i → (y : Node) → entry p (key p n) k ≡ y
        → Counter (suc d) y n (spelling p (key p n) k n) (found_at (fold_node p y) (i + 1 + size (before (key p n) (fold p k))))
    counter-entry d i k n T absent e = (refl, sym (spelling-none p (key p n) k n e))
    counter-entry d i k n T (file c) e = let E = entry-there d i k n T (file c) e tt in ((i + 1 + size (before (key p n) (fold p k)), refl, E.0), E.1)
    counter-entry d i k n T (folder j) e = let E = entry-there d i k n T (folder j) e tt in ((i + 1 + size (before (key p n) (fold p k)), refl, E.0), E.1)

    pub counter : (d : ℕ) (x : Node) (f : Option ℕ) (n : Name) → Opens d x f
        → Counter (suc d) (entry p (key p n) (kids x)) n (spelling p (key p n) (kids x) n) (counterpart v f (key p n))
    unfolding entry spelling
    counter d absent f n o = rw o (refl, refl)
    counter d (file c) f n o =
        let T = o.2 in
        rw (o.1, file-child v o.0 d (key p T.called-as) (key p n) c T.keys) (refl, refl)
    counter d (folder k) f n o =
        let T = o.2 in
        let K = key p n in
        rw (o.1, folder-child v o.0 d (key p T.called-as) (fold p k) T.keys K (ruled-fold k T.ruled) T.sorted, ← entry-fold p K k)
        (counter-entry d o.0 k n T (entry p K k) refl)

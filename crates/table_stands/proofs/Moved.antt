-- A move where names are matched by a key changes one piece of the target's rows: those before the path's entry and those after it
-- stay as they are, and the piece is the source's, spelled as the target's folder there is.
use mathlib.Core.Path.{◌≡◌, refl, sym, ap, ap₂, ◌∙◌}
use mathlib.Core.List.{List, [], ◌∷◌, ◌++◌, append_assoc, append-nil}
use native.Mathlib.Omega.{arith}
use native.Mathlib.Nat.{add-zero}
use lib.ListN.{length, take, drop, length-append}
use Prim.Native.Nat.{ℕ, suc, ◌+◌, ◌*◌}
use Rattle.tree.specs.Name.{Name}
use Rattle.tree.specs.Forest.{TreePath, Forest, Forest.end, Node, Node.absent, Node.file, Node.folder, SortedNode, Present, find, kids, at, add, size}
use Rattle.tree.specs.Put.{Reaches}
use Rattle.tree.specs.declared.Profile.{Profile}
use Rattle.tree.specs.Key.{key, fold, fold_node, fold_path, entry, spelling, respell}
use Rattle.table_row.specs.Table.{Row, flat}
use Rattle.table_row.specs.Tree.{folder_row, rows_of, node_rows}
use Rattle.table_find.specs.Entry.{place}
use Rattle.tree.proofs.Forest.{sorted-find}
use Rattle.tree.proofs.Put.{put-at, reaches-entry}
use Rattle.tree.proofs.Size.{row_count}
use Rattle.tree.proofs.Keys.{key-idem}
use Rattle.tree.proofs.Folds.{respell_node, fold-kids, size-fold, entry-fold, key-spelling, respell-add, reach, own_name, reach-fold}
use Rattle.tree.proofs.Respelled.{respell_node-same, fold-respell_node, fold_node-idem, spelling-some}
use Rattle.table_row.proofs.Flat.{Whole, length-flat}
use Rattle.table_row.proofs.Tree.{rows-add, length-rows}
use Rattle.table_stands.specs.Stands.{RuledNode, Holds}
use Rattle.table_stands.specs.Around.{before, entry_end, row_in}
use Rattle.table_stands.proofs.Rows.{cut, whole-front, whole_back}
use Rattle.table_stands.proofs.Forest.{length-node_rows, wide-node_rows}
use Rattle.table_stands.proofs.Keyed.{before_key, behind_key, size-before, moved_node, moved-rows, moved-end}
use Rattle.table_stands.proofs.Put.{flat-three, place-entry, end-entry}

module _ (p : Profile) where
  -- the rows of x, called m and at depth d, before those of the node at a path of keys
  unfoldable front_key : ℕ → Name → Node → TreePath → List Row
  front_key d m x [] = []
  front_key d m x (n ∷ q) = folder_row d m ∷ (rows_of (suc d) (before_key p n (kids x)) ++ front_key (suc d) (spelling p n (kids x) n) (entry p n (kids x)) q)

  -- and those after them
  unfoldable back_key : ℕ → Node → TreePath → List Row
  back_key d x [] = []
  back_key d x (n ∷ q) = back_key (suc d) (entry p n (kids x)) q ++ rows_of (suc d) (behind_key p n (kids x))

  -- the name of what is moved there from s to t: t's own, elsewhere s's
  unfoldable moved_name : Name → Node → Node → TreePath → Name
  moved_name m s t [] = m
  moved_name m s t (n ∷ q) = moved_name (spelling p n (kids t) (spelling p n (kids s) n)) (entry p n (kids s)) (entry p n (kids t)) q

  -- rows before a node that is there do not turn on the name for want of one
  front-name : (q : TreePath) (d : ℕ) (m l : Name) (x : Node) → Reaches q (fold_node p x) → (Present x → m ≡ l) → front_key d m x q ≡ front_key d l x q
  unfolding front_key Reaches
  front-name [] d m l x h e = refl
  front-name (n ∷ q) d m l absent h e = absurd h
  front-name (n ∷ q) d m l (file c) h e = absurd h
  front-name (n ∷ q) d m l (folder k) h e = rw (e tt)

  sorted-entry : (n : Name) (k : Forest) → SortedNode (fold_node p (folder k)) → SortedNode (fold_node p (entry p n k))
  sorted-entry n k o = rw (entry-fold p n k) (sorted-find n (fold p k) o)

  sorted-kids-entry : (n : Name) (x : Node) → SortedNode (fold_node p x) → SortedNode (fold_node p (entry p n (kids x)))
  unfolding entry
  sorted-kids-entry n absent o = tt
  sorted-kids-entry n (file c) o = tt
  sorted-kids-entry n (folder k) o = sorted-entry n k o

  -- the rows of a move, in three pieces
  moved-three : (q : TreePath) (d : ℕ) (m : Name) (s t : Node) → Reaches (fold_path p q) (fold_node p t) → SortedNode (fold_node p s) → SortedNode (fold_node p t)
      → node_rows d m (moved_node p q s t) ≡ front_key d m t (fold_path p q)
      ++ (node_rows (d + length q) (moved_name m s t (fold_path p q)) (respell_node p (reach p t (fold_path p q)) (reach p s (fold_path p q))) ++ back_key d t (fold_path p q))
  unfolding Reaches reach front_key back_key moved_name
  moved-three [] d m s t h o u = rw (add-zero d, append-nil) (ap (node_rows d m) (moved-end p s t o))
  moved-three (n ∷ q) d m s absent h o u = absurd h
  moved-three (n ∷ q) d m s (file c) h o u = absurd h
  moved-three (n ∷ q) d m s (folder t) h o u =
      let k = key p n in
      let y = entry p k t in
      let x = entry p k (kids s) in
      let l = spelling p k t (spelling p k (kids s) k) in
      let g : Reaches (fold_path p q) (fold_node p y) = rw (entry-fold p k t) h in
      let e : d + suc (length q) ≡ suc d + length q = omega arith in
      moved-rows p n q d m s t u ∙ ap (λ (rs : List Row). folder_row d m ∷ rs)
      (rw (
        moved-three q (suc d) l x y g (sorted-kids-entry k s o) (sorted-entry k t u),
        front-name (fold_path p q) (suc d) l (spelling p k t k) y g (spelling-some p k t (spelling p k (kids s) k) k),
        e,
      ) (simp append_assoc (sym (append_assoc (rows_of (suc d) (before_key p k t)) (front_key (suc d) (spelling p k t k) y (fold_path p q)) (node_rows (suc d + length q) (moved_name l x y (fold_path p q)) (respell_node p (reach p y (fold_path p q)) (reach p x (fold_path p q))) ++ (back_key (suc d) y (fold_path p q) ++ rows_of (suc d) (behind_key p k t)))))))

  pub count-fold : (x : Node) → row_count (fold_node p x) ≡ row_count x
  count-fold absent = refl
  count-fold (file c) = refl
  count-fold (folder k) = ap suc (size-fold p k)

  length_front : (q : TreePath) (d : ℕ) (m : Name) (x : Node) → length (front_key d m x q) ≡ row_in (fold_node p x) q
  unfolding front_key row_in
  length_front [] d m x = refl
  length_front (n ∷ q) d m x =
      ap suc (length-append (rows_of (suc d) (before_key p n (kids x))) (front_key (suc d) (spelling p n (kids x) n) (entry p n (kids x)) q)
      ∙ ap₂ ◌+◌ (length-rows (suc d) (before_key p n (kids x)) ∙ size-before p n (kids x) ∙ ap (λ (f : Forest). size (before n f)) (fold-kids p x))
      (length_front q (suc d) (spelling p n (kids x) n) (entry p n (kids x)) ∙ ap (λ (y : Node). row_in y q) (entry-fold p n (kids x) ∙ ap (find n) (fold-kids p x))))

  -- what stands there already, moved there
  moved-own : (q : TreePath) (t : Node) → SortedNode (fold_node p t) → moved_node p q t t ≡ t
  moved-own q t u =
      rw (put-at (fold_path p q) (fold_node p t) u)
      (ap (respell_node p t) (respell_node-same p t (fold_node p t) u (sym (fold_node-idem p t))) ∙ respell_node-same p t t u refl)

  -- the words of a move: the target's before the path's node, those of the piece, the target's after it
  module _ (q : TreePath) (w : List ℕ) (d : ℕ) (m : Name) (s t : Node) (words : w ≡ flat (node_rows d m t)) (eight : length m ≡ 8) (ruled : RuledNode t)
      (o : SortedNode (fold_node p s)) (u : SortedNode (fold_node p t)) (g : Reaches (fold_path p q) (fold_node p t)) where
    abbrev Q : TreePath
    Q = fold_path p q

    moved-words : flat (node_rows d m (moved_node p q s t))
        ≡ take (20 * row_in (fold_node p t) Q) w
        ++ (flat (node_rows (d + length q) (moved_name m s t Q) (respell_node p (reach p t Q) (reach p s Q))) ++ drop (20 * (row_in (fold_node p t) Q + row_count (at (fold_node p t) Q))) w)
    moved-words =
        let a = front_key d m t Q in
        let x = respell_node p (reach p t Q) (reach p t Q) in
        let b = node_rows (d + length q) (moved_name m t t Q) x in
        let c = back_key d t Q in
        let e : node_rows d m t ≡ a ++ (b ++ c) = ap (node_rows d m) (sym (moved-own q t u)) ∙ moved-three q d m t t g u u in
        let v : Whole (a ++ (b ++ c)) = rw e at (wide-node_rows d m t eight ruled) in
        let i : length (flat a) ≡ 20 * row_in (fold_node p t) Q = length-flat a (whole-front a (b ++ c) v) ∙ rw (length_front Q d m t) in
        let r : row_count x ≡ row_count (at (fold_node p t) Q) = sym (count-fold x) ∙ ap row_count (fold-respell_node p (reach p t Q) (reach p t Q) ∙ reach-fold p Q t) in
        let j : length (flat b) ≡ 20 * row_count (at (fold_node p t) Q) = length-flat b (whole-front b c (whole_back a (b ++ c) v)) ∙ rw (length-node_rows (d + length q) (moved_name m t t Q) x, r) in
        let z = cut w (flat a) (flat b) (flat c) (20 * row_in (fold_node p t) Q) (20 * (row_in (fold_node p t) Q + row_count (at (fold_node p t) Q))) (words ∙ ap flat e ∙ flat-three a b c) i (omega arith) in
        rw (z.0, z.1) (ap flat (moved-three q d m s t g o u) ∙ flat-three a (node_rows (d + length q) (moved_name m s t Q) (respell_node p (reach p t Q) (reach p s Q))) c)

  -- the entry of a folder at a path of keys
  module _ (k : Name) where
    reach-entry : (q : TreePath) (x : Node) → reach p x (q ++ (k ∷ [])) ≡ entry p k (kids (reach p x q))
    unfolding reach
    reach-entry [] x = refl
    reach-entry (n ∷ q) x = reach-entry q (entry p n (kids x))

    name-moved : (q : TreePath) (m l : Name) (s t : Node) → moved_name m s t (q ++ (k ∷ [])) ≡ spelling p k (kids (reach p t q)) (own_name p l s (q ++ (k ∷ [])))
    unfolding moved_name own_name reach
    name-moved [] m l s t = refl
    name-moved (n ∷ q) m l s t = name-moved q (spelling p n (kids t) (spelling p n (kids s) n)) (spelling p n (kids s) n) (entry p n (kids s)) (entry p n (kids t))

    pub key-own : key p k ≡ k → (q : TreePath) (m : Name) (x : Node) → key p (own_name p m x (q ++ (k ∷ []))) ≡ k
    unfolding own_name
    key-own e [] m x = key-spelling p k (kids x) k e
    key-own e (n ∷ q) m x = key-own e q (spelling p n (kids x) n) (entry p n (kids x))

  pub path-entry : (q : TreePath) (n : Name) → fold_path p (q ++ (n ∷ [])) ≡ fold_path p q ++ (key p n ∷ [])
  path-entry [] n = refl
  path-entry (m ∷ q) n = ap (λ (r : TreePath). key p m ∷ r) (path-entry q n)

  -- an entry y called l, spelled as a folder's entry is, by itself
  rows-spelled : (d : ℕ) (j : Forest) (k l : Name) (y : Node) → key p l ≡ k → node_rows d (spelling p k j l) (respell_node p (entry p k j) y) ≡ rows_of d (respell p j (add l y end))
  unfolding rows_of respell
  rows-spelled d j k l y e = sym (rw (respell-add p j l y end, e) (rows-add d (spelling p k j l) (respell_node p (entry p k j) y) end ∙ append-nil (node_rows d (spelling p k j l) (respell_node p (entry p k j) y))))

  -- the words w of t and v of the tree of its keys: what is moved in as the entry n of the folder at the path q stands between the
  -- words before the entry's place and those from its end on, both found among the keys
  module _ (q : TreePath) (n : Name) (w v : List ℕ) (d : ℕ) (m : Name) (s t : Node) (words : w ≡ flat (node_rows d m t)) (eight : length m ≡ 8) (ruled : RuledNode t)
      (o : SortedNode (fold_node p s)) (H : Holds v d (key p m) (fold_node p t)) (j : Forest) (e : reach p t (fold_path p q) ≡ folder j) where
    abbrev i : ℕ
    i = row_in (fold_node p t) (fold_path p q)

    abbrev path : TreePath
    path = fold_path p q ++ (key p n ∷ [])

    there : at (fold_node p t) (fold_path p q) ≡ folder (fold p j)
    there = sym (reach-fold p (fold_path p q) t) ∙ ap (fold_node p) e

    pub moved-entry : flat (node_rows d m (moved_node p (q ++ (n ∷ [])) s t))
        ≡ take (20 * place v i (key p n)) w
        ++ (flat (rows_of (d + suc (length q)) (respell p j (add (own_name p m s path) (reach p s path) end))) ++ drop (20 * entry_end v i (key p n)) w)
    moved-entry =
        let k = key p n in
        let l : length (q ++ (n ∷ [])) ≡ suc (length q) = length-append q (n ∷ []) ∙ omega arith in
        let g : Reaches (fold_path p (q ++ (n ∷ []))) (fold_node p t) = rw (path-entry q n) (reaches-entry k (fold p j) (fold_path p q) (fold_node p t) there) in
        let a = place-entry (fold_path p q) k (fold p j) v d (key p m) (fold_node p t) H there in
        let b = end-entry (fold_path p q) k (fold p j) v d (key p m) (fold_node p t) H there in
        let r = rows-spelled (d + suc (length q)) j k (own_name p m s path) (reach p s path) (key-own k (key-idem p n) (fold_path p q) m s) in
        let z = reach-entry k (fold_path p q) t ∙ ap (λ (x : Node). entry p k (kids x)) e in
        let y = name-moved k (fold_path p q) m m s t ∙ ap (λ (x : Node). spelling p k (kids x) (own_name p m s path)) e in
        rw (b, a, ← r, ← z, ← y, ← l, ← path-entry q n) (moved-words (q ++ (n ∷ [])) w d m s t words eight ruled o H.sorted g)

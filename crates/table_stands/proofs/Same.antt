-- Two nodes of one name and depth are the same exactly when their words are.
use mathlib.Core.Path.{◌≡◌, refl, sym, ap, subst, ◌∙◌}
use mathlib.Core.List.{List, [], ◌∷◌, ◌++◌, append_assoc, append-nil}
use mathlib.Core.Bool.{Bool, true, false}
use native.Mathlib.Omega.{arith}
use lib.ListN.{length, drop, get_or}
use lib.Seq.{drop_at, drop-cons}
use Prim.Native.Nat.{ℕ, suc, ◌%◌, ◌≤◌, ◌<◌}
use Rattle.tree.specs.Name.{Name}
use Rattle.tree.specs.Forest.{Content, Forest, Forest.end, Forest.leaf, Forest.dir, Node, Node.absent, Node.file, Node.folder}
use Rattle.tree.specs.Rules.{ContentRule}
use Rattle.tree.specs.Same.{same_words, same_node}
use Rattle.table_row.specs.Table.{Row, flat, rows, name, content}
use Rattle.table_row.specs.Tree.{file_row, folder_row, rows_of, node_rows}
use Rattle.table_find.specs.Subtree.{subtree}
use Rattle.tree.proofs.Same.{same_words-refl, same_words-eq, same_node-eq, same_node-true}
use Rattle.tree.proofs.Never.{never}
use Rattle.table_row.proofs.Flat.{rows-flat}
use Rattle.table_stands.specs.Stands.{Ended, StandsOr, Ruled, RuledNode}
use Rattle.table_stands.proofs.Subtree.{held-words}
use Rattle.table_stands.proofs.Forest.{ended-up, ended-rows, file-name, folder-name, wide-node_rows}

file-content : (d : ℕ) (n : Name) (c : Content) → length n ≡ 8 → ContentRule c → content (file_row d n c) ≡ c
file-content d n c h r =
    let k : 0 < length c = (let e = r.eleven in omega arith) in
    ap (λ (l : List ℕ). get_or c 0 0 ∷ l) (drop_at n (drop 1 c) 8 h) ∙ sym (drop-cons c 0 0 k)

too-deep : {P : Type 0} (d : ℕ) (a b : List Row) (r : Row) → Ended d a → get_or r 0 0 ≡ suc d → a ≡ r ∷ b → P
too-deep d a b r h e q = absurd (let k : get_or r 0 0 ≤ d = subst (Ended d) q h in omega arith)

-- a file's row is no folder's
other-kind : {P : Type 0} (d e : ℕ) (n m : Name) (c : Content) (a b : List Row) → ContentRule c → file_row d n c ∷ a ≡ folder_row e m ∷ b → P
other-kind d e n m c a b r q = absurd (let k : get_or c 0 0 ≡ 0 = cc in let j = r.kind in omega arith)

-- rows tell their siblings, and where those end
rows_same : (d : ℕ) (f g : Forest) (a b : List Row) → Ruled f → Ruled g → Ended d a → Ended d b → rows_of (suc d) f ++ a ≡ rows_of (suc d) g ++ b → (f ≡ g) × (a ≡ b)
unfolding rows_of Ruled
rows_same d end end a b r s h k q = (refl, q)
rows_same d end (leaf m c t) a b r s h k q = too-deep d a (rows_of (suc d) t ++ b) (file_row (suc d) m c) h refl q
rows_same d end (dir m j t) a b r s h k q = too-deep d a ((rows_of (suc (suc d)) j ++ rows_of (suc d) t) ++ b) (folder_row (suc d) m) h refl q
rows_same d (leaf n c f) end a b r s h k q = too-deep d b (rows_of (suc d) f ++ a) (file_row (suc d) n c) k refl (sym q)
rows_same d (leaf n c f) (leaf m e t) a b r s h k q =
    let x : file_row (suc d) n c ≡ file_row (suc d) m e = cc in
    let u = rows_same d f t a b r.2 s.2 h k (cc) in
    let y : n ≡ m = sym (file-name (suc d) n c r.0) ∙ ap name x ∙ file-name (suc d) m e s.0 in
    let z : c ≡ e = sym (file-content (suc d) n c r.0.eight r.1) ∙ ap content x ∙ file-content (suc d) m e s.0.eight s.1 in
    (let v = u.0 in cc, u.1)
rows_same d (leaf n c f) (dir m j t) a b r s h k q = other-kind (suc d) (suc d) n m c (rows_of (suc d) f ++ a) ((rows_of (suc (suc d)) j ++ rows_of (suc d) t) ++ b) r.1 q
rows_same d (dir n i f) end a b r s h k q = too-deep d b ((rows_of (suc (suc d)) i ++ rows_of (suc d) f) ++ a) (folder_row (suc d) n) k refl (sym q)
rows_same d (dir n i f) (leaf m e t) a b r s h k q = other-kind (suc d) (suc d) m n e (rows_of (suc d) t ++ b) ((rows_of (suc (suc d)) i ++ rows_of (suc d) f) ++ a) s.1 (sym q)
rows_same d (dir n i f) (dir m j t) a b r s h k q =
    let x : folder_row (suc d) n ≡ folder_row (suc d) m = cc in
    let p : (rows_of (suc (suc d)) i ++ rows_of (suc d) f) ++ a ≡ (rows_of (suc (suc d)) j ++ rows_of (suc d) t) ++ b = cc in
    let o = sym (append_assoc (rows_of (suc (suc d)) i) (rows_of (suc d) f) a) ∙ p ∙ append_assoc (rows_of (suc (suc d)) j) (rows_of (suc d) t) b in
    let u = rows_same (suc d) i j (rows_of (suc d) f ++ a) (rows_of (suc d) t ++ b) r.1 s.1 (ended-rows (suc d) f a (ended-up d a h)) (ended-rows (suc d) t b (ended-up d b k)) o in
    let v = rows_same d f t a b r.2 s.2 h k u.1 in
    let y : n ≡ m = sym (folder-name (suc d) n r.0) ∙ ap name x ∙ folder-name (suc d) m s.0 in
    (let z = u.0 in let l = v.0 in cc, v.1)

node-same : (d : ℕ) (n : Name) (x y : Node) → length n ≡ 8 → RuledNode x → RuledNode y → node_rows d n x ≡ node_rows d n y → x ≡ y
unfolding node_rows
node-same d n absent absent e r s q = refl
node-same d n absent (file c) e r s q = cc
node-same d n absent (folder k) e r s q = cc
node-same d n (file c) absent e r s q = cc
node-same d n (file c) (file b) e r s q =
    let x : file_row d n c ≡ file_row d n b = cc in
    ap file (sym (file-content d n c e r) ∙ ap content x ∙ file-content d n b e s)
node-same d n (file c) (folder k) e r s q = other-kind d d n n c [] (rows_of (suc d) k) r q
node-same d n (folder k) absent e r s q = cc
node-same d n (folder k) (file c) e r s q = other-kind d d n n c [] (rows_of (suc d) k) s (sym q)
node-same d n (folder k) (folder j) e r s q =
    let t : rows_of (suc d) k ≡ rows_of (suc d) j = cc in
    ap folder (rows_same d k j [] [] r s tt tt (append-nil (rows_of (suc d) k) ∙ t ∙ sym (append-nil (rows_of (suc d) j)))).0

-- the test of two nodes' words is the test of the nodes; absence has no words
pub same_nodes : (d : ℕ) (n : Name) (x y : Node) → length n ≡ 8 → RuledNode x → RuledNode y → same_words (flat (node_rows d n x)) (flat (node_rows d n y)) ≡ same_node x y
same_nodes d n x y e r s = go (same_words a b) (same_node x y) refl refl
  where
    a : List ℕ
    a = flat (node_rows d n x)

    b : List ℕ
    b = flat (node_rows d n y)

    back : a ≡ b → x ≡ y
    back q = node-same d n x y e r s (sym (rows-flat (node_rows d n x) (wide-node_rows d n x e r)) ∙ ap rows q ∙ rows-flat (node_rows d n y) (wide-node_rows d n y e s))

    go : (u v : Bool) → same_words a b ≡ u → same_node x y ≡ v → u ≡ v
    go true true p q = refl
    go false false p q = refl
    go true false p q = let h = same_node-true x y (back (same_words-eq a b p)) in never (cc)
    go false true p q = let h : same_words a b ≡ true = rw (same_node-eq x y q) (same_words-refl b) in never (cc)

-- in two tables, at rows where the nodes stand, or where there is none
module _ (w : List ℕ) (i : ℕ) (v : List ℕ) (j d : ℕ) (n : Name) (x y : Node) where
  pub same-subtrees : length w % 20 ≡ 0 → length v % 20 ≡ 0 → StandsOr w i d n x → StandsOr v j d n y → length n ≡ 8 → RuledNode x → RuledNode y
      → same_words (subtree w i) (subtree v j) ≡ same_node x y
  same-subtrees k l g h e r s = rw (held-words w i d n x k g, held-words v j d n y l h) (same_nodes d n x y e r s)

-- What is written from the plan of three tables of keys, with the names of the tables as they are, is the table of the new tree.
use mathlib.Core.Path.{◌≡◌, refl, ap, ap₂, sym, ◌∙◌}
use mathlib.Core.List.{List, [], ◌∷◌, ◌++◌, map, append_assoc, append-nil}
use native.Mathlib.Omega.{arith}
use native.Mathlib.Nat.{zero-add}
use lib.ListN.{length, take, drop, get_or}
use lib.Seq.{take_at, drop_at}
use Prim.Native.Nat.{ℕ, suc, ◌%◌, ◌≤◌}
use Rattle.tree.specs.Name.{Name}
use Rattle.tree.specs.Forest.{TreePath, Forest, Node, Node.absent, Node.file, Node.folder, Present}
use Rattle.tree.specs.declared.Profile.{Profile}
use Rattle.tree.specs.Key.{fold, fold_node, FormedIn}
use Rattle.tree.proofs.Folds.{reach, own_name, reach-fold}
use Rattle.settle.specs.Decision.{Decision.agreed, Decision.left_gets, Decision.right_gets, Decision.clash}
use Rattle.settle.specs.Plan.{plan}
use Rattle.settle.specs.Results.{Line, Line.line, Lines}
use Rattle.settle.proofs.Picks.{Result.left, Result.right, Result.archive}
use Rattle.settle.proofs.Places.{result_in}
use Rattle.table_row.specs.Table.{Row, row_at, flat, name}
use Rattle.table_row.specs.Tree.{folder_row, rows_of, node_rows, root_name, table}
use Rattle.table_row.proofs.Flat.{flat_append}
use Rattle.table_find.specs.Subtree.{subtree}
use Rattle.table_stands.specs.Stands.{Stands, StandsOr}
use Rattle.table_stands.specs.Around.{row_in}
use Rattle.table_stands.proofs.Rows.{head}
use Rattle.table_stands.proofs.Subtree.{held-words}
use Rattle.table_stands.proofs.Forest.{ruled-within}
use Rattle.table_stands.proofs.Keyed.{stands-reach}
use Rattle.plan.specs.Items.{kind, items, or_none, row_of, plan_words}
use Rattle.plan_cursor.specs.Three.{Three}
use Rattle.plan.proofs.Keyed.{IsTableIn}
use Rattle.plan_results.specs.declared.Tree.{Tree}
use Rattle.plan_results.specs.declared.Tree.TheVariants.{Archive, Left, Right}
use Rattle.plan_results.specs.Decisions.{decisions, pieces}
use Rattle.plan_results.specs.Pieces.{named, piece_of, new_tree}
use Rattle.plan_results.proofs.Taken.{deep, concat}
use Rattle.plan_results.proofs.Whole.{of_line, decisions-items, deep-length, row_words, result_of}
use Rattle.plan_results.proofs.Called.{own-eight, left_there, left-else, right_there, right-else, NoClash, archive-left, archive-clash}
use Rattle.plan_results.proofs.Spelled.{name_free, name_in, piece_in, tree-pieces}

-- first rows renamed
swap : (a b : ℕ) (n m A B C D : List ℕ) → length n ≡ 8 → length m ≡ 8 → name (a ∷ b ∷ ((n ++ A) ++ B)) ++ drop 8 ((m ++ C) ++ D) ≡ (n ++ C) ++ D
swap a b n m A B C D h g = rw (append_assoc n A B, append_assoc m C D, append_assoc n C D, take_at n (A ++ B) 8 h, drop_at m (C ++ D) 8 g)

abbrev ten_zeros : List ℕ
ten_zeros = 0 ∷ 0 ∷ 0 ∷ 0 ∷ 0 ∷ 0 ∷ 0 ∷ 0 ∷ 0 ∷ 0 ∷ []

abbrev if_there : Node → Name → Name → Name
if_there absent n m = m
if_there (file c) n m = n
if_there (folder k) n m = n

named-rows : (d : ℕ) (n m : Name) (x y : Node) → (Present x → length n ≡ 8) → (Present y → length m ≡ 8)
    → named (flat (take 1 (node_rows d n x))) (flat (node_rows d m y)) ≡ flat (node_rows d (if_there x n m) y)
unfolding node_rows flat named
named-rows d n m absent y h g = refl
named-rows d n m (file c) absent h g = refl
named-rows d n m (file c) (file e) h g = ap (λ (w : List ℕ). d ∷ get_or e 0 0 ∷ w) (swap d (get_or c 0 0) n m (drop 1 c) [] (drop 1 e) [] (h tt) (g tt))
named-rows d n m (file c) (folder k) h g = ap (λ (w : List ℕ). d ∷ 0 ∷ w) (swap d (get_or c 0 0) n m (drop 1 c) [] ten_zeros (flat (rows_of (suc d) k)) (h tt) (g tt))
named-rows d n m (folder j) absent h g = refl
named-rows d n m (folder j) (file e) h g = ap (λ (w : List ℕ). d ∷ get_or e 0 0 ∷ w) (swap d 0 n m ten_zeros [] (drop 1 e) [] (h tt) (g tt))
named-rows d n m (folder j) (folder k) h g = ap (λ (w : List ℕ). d ∷ 0 ∷ w) (swap d 0 n m ten_zeros [] ten_zeros (flat (rows_of (suc d) k)) (h tt) (g tt))

module _ (p : Profile) where
  -- PIECES IN WORDS
  row-piece : (w : List ℕ) (j d : ℕ) (m z : Name) (y : Node) → length w % 20 ≡ 0 → StandsOr w j d m y → (Present y → m ≡ z) → row_at w j ≡ flat (take 1 (node_rows d z y))
  row-piece w j d m z y h s e = row_words w j d m y h s ∙ ap (λ (rs : List Row). flat (take 1 rs)) (name_free p d m z y e)

  kept_piece : (w : List ℕ) (j d : ℕ) (m z : Name) (y : Node) → length w % 20 ≡ 0 → StandsOr w j d m y → (Present y → m ≡ z) → subtree w j ≡ flat (node_rows d z y)
  kept_piece w j d m z y h s e = held-words w j d m y h s ∙ ap flat (name_free p d m z y e)

  moved-piece : (v w : List ℕ) (i j d : ℕ) (n m z : Name) (x y : Node) → length v % 20 ≡ 0 → length w % 20 ≡ 0 → StandsOr v i d n x → StandsOr w j d m y
      → (Present x → length n ≡ 8) → (Present y → length m ≡ 8) → (Present y → if_there x n m ≡ z) → named (row_at v i) (subtree w j) ≡ flat (node_rows d z y)
  moved-piece v w i j d n m z x y a b s t h g e =
      ap₂ named (row_words v i d n x a s) (held-words w j d m y b t) ∙ named-rows d n m x y h g ∙ ap flat (name_free p d (if_there x n m) z y e)

  there : (x : Node) (n m z : Name) → (Present x → z ≡ n) → (x ≡ absent → z ≡ m) → if_there x n m ≡ z
  there absent n m z a b = sym (b refl)
  there (file c) n m z a b = sym (a tt)
  there (folder k) n m z a b = sym (a tt)

  -- what stands at a path of keys, in the table of a tree as it is spelled
  stands-path : (w : List ℕ) (f : Forest) → length w ≤ 81920 → IsTableIn p w f → (q : TreePath)
      → StandsOr w (row_of (fold p f) q) (deep 0 q) (own_name p root_name (folder f) q) (reach p (folder f) q)
  stands-path w f h t q = rw (deep-length 0 q, zero-add (length q), ← reach-fold p q (folder f)) (go (reach p (folder f) q) refl)
    where
      root : Stands w 0 0 root_name (folder f)
      root = record { rest = []; here = t.rows_are ∙ sym (append-nil (node_rows 0 root_name (folder f))); ended = tt }

      found : Present (reach p (folder f) q) → Stands w (row_in (folder (fold p f)) q) (length q) (own_name p root_name (folder f) q) (reach p (folder f) q)
      found h = rw (zero-add (row_in (folder (fold p f)) q), zero-add (length q)) at (stands-reach p q w 0 0 root_name (folder f) root t.formed.sorted h)

      go : (x : Node) → reach p (folder f) q ≡ x → StandsOr w (or_none (fold_node p x) (row_in (folder (fold p f)) q)) (length q) (own_name p root_name (folder f) q) x
      go absent e = omega arith
      go (file c) e = rw e at (found (rw e tt))
      go (folder k) e = rw e at (found (rw e tt))

  module _ (ow lw rw' : List ℕ) (o l r : Forest) (T : Three ow lw rw') (a : IsTableIn p ow o) (b : IsTableIn p lw l) (c : IsTableIn p rw' r) where
    abbrev at_path : Tree → Line → List Row
    at_path t = piece_in p (result_of t) 0 (λ e. root_name) (folder o) (folder l) (folder r)

    -- what the code takes of an item is what the result takes at its path
    piece-line : (t : Tree) (x : Line) → piece_of t ow lw rw' (of_line (fold p o) (fold p l) (fold p r) x) ≡ flat (at_path t x)
    unfolding kind
    piece-line t (line q d) = go t d
      where
        D : ℕ
        D = deep 0 q

        O : Name
        O = own_name p root_name (folder o) q

        L : Name
        L = own_name p root_name (folder l) q

        R : Name
        R = own_name p root_name (folder r) q

        x : Node
        x = reach p (folder o) q

        y : Node
        y = reach p (folder l) q

        z : Node
        z = reach p (folder r) q

        so : StandsOr ow (row_of (fold p o) q) D O x
        so = stands-path ow o T.o-small a q

        sl : StandsOr lw (row_of (fold p l) q) D L y
        sl = stands-path lw l T.l-small b q

        sr : StandsOr rw' (row_of (fold p r) q) D R z
        sr = stands-path rw' r T.r_small c q

        eight : (f : Forest) → FormedIn p f → Present (reach p (folder f) q) → length (own_name p root_name (folder f) q) ≡ 8
        eight f F = own-eight p q root_name (folder f) (ruled-within 16 f F.within) (λ i. refl)

        m : Rattle.settle.specs.Decision.Decision → Name
        m e = root_name

        name-left : (e : Rattle.settle.specs.Decision.Decision) → Present y → L ≡ name_in p left m (folder o) (folder l) (folder r) q e
        name-left e i = sym (left_there p q e m root_name (folder o) (folder l) (folder r) (λ j. refl) i)

        name-right : (e : Rattle.settle.specs.Decision.Decision) → Present z → R ≡ name_in p right m (folder o) (folder l) (folder r) q e
        name-right e i = sym (right_there p q e m root_name (folder o) (folder l) (folder r) (λ j. refl) i)

        to-left : (e : Rattle.settle.specs.Decision.Decision) → if_there y L R ≡ name_in p left m (folder o) (folder l) (folder r) q e
        to-left e = there y L R _ (λ i. sym (name-left e i)) (λ i. left-else p q e m root_name (folder o) (folder l) (folder r) (λ j. refl) i)

        to-right : (e : Rattle.settle.specs.Decision.Decision) → if_there z R L ≡ name_in p right m (folder o) (folder l) (folder r) q e
        to-right e = there z R L _ (λ i. sym (name-right e i)) (λ i. right-else p q e m root_name (folder o) (folder l) (folder r) (λ j. refl) i)

        both : (u : Node) (n : Name) → if_there u n n ≡ n
        both absent n = refl
        both (file c) n = refl
        both (folder k) n = refl

        old : (e : Rattle.settle.specs.Decision.Decision) → NoClash e → name_in p left m (folder o) (folder l) (folder r) q e ≡ name_in p archive m (folder o) (folder l) (folder r) q e
        old e n = sym (archive-left p q e n m m (folder o) (folder l) (folder r) refl)

        go : (t : Tree) (d : Rattle.settle.specs.Decision.Decision) → piece_of t ow lw rw' (of_line (fold p o) (fold p l) (fold p r) (line q d)) ≡ flat (at_path t (line q d))
        go Left agreed = row-piece lw (row_of (fold p l) q) D L _ y T.l-whole sl (name-left agreed)
        go Left left_gets = moved-piece lw rw' (row_of (fold p l) q) (row_of (fold p r) q) D L R _ y z T.l-whole T.r-whole sl sr (eight l b.formed) (eight r c.formed) (λ i. to-left left_gets)
        go Left right_gets = moved-piece lw lw (row_of (fold p l) q) (row_of (fold p l) q) D L L _ y y T.l-whole T.l-whole sl sl (eight l b.formed) (eight l b.formed) (λ i. both y L ∙ name-left right_gets i)
        go Left clash = kept_piece lw (row_of (fold p l) q) D L _ y T.l-whole sl (name-left clash)
        go Right agreed = row-piece rw' (row_of (fold p r) q) D R _ z T.r-whole sr (name-right agreed)
        go Right left_gets = moved-piece rw' rw' (row_of (fold p r) q) (row_of (fold p r) q) D R R _ z z T.r-whole T.r-whole sr sr (eight r c.formed) (eight r c.formed) (λ i. both z R ∙ name-right left_gets i)
        go Right right_gets = moved-piece rw' lw (row_of (fold p r) q) (row_of (fold p l) q) D R L _ z y T.r-whole T.l-whole sr sl (eight r c.formed) (eight l b.formed) (λ i. to-right right_gets)
        go Right clash = kept_piece rw' (row_of (fold p r) q) D R _ z T.r-whole sr (name-right clash)
        go Archive agreed = row-piece lw (row_of (fold p l) q) D L _ y T.l-whole sl (λ i. name-left agreed i ∙ old agreed tt)
        go Archive left_gets = moved-piece lw rw' (row_of (fold p l) q) (row_of (fold p r) q) D L R _ y z T.l-whole T.r-whole sl sr (eight l b.formed) (eight r c.formed) (λ i. to-left left_gets ∙ old left_gets tt)
        go Archive right_gets = moved-piece lw lw (row_of (fold p l) q) (row_of (fold p l) q) D L L _ y y T.l-whole T.l-whole sl sl (eight l b.formed) (eight l b.formed) (λ i. both y L ∙ name-left right_gets i ∙ old right_gets tt)
        go Archive clash = kept_piece ow (row_of (fold p o) q) D O _ x T.o-whole so (λ i. sym (archive-clash p q m root_name (folder o) (folder l) (folder r) refl))

    piece-lines : (t : Tree) (xs : Lines) → pieces (piece_of t ow lw rw') (map (of_line (fold p o) (fold p l) (fold p r)) xs) ≡ flat (concat (at_path t) xs)
    unfolding pieces concat flat
    piece-lines t [] = refl
    piece-lines t (x ∷ xs) = ap₂ (λ (u v : List ℕ). u ++ v) (piece-line t x) (piece-lines t xs) ∙ sym (flat_append (at_path t x) (concat (at_path t) xs))

    root-row : (t : Tree) → row_at lw 0 ≡ flat (at_path t (line [] agreed))
    unfolding deep name_in reach node_rows flat
    root-row t = (head lw 0 (folder_row 0 root_name) (rows_of 1 l) b.rows_are).row ∙ go t
      where
        go : (t : Tree) → folder_row 0 root_name ≡ flat (at_path t (line [] agreed))
        go Archive = refl
        go Left = refl
        go Right = refl

    -- THE NEW TREES, FROM THE PLAN OF THE TABLES OF KEYS
    pub new-table-in : (t : Tree) → new_tree t ow lw rw' (decisions (length (items (plan (fold p o) (fold p l) (fold p r)))) (plan_words (fold p o) (fold p l) (fold p r)))
        ≡ table (result_in p (result_of t) o l r)
    unfolding new_tree plan_words concat table
    new-table-in t =
        ap₂ (λ (u v : List ℕ). u ++ v) (root-row t) (ap (pieces (piece_of t ow lw rw')) (decisions-items (fold p o) (fold p l) (fold p r) xs) ∙ piece-lines t xs)
        ∙ sym (flat_append (at_path t (line [] agreed)) (concat (at_path t) xs))
        ∙ ap flat (tree-pieces p (result_of t) o l r a.formed.sorted b.formed.sorted c.formed.sorted)
      where
        xs : Lines
        xs = items (plan (fold p o) (fold p l) (fold p r))

-- Where names are matched by a key, a new tree's rows are pieces, one for each item of the plan of keys: the rows of the node that
-- the result takes, as they stand in its table, the first of them with the name that the result gives the entry.
use mathlib.Core.Path.{◌≡◌, refl, ap, sym, subst, subst₂, ◌∙◌, fun_ext}
use mathlib.Core.List.{List, [], ◌∷◌, ◌++◌, map, append-nil}
use lib.ListN.{take}
use Prim.Native.Nat.{ℕ, suc, Ordering}
use Rattle.tree.specs.Name.{Name, cmp, if_same}
use Rattle.tree.specs.Forest.{TreePath, Forest, Node, Node.absent, Node.file, Node.folder, Sorted, SortedNode, Present, find, kids, add}
use Rattle.tree.specs.Same.{same_node}
use Rattle.tree.specs.declared.Profile.{Profile}
use Rattle.tree.specs.Key.{key, fold, fold_node, entry, spelling, respell}
use Rattle.tree.proofs.Never.{never}
use Rattle.tree.proofs.Order.{cmp-refl, cmp-eq}
use Rattle.tree.proofs.Forest.{siblings-ind, sorted-child, sorted-find}
use Rattle.tree.proofs.Keys.{key-idem}
use Rattle.tree.proofs.Folds.{respell_node, fold-kids, entry-add, entry-fold, key-spelling, respell-add, reach}
use Rattle.settle.specs.Decision.{Decision, Decision.agreed, Decision.left_gets, Decision.right_gets, Decision.clash, decide}
use Rattle.settle.specs.Names.{Names, names}
use Rattle.settle.specs.Plan.{settle_in, plan, settle}
use Rattle.settle.specs.Results.{below, new, new_left, new_right, new_archive, to_archive, Line, Line.line, Lines, under}
use Rattle.settle.specs.Spelled.{new_left_in, new_right_in, new_archive_in, settled_in}
use Rattle.settle.proofs.Names.{build}
use Rattle.settle.proofs.Outcome.{un-folder}
use Rattle.settle.proofs.Plan.{settle_in-settle, new_node, new-build}
use Rattle.settle.proofs.Induct.{NotBoth, settle-single, settle-ind}
use Rattle.settle.proofs.Picks.{Result, Result.left, Result.right, Result.archive, to, to_below}
use Rattle.settle.proofs.Places.{by_keys, settled_node, result_node, result_in, result-single, result-pair, called, decision_of, here, settled_at, archive-called}
use Rattle.table_row.specs.Table.{Row}
use Rattle.table_row.specs.Tree.{folder_row, rows_of, node_rows, root_name}
use Rattle.table_row.proofs.Tree.{rows-add}
use Rattle.plan.specs.Items.{items}
use Rattle.plan.proofs.Runs.{items_of}
use Rattle.plan_results.proofs.Taken.{deep, piece, concat, over, agreed-same, flat-row, items-over, own-folder}

module _ (p : Profile) where
  -- a name that is no key is no entry's
  entry_other : (n : Name) → (key p n ≡ n → ⊥) → (f : Forest) → entry p n f ≡ absent
  unfolding entry
  entry_other n h = siblings-ind (λ (f : Forest). entry p n f ≡ absent) refl more
    where
      more : (m : Name) (y : Node) (s : Forest) → Present y → entry p n s ≡ absent → entry p n (add m y s) ≡ absent
      more m y s i ih = rw (entry-add p n m y s i) (go (cmp n (key p m)) refl)
        where
          go : (w : Ordering) → cmp n (key p m) ≡ w → if_same w y (entry p n s) ≡ absent
          go Ordering.lt e = ih
          go Ordering.eq e = let q = cmp-eq n (key p m) e in absurd (h (ap (key p) q ∙ key-idem p m ∙ sym q))
          go Ordering.gt e = ih

  -- the rows of a tree over names, respelled twice
  rows-spelled : (e : ℕ) (a b : Forest) (ns : Names) (h : Name → Node) → rows_of e (respell p a (respell p b (build ns h)))
      ≡ over ns (λ n. node_rows e (spelling p (key p n) a (spelling p (key p n) b n)) (respell_node p (entry p (key p n) a) (respell_node p (entry p (key p n) b) (h n))))
  unfolding build over rows_of respell
  rows-spelled e a b [] h = refl
  rows-spelled e a b (n ∷ ns) h =
      rw (
        respell-add p b n (h n) (build ns h),
        respell-add p a (spelling p (key p n) b n) (respell_node p (entry p (key p n) b) (h n)) (respell p b (build ns h)),
        key-spelling p (key p n) b n refl,
        rows-add e (spelling p (key p n) a (spelling p (key p n) b n)) (respell_node p (entry p (key p n) a) (respell_node p (entry p (key p n) b) (h n))) (respell p a (respell p b (build ns h))),
        rows-spelled e a b ns h,
      )

  pub name_free : (e : ℕ) (a b : Name) (x : Node) → (Present x → a ≡ b) → node_rows e a x ≡ node_rows e b x
  unfolding node_rows
  name_free e a b absent h = refl
  name_free e a b (file c) h = rw (h tt)
  name_free e a b (folder k) h = rw (h tt)

  nothing : (s : Result) → new_node (to s) (settle absent absent absent) ≡ absent
  unfolding settle decide same_node
  nothing left = refl
  nothing right = refl
  nothing archive = refl

  -- a pick's tree, respelled, at each name
  module _ (s : Result) (o l r a b : Forest) where
    abbrev taken : Name → Node
    taken n = respell_node p (entry p n a) (respell_node p (entry p n b) (new_node (to s) (here p o l r n)))

    at_key : (e : ℕ) (n : Name) → node_rows e (spelling p (key p n) a (spelling p (key p n) b n))
        (respell_node p (entry p (key p n) a) (respell_node p (entry p (key p n) b) (new_node (below n (to s)) (settle_in (fold p l) n (find n (fold p o)) (find n (fold p r))))))
        ≡ node_rows e (spelling p n a (spelling p n b n)) (taken n)
    unfolding node_rows
    at_key e n =
        rw (settle_in-settle (fold p l) n (find n (fold p o)) (find n (fold p r)), to_below s n, ← entry-fold p n o, ← entry-fold p n l, ← entry-fold p n r)
        (go (cmp (key p n) n) refl)
      where
        none : (key p n ≡ n → ⊥) → new_node (to s) (here p o l r n) ≡ absent
        none h = rw (entry_other n h o, entry_other n h l, entry_other n h r) (nothing s)

        other : (key p n ≡ n → ⊥) → node_rows e (spelling p (key p n) a (spelling p (key p n) b n)) (respell_node p (entry p (key p n) a) (respell_node p (entry p (key p n) b) (new_node (to s) (here p o l r n))))
            ≡ node_rows e (spelling p n a (spelling p n b n)) (taken n)
        other h = rw (none h)

        go : (w : Ordering) → cmp (key p n) n ≡ w → node_rows e (spelling p (key p n) a (spelling p (key p n) b n)) (respell_node p (entry p (key p n) a) (respell_node p (entry p (key p n) b) (new_node (to s) (here p o l r n))))
            ≡ node_rows e (spelling p n a (spelling p n b n)) (taken n)
        go Ordering.eq q = rw (cmp-eq (key p n) n q)
        go Ordering.lt q = other (λ h. let z : cmp n n ≡ Ordering.lt = rw h at q in let y = cmp-refl n in never (cc))
        go Ordering.gt q = other (λ h. let z : cmp n n ≡ Ordering.gt = rw h at q in let y = cmp-refl n in never (cc))

    rows_taken : (e : ℕ) → rows_of e (respell p a (respell p b (new (to s) (plan (fold p o) (fold p l) (fold p r)))))
        ≡ over (names (fold p o) (fold p l) (fold p r)) (λ n. node_rows e (spelling p n a (spelling p n b n)) (taken n))
    unfolding plan
    rows_taken e =
        ap (λ (f : Forest). rows_of e (respell p a (respell p b f))) (new-build (to s) ns (λ n. settle_in (fold p l) n (find n (fold p o)) (find n (fold p r))))
        ∙ rows-spelled e a b ns (λ n. new_node (below n (to s)) (settle_in (fold p l) n (find n (fold p o)) (find n (fold p r))))
        ∙ ap (over ns) (fun_ext (at_key e))
      where
        ns : Names
        ns = names (fold p o) (fold p l) (fold p r)

  respelled-there : (x y : Node) → Present (respell_node p x y) → Present y
  respelled-there x absent h = h
  respelled-there x (file c) h = h
  respelled-there x (folder k) h = h

  -- a result's rows, name by name
  rows-result : (s : Result) (e : ℕ) (o l r : Forest) → rows_of e (result_in p s o l r)
      ≡ over (names (fold p o) (fold p l) (fold p r)) (λ n. node_rows e (called p s n o l r (decision_of p (here p o l r n))) (result_node p s (entry p n o) (entry p n l) (entry p n r)))
  unfolding new_left_in new_right_in new_archive_in new_left new_right new_archive
  rows-result left e o l r = rows_taken left o l r l r e
  rows-result right e o l r = rows_taken right o l r r l e
  rows-result archive e o l r = rows_taken archive o l r (settled_in p o l r) o e ∙ ap (over (names (fold p o) (fold p l) (fold p r))) (fun_ext at_name)
    where
      at_name : (n : Name) → node_rows e (spelling p n (settled_in p o l r) (spelling p n o n)) (respell_node p (entry p n (settled_in p o l r)) (respell_node p (entry p n o) (new_node to_archive (here p o l r n))))
          ≡ node_rows e (called p archive n o l r (decision_of p (here p o l r n))) (result_node p archive (entry p n o) (entry p n l) (entry p n r))
      at_name n =
          rw (settled_at p o l r n)
          (name_free e _ _ (result_node p archive (entry p n o) (entry p n l) (entry p n r))
          (λ h. archive-called p o l r n (respelled-there (entry p n o) (new_node to_archive (here p o l r n))
          (respelled-there (settled_node p (entry p n o) (entry p n l) (entry p n r)) (respell_node p (entry p n o) (new_node to_archive (here p o l r n))) h))))

  -- THE PIECES
  module _ (s : Result) where
    -- the name at a path of keys below three nodes; at their own place it goes by the decision there
    unfoldable pub name_in : (Decision → Name) → Node → Node → Node → TreePath → Decision → Name
    name_in m o l r [] e = m e
    name_in m o l r (n ∷ q) e = name_in (called p s n (kids o) (kids l) (kids r)) (entry p n (kids o)) (entry p n (kids l)) (entry p n (kids r)) q e

    abbrev pub piece_in : ℕ → (Decision → Name) → Node → Node → Node → Line → List Row
    piece_in d m o l r (line q e) = piece e (node_rows (deep d q) (name_in m o l r q e) (to s [] e (reach p o q) (reach p l q) (reach p r q)))

    concat-under : (d : ℕ) (m : Decision → Name) (n : Name) (o l r : Node) (xs : Lines)
        → concat (piece_in d m o l r) (map (under n) xs) ≡ concat (piece_in (suc d) (called p s n (kids o) (kids l) (kids r)) (entry p n (kids o)) (entry p n (kids l)) (entry p n (kids r))) xs
    unfolding concat deep name_in reach
    concat-under d m n o l r [] = refl
    concat-under d m n o l r (line q e ∷ xs) =
        ap (λ (w : List Row). piece_in (suc d) (called p s n (kids o) (kids l) (kids r)) (entry p n (kids o)) (entry p n (kids l)) (entry p n (kids r)) (line q e) ++ w) (concat-under d m n o l r xs)

    -- what both sides hold alike is no folder, so its one row is all of it
    flat-side : (x y : Node) → NotBoth x y → fold_node p x ≡ fold_node p y → NotBoth x x
    flat-side absent y h e = λ f g i j. never (cc)
    flat-side (file c) y h e = λ f g i j. never (cc)
    flat-side (folder k) absent h e = never (cc)
    flat-side (folder k) (file c) h e = never (cc)
    flat-side (folder k) (folder j) h e = absurd (h k j refl refl)

    one-row : (o l r : Node) → NotBoth l r → fold_node p l ≡ fold_node p r → (d : ℕ) (m : Name) → take 1 (node_rows d m (to s [] agreed o l r)) ≡ node_rows d m (to s [] agreed o l r)
    one-row o l r nb q d m = go s
      where
        go : (s : Result) → take 1 (node_rows d m (to s [] agreed o l r)) ≡ node_rows d m (to s [] agreed o l r)
        go left = flat-row d m l (flat-side l r nb q)
        go right = flat-row d m r (flat-side r l (λ f g e h. nb g f h e) (sym q))
        go archive = flat-row d m l (flat-side l r nb q)

    abbrev Pieces : Node → Node → Node → Type 0
    Pieces x y z = (o l r : Node) → fold_node p o ≡ x → fold_node p l ≡ y → fold_node p r ≡ z → SortedNode x → SortedNode y → SortedNode z → (d : ℕ) (m : Decision → Name)
        → concat (piece_in d m o l r) (items_of (settle x y z)) ≡ node_rows d (m (decision_of p (settle x y z))) (result_node p s o l r)

    single-here : (o l r : Node) → NotBoth l r → SortedNode (fold_node p o) → SortedNode (fold_node p l) → SortedNode (fold_node p r) → (d : ℕ) (m : Decision → Name) (e : Decision)
        → decide (fold_node p o) (fold_node p l) (fold_node p r) ≡ e → piece e (node_rows d (m e) (to s [] e o l r)) ≡ node_rows d (m e) (result_node p s o l r)
    single-here o l r nb so sl sr d m e q = go e q ∙ ap (node_rows d (m e)) (sym (result-single p o l r nb so sl sr s ∙ rw q))
      where
        go : (e : Decision) → decide (fold_node p o) (fold_node p l) (fold_node p r) ≡ e → piece e (node_rows d (m e) (to s [] e o l r)) ≡ node_rows d (m e) (to s [] e o l r)
        go agreed q = one-row o l r nb (agreed-same (fold_node p o) (fold_node p l) (fold_node p r) q) d (m agreed)
        go left_gets q = refl
        go right_gets q = refl
        go clash q = refl

    pieces-single : (x y z : Node) → NotBoth y z → Pieces x y z
    unfolding concat deep name_in reach
    pieces-single x y z nb o l r eo el er so sl sr d m =
        let nb' : NotBoth l r = λ f g i j. nb (fold p f) (fold p g) (sym el ∙ ap (fold_node p) i) (sym er ∙ ap (fold_node p) j) in
        rw (settle-single x y z nb)
        (append-nil _ ∙ single-here o l r nb' (rw eo so) (rw el sl) (rw er sr) d m (decide x y z) (rw (eo, el, er)))

    -- the entries of three folders
    module _ (o : Node) (l r : Forest) (so : SortedNode (fold_node p o)) (sl : SortedNode (folder (fold p l))) (sr : SortedNode (folder (fold p r)))
        (ih : (n : Name) → Pieces (find n (kids (fold_node p o))) (find n (fold p l)) (find n (fold p r))) (d : ℕ) (m : Decision → Name) where
      ns : Names
      ns = names (kids (fold_node p o)) (fold p l) (fold p r)

      at_entry : (n : Name) → concat (piece_in d m o (folder l) (folder r)) (map (under n) (items_of (settle_in (fold p l) n (find n (kids (fold_node p o))) (find n (fold p r)))))
          ≡ node_rows (suc d) (called p s n (kids o) l r (decision_of p (here p (kids o) l r n))) (result_node p s (entry p n (kids o)) (entry p n l) (entry p n r))
      at_entry n =
          let eo = entry-fold p n (kids o) ∙ ap (find n) (fold-kids p o) in
          let el = entry-fold p n l in
          let er = entry-fold p n r in
          rw (settle_in-settle (fold p l) n (find n (kids (fold_node p o))) (find n (fold p r)))
          (concat-under d m n o (folder l) (folder r) (items_of (settle (find n (kids (fold_node p o))) (find n (fold p l)) (find n (fold p r))))
          ∙ ih n (entry p n (kids o)) (entry p n l) (entry p n r) eo el er (sorted-child n (fold_node p o) so) (sorted-find n (fold p l) sl) (sorted-find n (fold p r) sr) (suc d) (called p s n (kids o) l r)
          ∙ rw (eo, el, er))

      folder-pieces : concat (piece_in d m o (folder l) (folder r)) (items_of (by_keys p o (folder l) (folder r))) ≡ node_rows d (m (decision_of p (by_keys p o (folder l) (folder r)))) (result_node p s o (folder l) (folder r))
      unfolding settle plan concat node_rows deep name_in reach ns
      folder-pieces =
          rw (own-folder s d (m agreed) o l r, result-pair p s o l r)
          (ap (λ (w : List Row). folder_row d (m agreed) ∷ w)
          (items-over (piece_in d m o (folder l) (folder r)) ns (λ n. settle_in (fold p l) n (find n (kids (fold_node p o))) (find n (fold p r)))
          ∙ ap (over ns) (fun_ext at_entry)
          ∙ rw (← fold-kids p o) (sym (rows-result s (suc d) (kids o) l r))))

    pieces-pair : (x : Node) (y z : Forest) → ((n : Name) → Pieces (find n (kids x)) (find n y) (find n z)) → Pieces x (folder y) (folder z)
    pieces-pair x y z ih o absent r eo el er so sl sr d m = never (cc)
    pieces-pair x y z ih o (file c) r eo el er so sl sr d m = never (cc)
    pieces-pair x y z ih o (folder l) absent eo el er so sl sr d m = never (cc)
    pieces-pair x y z ih o (folder l) (file c) eo el er so sl sr d m = never (cc)
    pieces-pair x y z ih o (folder l) (folder r) eo el er so sl sr d m =
        let fl : fold p l ≡ y = un-folder (fold p l) y el in
        let fr : fold p r ≡ z = un-folder (fold p r) z er in
        let ih' : (n : Name) → Pieces (find n (kids (fold_node p o))) (find n (fold p l)) (find n (fold p r)) = λ n. rw (eo, fl, fr) (ih n) in
        subst₂ (λ (u : Node) (v : Node). concat (piece_in d m o (folder l) (folder r)) (items_of (settle u (folder y) v)) ≡ node_rows d (m (decision_of p (settle u (folder y) v))) (result_node p s o (folder l) (folder r))) eo er
        (subst (λ (u : Node). concat (piece_in d m o (folder l) (folder r)) (items_of (settle (fold_node p o) u (folder (fold p r)))) ≡ node_rows d (m (decision_of p (settle (fold_node p o) u (folder (fold p r))))) (result_node p s o (folder l) (folder r))) el
        (folder-pieces o l r (rw eo so) (rw fl sl) (rw fr sr) ih' d m))

    pub pieces : (o l r : Node) → SortedNode (fold_node p o) → SortedNode (fold_node p l) → SortedNode (fold_node p r) → (d : ℕ) (m : Decision → Name)
        → concat (piece_in d m o l r) (items_of (by_keys p o l r)) ≡ node_rows d (m (decision_of p (by_keys p o l r))) (result_node p s o l r)
    pieces o l r so sl sr = settle-ind Pieces pieces-single pieces-pair (fold_node p o) (fold_node p l) (fold_node p r) o l r refl refl refl so sl sr

    -- A NEW TREE'S ROWS, ITEM BY ITEM
    pub tree-pieces : (o l r : Forest) → Sorted (fold p o) → Sorted (fold p l) → Sorted (fold p r)
        → concat (piece_in 0 (λ e. root_name) (folder o) (folder l) (folder r)) (line [] agreed ∷ items (plan (fold p o) (fold p l) (fold p r))) ≡ node_rows 0 root_name (folder (result_in p s o l r))
    unfolding settle
    tree-pieces o l r so sl sr = pieces (folder o) (folder l) (folder r) so sl sr 0 (λ e. root_name) ∙ rw (result-pair p s (folder o) l r)

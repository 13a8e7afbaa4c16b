-- What the source holds at a path of keys: where its words are, and that they are rows that may be spelled anew.
use Rattle.std.proofs.Common.{Option, Some, None}
use mathlib.Core.Path.{◌≡◌, refl, sym, ap, subst, ◌∙◌}
use mathlib.Core.List.{List, [], ◌∷◌, ◌++◌, append-nil}
use native.Mathlib.Omega.{arith}
use native.Mathlib.Nat.{zero-add}
use lib.ListN.{length, take, drop, length-append}
use Prim.Native.Nat.{ℕ, suc, ◌+◌, ◌*◌, ◌-◌, ◌≤◌}
use Rattle.tree.specs.Name.{Name}
use Rattle.tree.specs.Forest.{Forest, Forest.end, Node, Node.absent, Node.file, Node.folder, TreePath, Present, kids, at, add}
use Rattle.tree.specs.Rules.{Words32, NameRule, ContentRule, Within}
use Rattle.tree.specs.declared.Profile.{Profile}
use Rattle.tree.specs.Key.{fold, fold_node, entry, spelling, FormedIn}
use Rattle.tree.proofs.Size.{row_count}
use Rattle.tree.proofs.Rules.{WithinNode, within-kids, within-add}
use Rattle.tree.proofs.Folds.{formed-fold, present-fold, within-entry, reach, own_name, reach-fold, reach-absent}
use Rattle.table_row.specs.Table.{flat}
use Rattle.table_row.specs.Tree.{rows_of, node_rows, root_name, table, tree_of}
use Rattle.table_row.specs.Keyed.{keyed}
use Rattle.table_row.proofs.Keyed.{table-keyed}
use Rattle.table_row.proofs.Tree.{rows-add}
use Rattle.table_rules.specs.Keyed.{Passes}
use Rattle.table_rules.proofs.Passed.{passed-table, passed-formed}
use Rattle.table_find.specs.Subtree.{end_of}
use Rattle.table_follow.specs.Follow.{follow}
use Rattle.table_stands.specs.Stands.{RuledNode, Holds, found_at}
use Rattle.table_stands.specs.Around.{row_in, name_on}
use Rattle.table_stands.proofs.Forest.{ruled-within}
use Rattle.table_stands.proofs.Subtree.{present-found, stands-end, holds-table}
use Rattle.table_stands.proofs.Path.{follow-at, leads}
use Rattle.table_stands.proofs.Moved.{count-fold}
use Rattle.table_respell.proofs.Node.{ruled-entry}
use Rattle.table_carry.proofs.Nodes.{words_at, node-stands, node-words}
use Rattle.table_moved.specs.declared.Span.{Span}
use Rattle.table_moved.specs.Pieces.{Spans}

module _ (p : Profile) where
  -- a table of keys holds the tree of keys
  pub keys-hold : (w : List ℕ) → Passes p w → Words32 w → Holds (keyed p w) 0 root_name (folder (fold p (tree_of w)))
  keys-hold w P s =
      let F = passed-formed p w P s in
      let e : keyed p w ≡ table (fold p (tree_of w)) = ap (keyed p) (sym (passed-table p w P)) ∙ table-keyed p (tree_of w) F.within in
      rw e (holds-table (fold p (tree_of w)) (formed-fold p (tree_of w) F))

  module _ (w : List ℕ) (P : Passes p w) (s : Words32 w) (q : TreePath) where
    abbrev g : Forest
    g = tree_of w

    abbrev u : List ℕ
    u = keyed p w

    abbrev i : ℕ
    i = row_in (folder (fold p g)) q

    present-at : Present (reach p (folder g) q) → Present (at (folder (fold p g)) q)
    present-at h = subst Present (reach-fold p q (folder g)) (present-fold p (reach p (folder g) q) h)

    -- the same rows in the table and in its table of keys
    same_end : Present (reach p (folder g) q) → end_of u i ≡ end_of w i
    same_end h =
        let y = reach p (folder g) q in
        let e = reach-fold p q (folder g) in
        let h' = present-at h in
        let L = leads q u 0 root_name (folder (fold p g)) (keys-hold w P s) h' in
        stands-end u i (0 + length q) (name_on root_name q) (at (folder (fold p g)) q) L.stands h'
        ∙ ap (λ (x : Node). i + row_count x) (sym e)
        ∙ ap (λ (n : ℕ). i + n) (count-fold p y)
        ∙ sym (stands-end w i (length q) (own_name p root_name (folder g) q) y (node-stands p w P s q h) h)

    -- the words of the part that is found
    pub span-words : (S : Span) → Spans u (follow q u) S → take (S.to - S.from) (drop S.from w) ≡ words_at p g q
    unfolding words_at node_rows flat
    span-words S h = go (reach p (folder g) q) refl
      where
        e : follow q u ≡ found_at (at (folder (fold p g)) q) i
        e = follow-at q u 0 root_name (folder (fold p g)) (keys-hold w P s)

        there : (y : Node) → reach p (folder g) q ≡ y → Present y → take (S.to - S.from) (drop S.from w) ≡ words_at p g q
        there y z n =
            let m : Present (reach p (folder g) q) = subst Present (sym z) n in
            let a : follow q u ≡ Some i = e ∙ present-found (at (folder (fold p g)) q) i (present-at m) in
            let b : S ≡ record { from = 20 * i; to = 20 * end_of w i } = h.span ∙ rw (a, same_end m) in
            rw b (node-words p w P s q m)

        go : (y : Node) → reach p (folder g) q ≡ y → take (S.to - S.from) (drop S.from w) ≡ flat (node_rows (length q) (own_name p root_name (folder g) q) (reach p (folder g) q))
        go absent z =
            let a : follow q u ≡ None = e ∙ ap (λ (x : Node). found_at x i) (sym (reach-fold p q (folder g)) ∙ ap (fold_node p) z) in
            let b : S ≡ record { from = 0; to = 0 } = h.span ∙ rw a in
            rw (b, z)
        go (file c) z = there (file c) z tt
        go (folder k) z = there (folder k) z tt

  -- what stands at a path keeps the rules
  within-reach : (q : TreePath) (d : ℕ) (x : Node) → WithinNode NameRule ContentRule (length q + d) x → WithinNode NameRule ContentRule d (reach p x q)
  unfolding reach
  within-reach [] d x w = rw zero-add at w
  within-reach (n ∷ q) d x w =
      let e : suc (length q) + d ≡ suc (length q + d) = omega arith in
      within-reach q d (entry p n (kids x)) (within-entry p NameRule ContentRule (length q + d) n (kids x) (within-kids NameRule ContentRule (suc (length q + d)) x (rw e at w)))

  name-reach : (k : Name) (q : TreePath) (m : Name) (x : Node) → RuledNode x → Present (reach p x (q ++ (k ∷ []))) → NameRule (own_name p m x (q ++ (k ∷ [])))
  unfolding reach own_name entry
  name-reach k [] m absent r h = absurd h
  name-reach k [] m (file c) r h = absurd h
  name-reach k [] m (folder j) r h = (ruled-entry p k k j r h).0
  name-reach k (n ∷ q) m absent r h = absurd (rw (reach-absent p (q ++ (k ∷ []))) at h)
  name-reach k (n ∷ q) m (file c) r h = absurd (rw (reach-absent p (q ++ (k ∷ []))) at h)
  name-reach k (n ∷ q) m (folder j) r h = name-reach k q (spelling p n j n) (entry p n j) (either (entry p n j) (λ y. (ruled-entry p n n j r y).1)) h
    where
      either : (y : Node) → (Present y → RuledNode y) → RuledNode y
      either absent h = tt
      either (file c) h = h tt
      either (folder j) h = h tt

  -- what a tree holds at a path q and a name k, as the one entry of a folder
  abbrev pub one : Forest → TreePath → Name → Forest
  one f q k = add (own_name p root_name (folder f) (q ++ (k ∷ []))) (reach p (folder f) (q ++ (k ∷ []))) end

  module _ (f : Forest) (F : FormedIn p f) (q : TreePath) (k : Name) (h : length q + 1 ≤ 16) where
    pub one-within : Within NameRule ContentRule (16 - length q) (one f q k)
    unfolding Within
    one-within =
        let l : length (q ++ (k ∷ [])) ≡ length q + 1 = length-append q (k ∷ []) in
        let e : 16 - length q ≡ suc (16 - (length q + 1)) = omega arith in
        let z : 16 ≡ length (q ++ (k ∷ [])) + (16 - (length q + 1)) = omega arith in
        rw e (go (reach p (folder f) (q ++ (k ∷ []))) (within-reach (q ++ (k ∷ [])) (16 - (length q + 1)) (folder f) (rw (← z) F.within)) (name-reach k q root_name (folder f) (ruled-within 16 f F.within)))
      where
        n : Name
        n = own_name p root_name (folder f) (q ++ (k ∷ []))

        go : (y : Node) → WithinNode NameRule ContentRule (16 - (length q + 1)) y → (Present y → NameRule n) → Within NameRule ContentRule (suc (16 - (length q + 1))) (add n y end)
        go absent w r = tt
        go (file c) w r = within-add NameRule ContentRule (16 - (length q + 1)) n (file c) end (r tt) w tt
        go (folder j) w r = within-add NameRule ContentRule (16 - (length q + 1)) n (folder j) end (r tt) w tt

    pub one-words : words_at p f (q ++ (k ∷ [])) ≡ flat (rows_of (suc (length q)) (one f q k))
    unfolding words_at rows_of
    one-words =
        let l : length (q ++ (k ∷ [])) ≡ suc (length q) = length-append q (k ∷ []) ∙ omega arith in
        let n = own_name p root_name (folder f) (q ++ (k ∷ [])) in
        let y = reach p (folder f) (q ++ (k ∷ [])) in
        ap flat (rw l (sym (rows-add (suc (length q)) n y end ∙ append-nil (node_rows (suc (length q)) n y))))

    -- a folder there
    pub folder-within : (j : Forest) → reach p (folder f) q ≡ folder j → Within NameRule ContentRule (16 - length q) j
    folder-within j e =
        let z : 16 ≡ length q + (16 - length q) = omega arith in
        rw e at (within-reach q (16 - length q) (folder f) (rw (← z) F.within))

-- what a search that comes to a row finds of a table, as places
pub spans-at : (w : List ℕ) (f : Option ℕ) (i z : ℕ) → f ≡ Some i → (z ≡ end_of w i) × (20 * z ≤ length w) → Spans w f (record { from = 20 * i; to = 20 * z })
spans-at w f i z e h = record { span = rw (e, h.0); first = omega (arith, h.0); last = h.1 }

pub spans-none : (w : List ℕ) (f : Option ℕ) → f ≡ None → Spans w f (record { from = 0; to = 0 })
spans-none w f e = record { span = rw e; first = omega arith; last = omega arith }

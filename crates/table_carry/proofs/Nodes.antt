-- What a list entry carries, on trees: at a path of keys where a node stands, the words of that node and nothing else.
use mathlib.Core.Path.{◌≡◌, sym, ◌∙◌}
use mathlib.Core.List.{List, [], append-nil}
use native.Mathlib.Nat.{zero-add}
use lib.ListN.{length}
use Prim.Native.Nat.{ℕ}
use Rattle.tree.specs.Forest.{Forest, Node.folder, TreePath, Present}
use Rattle.tree.specs.Rules.{Words32}
use Rattle.tree.specs.declared.Profile.{Profile}
use Rattle.tree.specs.Key.{fold}
use Rattle.tree.proofs.Folds.{reach, own_name}
use Rattle.table_row.specs.Table.{flat}
use Rattle.table_row.specs.Tree.{node_rows, root_name, tree_of}
use Rattle.table_rules.specs.Keyed.{Passes}
use Rattle.table_rules.proofs.Passed.{passed-rows, passed-formed}
use Rattle.table_rules.proofs.Passing.{passes-check}
use Rattle.table_find.specs.Subtree.{subtree}
use Rattle.table_stands.specs.Stands.{Stands}
use Rattle.table_stands.specs.Around.{row_in}
use Rattle.table_stands.proofs.Subtree.{stands-words}
use Rattle.table_stands.proofs.Keyed.{stands-reach}
use Rattle.table_carry.specs.Carried.{carried_rows}

module _ (p : Profile) where
  -- the words of what a tree holds at a path of keys
  unfoldable pub words_at : Forest → TreePath → List ℕ
  words_at f q = flat (node_rows (length q) (own_name p root_name (folder f) q) (reach p (folder f) q))

  -- where it stands in the table
  module _ (w : List ℕ) (P : Passes p w) (s : Words32 w) (q : TreePath) (h : Present (reach p (folder (tree_of w)) q)) where
    pub node-stands : Stands w (row_in (folder (fold p (tree_of w))) q) (length q) (own_name p root_name (folder (tree_of w)) q) (reach p (folder (tree_of w)) q)
    node-stands =
        let f = tree_of w in
        let k = row_in (folder (fold p f)) q in
        let r : Stands w 0 0 root_name (folder f) = record { rest = []; here = passed-rows p w P ∙ sym (append-nil (node_rows 0 root_name (folder f))); ended = tt } in
        rw (zero-add k, zero-add (length q)) at (stands-reach p q w 0 0 root_name (folder f) r (passed-formed p w P s).sorted h)

    pub node-words : subtree w (row_in (folder (fold p (tree_of w))) q) ≡ words_at (tree_of w) q
    unfolding words_at
    node-words = stands-words w (row_in (folder (fold p (tree_of w))) q) (length q) (own_name p root_name (folder (tree_of w)) q) (reach p (folder (tree_of w)) q) node-stands h

  module _ (left right : List ℕ) (i : ℕ) (q : TreePath) (L : Passes p left) (R : Passes p right) where
    -- left gets what right holds at the path
    pub carries-right : Words32 right → Present (reach p (folder (tree_of right)) q)
        → carried_rows p left right 1 i (row_in (folder (fold p (tree_of right))) q) ≡ words_at (tree_of right) q
    unfolding carried_rows
    carries-right s h = rw (passes-check p left L, passes-check p right R) (node-words right R s q h)

    -- right gets what left holds at the path
    pub carries-left : Words32 left → Present (reach p (folder (tree_of left)) q)
        → carried_rows p left right 2 (row_in (folder (fold p (tree_of left))) q) i ≡ words_at (tree_of left) q
    unfolding carried_rows
    carries-left s h = rw (passes-check p left L, passes-check p right R) (node-words left L s q h)

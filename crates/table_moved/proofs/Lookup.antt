-- What a path leads to in a checked table: the row of a folder.
use Rattle.std.proofs.Common.{Option, Some, None}
use mathlib.Core.Path.{◌≡◌, refl, sym, ap, subst, ◌∙◌}
use mathlib.Core.List.{List, ◌++◌}
use mathlib.Core.Bool.{cond}
use native.Mathlib.Omega.{arith}
use lib.ListN.{length, get_or}
use Prim.Native.Nat.{ℕ, suc, ◌+◌}
use mir.Val.{Fits}
use mir.Syntax.{w32}
use Rattle.tree.specs.Name.{Name}
use Rattle.tree.specs.Forest.{Forest, Node, Node.absent, Node.file, Node.folder, TreePath, Present, at}
use Rattle.tree.specs.Rules.{Words32}
use Rattle.tree.specs.declared.Profile.TheVariants.{Exact}
use Rattle.tree.proofs.Folds.{formed-exact}
use Rattle.table_row.specs.Table.{row_at, kind}
use Rattle.table_row.specs.Tree.{file_row, folder_row, rows_of, node_rows, root_name, tree_of}
use Rattle.table_rules.specs.Keyed.{Passes}
use Rattle.table_rules.proofs.Passed.{passed-table, passed-formed}
use Rattle.table_rules.proofs.Small.{small_all}
use Rattle.table_find.specs.Entry.{Finds}
use Rattle.table_follow.specs.Follow.{follow}
use Rattle.table_stands.specs.Stands.{Stands, RuledNode, Holds, found_at}
use Rattle.table_stands.specs.Around.{row_in, name_on}
use Rattle.tree.proofs.Never.{never}
use Rattle.table_follow.proofs.Follow.{inside-at}
use Rattle.table_stands.proofs.Rows.{head}
use Rattle.table_stands.proofs.Subtree.{holds-table}
use Rattle.table_stands.proofs.Path.{ruled-at, follow-at, leads}
use Rattle.table_moved.specs.Move.{is_folder}
use Rattle.table_moved.specs.Pieces.{folder_at}

-- the words of a slice are of 32 bits
pub slice-words : (w : List ℕ) → ((k : ℕ) → Fits w32 (get_or w k 0)) → Words32 w
slice-words w s = small_all w (λ k. omega (arith, s k))

-- a checked table holds its tree
pub table-holds : (w : List ℕ) → Passes Exact w → Words32 w → Holds w 0 root_name (folder (tree_of w))
table-holds w P s = rw (passed-table Exact w P) at (holds-table (tree_of w) (formed-exact (tree_of w) (passed-formed Exact w P s)))

found-row : (y : Node) (i j : ℕ) → found_at y j ≡ Some i → Present y × (j ≡ i)
found-row absent i j e = never (cc)
found-row (file c) i j e = (tt, cc)
found-row (folder k) i j e = (tt, cc)

found_none : (y : Node) (j : ℕ) → found_at y j ≡ None → y ≡ absent
found_none absent j e = refl
found_none (file c) j e = never (cc)
found_none (folder k) j e = never (cc)

-- a folder's row has kind 0, a file's kind 1
abbrev kind_of : Node → ℕ
kind_of absent = 0
kind_of (file c) = 1
kind_of (folder k) = 0

kind_at : (w : List ℕ) (i d : ℕ) (n : Name) (y : Node) → Present y → Stands w i d n y → RuledNode y → kind (row_at w i) ≡ kind_of y
unfolding node_rows
kind_at w i d n absent h s u = absurd h
kind_at w i d n (file c) h s u = ap kind (head w i (file_row d n c) s.rest s.here).row ∙ u.kind
kind_at w i d n (folder k) h s u = ap kind (head w i (folder_row d n) (rows_of (suc d) k ++ s.rest) s.here).row

-- a path looked up in a table
module _ (w : List ℕ) (P : Passes Exact w) (s : Words32 w) (p : TreePath) (r : Option ℕ) (e : Finds w (follow p w) r) where
  abbrev f : Forest
  f = tree_of w

  abbrev y : Node
  y = at (folder f) p

  H : Holds w 0 root_name (folder f)
  H = table-holds w P s

  found : r ≡ found_at y (row_in (folder f) p)
  found = e.answer ∙ follow-at p w 0 root_name (folder f) H

  module _ (i : ℕ) (h : r ≡ Some i) where
    here : Present y × (row_in (folder f) p ≡ i)
    here = found-row y i (row_in (folder f) p) (sym found ∙ h)

    stands : Stands w i (0 + length p) (name_on root_name p) y
    stands = subst (λ (j : ℕ). Stands w j (0 + length p) (name_on root_name p) y) here.1 (leads p w 0 root_name (folder f) H here.0).stands

    kind-here : kind (row_at w i) ≡ kind_of y
    kind-here = kind_at w i (0 + length p) (name_on root_name p) y here.0 stands (ruled-at p (folder f) H.ruled)

    -- its row's kind tells whether it is a folder
    pub folder-found : kind (row_at w i) ≡ 0 → Finds w (folder_at f p) (Some i)
    unfolding folder_at
    folder-found z = record { answer = sym (go y here.0 (sym kind-here ∙ z)); inside = inside-at w r i h e.inside }
      where
        go : (x : Node) → Present x → kind_of x ≡ 0 → cond (is_folder x) (Some (row_in (folder f) p)) None ≡ Some i
        go absent h k = absurd h
        go (file c) h k = absurd (omega arith)
        go (folder j) h k = ap Some here.1

    pub file-found : (kind (row_at w i) ≡ 0 → ⊥) → Finds w (folder_at f p) None
    unfolding folder_at
    file-found z = record { answer = sym (go y (λ k. z (kind-here ∙ k))); inside = tt }
      where
        go : (x : Node) → (kind_of x ≡ 0 → ⊥) → cond (is_folder x) (Some (row_in (folder f) p)) None ≡ None
        go absent k = refl
        go (file c) k = refl
        go (folder j) k = absurd (k refl)

  pub none_found : r ≡ None → Finds w (folder_at f p) None
  unfolding folder_at
  none_found h = let z = found_none y (row_in (folder f) p) (sym found ∙ h) in record { answer = rw z; inside = tt }

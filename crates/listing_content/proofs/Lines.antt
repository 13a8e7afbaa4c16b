-- The text row by row is the text of the tree.
use mathlib.Core.Path.{◌≡◌, sym, ap, ◌∙◌}
use mathlib.Core.List.{List, [], ◌∷◌, ◌++◌, append_assoc, append-nil}
use native.Mathlib.Omega.{arith}
use native.Mathlib.Numerals.{add-one}
use Prim.Native.Nat.{ℕ, zero, suc, ◌+◌, ◌-◌, ◌≤◌}
use borrow.Author.Tests.{ne_eqb}
use Rattle.tree.specs.Forest.{Content, Forest, Forest.end, Forest.leaf, Forest.dir, Node.folder}
use Rattle.tree.specs.Name.{Name}
use Rattle.tree.specs.Rules.{NameRule, ContentRule, Within}
use Rattle.table_row.specs.Table.{Row, rows, depth, kind}
use Rattle.table_row.specs.Tree.{file_row, folder_row, rows_of, node_rows, root_name}
use Rattle.listing.specs.Bytes.{text}
use Rattle.listing.specs.Writing.{name_text, dir_line, file_line, lines_of, text_of}
use Rattle.table_row.proofs.Tree.{name-folder, name-file, content-file, Ended, ended-rows, ended-deeper}
use Rattle.listing_content.specs.Rows.{line_of, dots, opened, lines_from, text_by_rows}
use Rattle.listing_content.proofs.Content.{open-leaf, dots-end}

dots-append : (m n : ℕ) → dots (m + n) ≡ dots m ++ dots n
unfolding dots
dots-append zero n = let e : 0 + n ≡ n = omega arith in rw e
dots-append (suc m) n = let e : suc m + n ≡ suc (m + n) = omega arith in rw (e, dots-append m n)

-- folders end in two steps as in one
dots-split : (n d e : ℕ) → e ≤ d → d ≤ n → dots (n - e) ≡ dots (n - d) ++ dots (d - e)
dots-split n d e h g = let q : n - e ≡ (n - d) + (d - e) = omega arith in rw q (dots-append (n - d) (d - e))

dots-one : (d : ℕ) → dots (suc d - d) ≡ text "..\n"
unfolding dots
dots-one d = let e : suc d - d ≡ 1 = omega arith in rw e

-- the rows' lines, where the folder of depth d that they stand in has ended
lines-ended : (d n : ℕ) (rs : List Row) → Ended d rs → d ≤ n → lines_from n rs ≡ dots (n - d) ++ lines_from d rs
unfolding lines_from Ended
lines-ended d n [] h g = let e : n ≡ (n - d) + d = omega arith in ap dots e ∙ dots-append (n - d) d
lines-ended d n (r ∷ rs) h g =
    rw (dots-split n d (depth r) (omega arith) g) (append_assoc (dots (n - d)) (dots (d - depth r)) (line_of r ++ lines_from (opened r) rs))

-- the rows of a tree's entries
module _ (d : ℕ) {n : Name} (N : NameRule n) where
  line-folder : line_of (folder_row d n) ≡ dir_line (name_text n)
  unfolding line_of
  line-folder = rw (name-folder d N)

  open-folder : opened (folder_row d n) ≡ suc d
  unfolding opened
  open-folder = add-one d

  module _ {c : Content} (C : ContentRule c) where
    not-folder : kind (file_row d n c) ≡ 0 → ⊥
    not-folder e = omega (arith, C.kind)

    line-file : line_of (file_row d n c) ≡ file_line n c
    unfolding line_of
    line-file = rw (ne_eqb _ _ not-folder, name-file d N c, content-file d N C)

    open-file : opened (file_row d n c) ≡ d
    open-file = open-leaf (file_row d n c) not-folder

-- siblings of depth d, before which m folders are open, and the rows after their folder's last
lines_rows : (k d m : ℕ) (f : Forest) (rs : List Row) → Within NameRule ContentRule k f → Ended d rs → d ≤ m
    → lines_from m (rows_of d f ++ rs) ≡ dots (m - d) ++ (lines_of f ++ lines_from d rs)
unfolding rows_of lines_of lines_from Within
lines_rows k d m end rs w h g = lines-ended d m rs h g
lines_rows zero d m (leaf n c s) rs w h g = absurd w
lines_rows (suc k) d m (leaf n c s) rs w h g =
    rw (
      line-file d w.0 w.1,
      open-file d w.0 w.1,
      lines_rows (suc k) d d s rs w.2 h (omega arith),
      dots-end d d (omega arith),
      append_assoc (file_line n c) (lines_of s) (lines_from d rs),
    )
lines_rows zero d m (dir n j s) rs w h g = absurd w
lines_rows (suc k) d m (dir n j s) rs w h g =
    rw (
      append_assoc (rows_of (suc d) j) (rows_of d s) rs,
      line-folder d w.0,
      open-folder d w.0,
      lines_rows k (suc d) (suc d) j (rows_of d s ++ rs) w.1 (ended-rows d (suc d) s rs (omega arith) (ended-deeper d rs h)) (omega arith),
      dots-end (suc d) (suc d) (omega arith),
      lines_rows (suc k) d (suc d) s rs w.2 h (omega arith),
      dots-one d,
    )
    (simp append_assoc)

lines-tree : (f : Forest) → Within NameRule ContentRule 16 f → lines_from 1 (rows_of 1 f) ≡ lines_of f ++ text "..\n"
unfolding lines_from dots Ended
lines-tree f W = ap (lines_from 1) (sym (append-nil (rows_of 1 f))) ∙ lines_rows 16 1 1 f [] W tt (omega arith)

-- a whole tree's rows
pub listing-text : (w : List ℕ) (f : Forest) → Within NameRule ContentRule 16 f → rows w ≡ node_rows 0 root_name (folder f) → text_by_rows w ≡ text_of f
unfolding text_by_rows text_of node_rows dir_line
listing-text w f W e = rw (e, lines-tree f W)

-- The pieces by decision and result, and how long they are.
use mathlib.Core.Path.{◌≡◌, refl, ◌∙◌}
use mathlib.Core.List.{List}
use native.Mathlib.Omega.{arith}
use lib.ListN.{length, take, drop, length-take, length-drop, length-append}
use lib.Seq.{length-take-le}
use Prim.Native.Nat.{ℕ, ◌+◌, ◌-◌, ◌%◌, ◌≤◌}
use Rattle.table_row.specs.Table.{row_at}
use Rattle.table_row.specs.Buffer.{written}
use Rattle.table_find.specs.Subtree.{subtree}
use Rattle.plan_cursor.specs.declared.Rows.{Rows}
use Rattle.plan_cursor.specs.declared.Decision.{Decision}
use Rattle.plan_cursor.specs.declared.Decision.TheVariants.{Agreed, LeftGets, RightGets, Clash}
use Rattle.plan_cursor.specs.Three.{Three}
use Rattle.plan.specs.Writes.{Writes}
use Rattle.plan_results.specs.declared.Tree.{Tree}
use Rattle.plan_results.specs.declared.Tree.TheVariants.{Archive, Left, Right}
use Rattle.plan_results.specs.declared.Source.{Source}
use Rattle.plan_results.specs.declared.Source.TheVariants.{OldPart, LeftPart, RightPart, LeftRow, RightRow}
use Rattle.plan_results.specs.Decisions.{pieces}
use Rattle.plan_results.specs.Pieces.{source_of, source_words, taken, named, name_row, piece_of, piece_list, new_tree}
use Rattle.plan_results.proofs.Renamed.{length-named, named-writes}

row_small : (w : List ℕ) (i : ℕ) → length w ≤ 81920 → length (row_at w i) ≤ 81920
row_small w i h = simp (length-take, length-drop) (omega arith)

subtree-small : (w : List ℕ) (i : ℕ) → length w ≤ 81920 → length (subtree w i) ≤ 81920
subtree-small w i h = simp (length-take, length-drop) (omega arith)

pub source-small : (o l r : List ℕ) → Three o l r → (s : Source) → length (source_words o l r s) ≤ 81920
source-small o l r h (OldPart i) = subtree-small o i h.o-small
source-small o l r h (LeftPart i) = subtree-small l i h.l-small
source-small o l r h (RightPart i) = subtree-small r i h.r_small
source-small o l r h (LeftRow i) = row_small l i h.l-small
source-small o l r h (RightRow i) = row_small r i h.r_small

pub row-whole : (w : List ℕ) (i : ℕ) → length w % 20 ≡ 0 → length (row_at w i) % 20 ≡ 0
row-whole w i h = simp (length-take, length-drop) (omega arith)

subtree-whole : (w : List ℕ) (i : ℕ) → length w % 20 ≡ 0 → length (subtree w i) % 20 ≡ 0
subtree-whole w i h = simp (length-take, length-drop) (omega arith)

source-whole : (o l r : List ℕ) → Three o l r → (s : Source) → length (source_words o l r s) % 20 ≡ 0
source-whole o l r h (OldPart i) = subtree-whole o i h.o-whole
source-whole o l r h (LeftPart i) = subtree-whole l i h.l-whole
source-whole o l r h (RightPart i) = subtree-whole r i h.r-whole
source-whole o l r h (LeftRow i) = row-whole l i h.l-whole
source-whole o l r h (RightRow i) = row-whole r i h.r-whole

name-whole : (t : Tree) (l r : List ℕ) (h : Rows) → length l % 20 ≡ 0 → length r % 20 ≡ 0 → length (name_row t l r h) % 20 ≡ 0
name-whole Archive l r h a b = row-whole l h.l a
name-whole Left l r h a b = row-whole l h.l a
name-whole Right l r h a b = row-whole r h.r b

-- a piece is as long as what is taken
pub piece-length : (t : Tree) (o l r : List ℕ) → Three o l r → (d : Decision) → length (piece_of t o l r d) ≡ length (taken t o l r d)
piece-length t o l r T (Agreed h) = refl
piece-length t o l r T (LeftGets h) = length-named (name_row t l r h) _ (name-whole t l r h T.l-whole T.r-whole) (source-whole o l r T (source_of (LeftGets h) t))
piece-length t o l r T (RightGets h) = length-named (name_row t l r h) _ (name-whole t l r h T.l-whole T.r-whole) (source-whole o l r T (source_of (RightGets h) t))
piece-length t o l r T (Clash h) = refl

-- what is taken has been written, and is to be named
module _ (t : Tree) (o l r : List ℕ) (T : Three o l r) (d : Decision) {b e : List ℕ} {at q : ℕ} (w : Writes b at (taken t o l r d) e q) where
  pub moved-room : at + length (piece_of t o l r d) ≤ length b → length e ≡ length b
      → (at ≤ q) × ((q - at) % 20 ≡ 0) × (q ≤ length e)
  moved-room h s =
      let n = w.next in
      let m = source-whole o l r T (source_of d t) in
      (omega arith, omega arith, omega (arith, piece-length t o l r T d))

  pub moved_named : (h : Rows) {f : List ℕ} → at ≤ length b → f ≡ written e at (named (name_row t l r h) (take (q - at) (drop at e)))
      → Writes b at (named (name_row t l r h) (taken t o l r d)) f q
  moved_named h i g = named-writes (name_row t l r h) (name-whole t l r h T.l-whole T.r-whole) (source-whole o l r T (source_of d t)) i w g

module _ (t : Tree) (o l r : List ℕ) (ds : List Decision) where
  pub tree-split : length (new_tree t o l r ds) ≡ length (row_at l 0) + length (pieces (piece_of t o l r) ds)
  unfolding new_tree
  tree-split = simp length-append

  -- behind the root's row there is room for the pieces
  pub tree-room : {q m m' : ℕ} → length (new_tree t o l r ds) ≤ m → q ≡ 0 + length (row_at l 0) → m' ≡ m
      → q + length (pieces (piece_of t o l r) ds) ≤ m'
  tree-room h e s = omega (arith, tree-split)

  pub tree-length : 20 ≤ length l → length (new_tree t o l r ds) ≡ 20 + length (pieces (piece_of t o l r) ds)
  tree-length h = tree-split ∙ rw (length-take-le 20 l h)

pub line-most : (d : Decision) → length (piece_list d) ≤ 3
line-most (Agreed h) = omega arith
line-most (LeftGets h) = omega arith
line-most (RightGets h) = omega arith
line-most (Clash h) = omega arith

-- A node that stands at a row is the subtree there: where it ends, and its words.
use Rattle.std.proofs.Common.{Some}
use mathlib.Core.Path.{◌≡◌, refl, sym, ap, ◌∙◌}
use mathlib.Core.List.{List, [], ◌∷◌, ◌++◌, append-nil}
use native.Mathlib.Omega.{arith}
use lib.ListN.{length, take, drop, length-append}
use lib.Seq.{take_at}
use Prim.Native.Nat.{ℕ, suc, ◌+◌, ◌*◌, ◌-◌, ◌/◌, ◌%◌, ◌≤◌}
use Rattle.tree.specs.Name.{Name}
use Rattle.tree.specs.Forest.{Forest, Node, Node.absent, Node.file, Node.folder, size, Present}
use Rattle.tree.specs.Rules.{WellFormed}
use Rattle.tree.proofs.Size.{some-rows, row_count}
use Rattle.table_row.specs.Table.{Row, rows, flat, depth}
use Rattle.table_row.specs.Tree.{folder_row, file_row, rows_of, node_rows, root_name, table}
use Rattle.table_find.specs.Subtree.{run, end_of, subtree}
use Rattle.table_find.proofs.Walk.{subtree-none}
use Rattle.table_row.proofs.Flat.{rows-flat}
use Rattle.table_stands.specs.Stands.{Stands, StandsOr, found_at, Holds}
use Rattle.table_stands.proofs.Rows.{words-rows, length-rows-from, head}
use Rattle.table_stands.proofs.Forest.{length-node_rows, run-ended, run-rows, wide-node_rows, ruled-within}

pub present-found : (x : Node) (i : ℕ) → Present x → found_at x i ≡ Some i
present-found absent i h = absurd h
present-found (file c) i h = refl
present-found (folder k) i h = refl

-- a row with a run of deeper ones after it
ends : (w : List ℕ) (i d m : ℕ) (r : Row) (rs : List Row) → drop i (rows w) ≡ r ∷ rs → depth r ≡ d → run d rs ≡ m → end_of w i ≡ i + suc m
ends w i d m r rs e g h =
    let k = head w i r rs e in
    rw (k.row, k.next, g) (omega arith)

-- the subtree of x ends after its rows
pub stands-end : (w : List ℕ) (i d : ℕ) (n : Name) (x : Node) → Stands w i d n x → Present x → end_of w i ≡ i + row_count x
unfolding node_rows
stands-end w i d n absent s p = absurd p
stands-end w i d n (file c) s p = ends w i d 0 (file_row d n c) s.rest s.here refl (run-ended d s.rest s.ended)
stands-end w i d n (folder k) s p =
    ends w i d (size k) (folder_row d n) (rows_of (suc d) k ++ s.rest) s.here refl
    (run-rows d (suc d) k s.rest (omega arith) ∙ (let e = run-ended d s.rest s.ended in omega arith))

-- and its words are theirs
pub stands-words : (w : List ℕ) (i d : ℕ) (n : Name) (x : Node) → Stands w i d n x → Present x → subtree w i ≡ flat (node_rows d n x)
stands-words w i d n x s p =
    let m = row_count x in
    let e : 20 * end_of w i - 20 * i ≡ 20 * m = omega (arith, stands-end w i d n x s p) in
    let l : length (node_rows d n x ++ s.rest) ≡ m + length s.rest = length-append (node_rows d n x) s.rest ∙ rw length-node_rows in
    let h : i + m ≤ length w / 20 = omega (arith, l, ap length s.here, length-rows-from w i, some-rows x p) in
    rw e (words-rows w i m h ∙ ap flat (ap (take m) s.here ∙ take_at (node_rows d n x) s.rest m (length-node_rows d n x)))

-- a row that is not there has no words, as absence has none
pub held-words : (w : List ℕ) (i d : ℕ) (n : Name) (x : Node) → length w % 20 ≡ 0 → StandsOr w i d n x → subtree w i ≡ flat (node_rows d n x)
unfolding node_rows flat
held-words w i d n absent m h = subtree-none w i m h
held-words w i d n (file c) m h = stands-words w i d n (file c) h tt
held-words w i d n (folder k) m h = stands-words w i d n (folder k) h tt

-- in its own words a node stands at row 0
pub stands-whole : (w : List ℕ) (d : ℕ) (n : Name) (x : Node) → Holds w d n x → Stands w 0 d n x
stands-whole w d n x h = record {
  rest = [];
  here = ap rows h.words ∙ rows-flat (node_rows d n x) (wide-node_rows d n x h.eight h.ruled) ∙ sym (append-nil (node_rows d n x));
  ended = tt;
}

-- a checked tree's table holds it
pub holds-table : (f : Forest) → WellFormed f → Holds (table f) 0 root_name (folder f)
unfolding table
holds-table f h = record { words = refl; eight = refl; ruled = ruled-within 16 f h.within; sorted = h.sorted; present = tt }

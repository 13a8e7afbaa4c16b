-- A run of siblings in a table, seen from its first row: the cursor there, the order of two heads, and the next sibling.
use mathlib.Core.Path.{◌≡◌, refl, ap, sym, ◌∙◌}
use mathlib.Core.List.{List, [], ◌∷◌, ◌++◌, append_assoc}
use native.Mathlib.Omega.{arith}
use lib.ListN.{drop}
use lib.Seq.{drop-drop, drop_at}
use Prim.Native.Nat.{ℕ, suc, ◌+◌, ◌<◌}
use borrow.Author.Tests.{lt-ltb, le-ltb, eq-eqb, ne_eqb}
use Rattle.tree.specs.Name.{Name}
use Rattle.tree.specs.Forest.{Forest, Forest.end, Forest.leaf, Forest.dir, Node, Node.absent, Node.file, Node.folder, add, size, Present}
use Rattle.tree.proofs.Size.{row_count}
use Rattle.table_row.specs.Table.{Row, rows, depth}
use Rattle.table_row.specs.Tree.{file_row, folder_row, rows_of, node_rows}
use Rattle.table_row.proofs.Tree.{rows-add}
use Rattle.table_stands.specs.Stands.{Ended, Stands}
use Rattle.plan_cursor.specs.Cursor.{none, seek, from, behind}
use Rattle.table_stands.proofs.Rows.{head}
use Rattle.table_stands.proofs.Forest.{length-node_rows, ended-up, ended-rows}

-- the rows from row b on are those of the siblings f, beneath a folder of depth e
pub record Siblings (w : List ℕ) (e : ℕ) (f : Forest) (b : ℕ) : Type 0 where
  pub rest : List Row
  pub here : drop b (rows w) ≡ rows_of (suc e) f ++ rest
  pub ended : Ended e rest

-- the same, where there is a sibling
abbrev pub Run : List ℕ → ℕ → Forest → ℕ → Type 0
Run w e end b = Unit {0}
Run w e (leaf m c s) b = Siblings w e (leaf m c s) b
Run w e (dir m k s) b = Siblings w e (dir m k s) b

pub run : (w : List ℕ) (e : ℕ) (f : Forest) (b : ℕ) → Siblings w e f b → Run w e f b
run w e end b s = tt
run w e (leaf m c t) b s = s
run w e (dir m k t) b s = s

pub run-add : (w : List ℕ) (e : ℕ) (m : Name) (y : Node) (s : Forest) (b : ℕ) → Present y → Run w e (add m y s) b → Siblings w e (add m y s) b
run-add w e m absent s b h r = absurd h
run-add w e m (file c) s b h r = r
run-add w e m (folder k) s b h r = r

-- the row of the first sibling
abbrev pub head_row : Forest → ℕ → ℕ
head_row end b = none
head_row (leaf m c s) b = b
head_row (dir m k s) b = b

pub head_row-add : (m : Name) (y : Node) (s : Forest) (b : ℕ) → Present y → head_row (add m y s) b ≡ b
head_row-add m absent s b h = absurd h
head_row-add m (file c) s b h = refl
head_row-add m (folder k) s b h = refl

head_rows : (w : List ℕ) (e : ℕ) (m : Name) (y : Node) (s : Forest) (b : ℕ) (r : Siblings w e (add m y s) b)
    → drop b (rows w) ≡ node_rows (suc e) m y ++ (rows_of (suc e) s ++ r.rest)
head_rows w e m y s b r =
    r.here ∙ ap (λ (rs : List Row). rs ++ r.rest) (rows-add (suc e) m y s) ∙ append_assoc (node_rows (suc e) m y) (rows_of (suc e) s) r.rest

-- the first sibling stands at the first row
pub head-stands : (w : List ℕ) (e : ℕ) (m : Name) (y : Node) (s : Forest) (b : ℕ) → Siblings w e (add m y s) b → Stands w b (suc e) m y
head-stands w e m y s b r = record {
  rest = rows_of (suc e) s ++ r.rest;
  here = head_rows w e m y s b r;
  ended = ended-rows (suc e) s r.rest (ended-up e r.rest r.ended);
}

-- the next sibling stands behind its rows
pub siblings-next : (w : List ℕ) (e : ℕ) (m : Name) (y : Node) (s : Forest) (b : ℕ) → Siblings w e (add m y s) b → Siblings w e s (b + row_count y)
siblings-next w e m y s b r = record {
  rest = r.rest;
  here = sym (drop-drop (row_count y) b (rows w)) ∙ ap (drop (row_count y)) (head_rows w e m y s b r)
      ∙ drop_at (node_rows (suc e) m y) (rows_of (suc e) s ++ r.rest) (row_count y) (length-node_rows (suc e) m y);
  ended = r.ended;
}

-- the search for a sibling finds the first, and passes over what is deeper
seek-run : (e i : ℕ) (f : Forest) (rs : List Row) → Ended e rs → seek (suc e) i (rows_of (suc e) f ++ rs) ≡ head_row f i
unfolding seek rows_of
seek-run e i end [] h = refl
seek-run e i end (r ∷ rs) h = rw (ne_eqb (depth r) (suc e) (λ q. omega arith), lt-ltb (depth r) (suc e) (omega arith))
seek-run e i (leaf m c s) rs h = rw (eq-eqb (suc e) (suc e) refl)
seek-run e i (dir m k s) rs h = rw (eq-eqb (suc e) (suc e) refl)

seek-over : (d e i : ℕ) (f : Forest) (rs : List Row) → d < e → seek d i (rows_of e f ++ rs) ≡ seek d (i + size f) rs
unfolding seek rows_of size
seek-over d e i end rs h = let z : i + 0 ≡ i = omega arith in rw z
seek-over d e i (leaf n c s) rs h =
    let z : suc i + size s ≡ i + suc (size s) = omega arith in
    rw (ne_eqb e d (λ q. omega arith), le-ltb e d (omega arith), ← z) (seek-over d e (suc i) s rs h)
seek-over d e i (dir n k s) rs h =
    let z : suc i + size k + size s ≡ i + suc (size k + size s) = omega arith in
    rw (ne_eqb e d (λ q. omega arith), le-ltb e d (omega arith), append_assoc (rows_of (suc e) k) (rows_of e s) rs, ← z)
    (seek-over d (suc e) (suc i) k (rows_of e s ++ rs) (omega arith) ∙ seek-over d e (suc i + size k) s rs h)

pub from-run : (w : List ℕ) (e : ℕ) (f : Forest) (b : ℕ) → Siblings w e f b → from w (suc e) b ≡ head_row f b
from-run w e f b r = rw r.here (seek-run e b f r.rest r.ended)

-- behind the first sibling comes the next
pub behind-head : (w : List ℕ) (e : ℕ) (m : Name) (y : Node) (s : Forest) (b i : ℕ) → Present y → Siblings w e (add m y s) b
    → behind w (suc e) i b ≡ head_row s (b + row_count y)
unfolding behind node_rows
behind-head w e m absent s b i p r = absurd p
behind-head w e m (file c) s b i p r =
    let q = head w b (file_row (suc e) m c) (rows_of (suc e) s ++ r.rest) (head_rows w e m (file c) s b r) in
    rw (lt-ltb _ _ q.is, q.next) (seek-run e (b + 1) s r.rest r.ended)
behind-head w e m (folder k) s b i p r =
    let q = head w b (folder_row (suc e) m) (rows_of (suc (suc e)) k ++ (rows_of (suc e) s ++ r.rest)) (head_rows w e m (folder k) s b r) in
    let z : b + 1 + size k ≡ b + suc (size k) = omega arith in
    rw (lt-ltb _ _ q.is, q.next)
    (seek-over (suc e) (suc (suc e)) (b + 1) k (rows_of (suc e) s ++ r.rest) (omega arith) ∙ seek-run e (b + 1 + size k) s r.rest r.ended
    ∙ ap (head_row s) z)

-- One table of the three, where the least name at the heads is n: the row of its entry called n, the cursor behind it, and
-- the cursor inside it.
use mathlib.Core.Path.{◌≡◌, refl}
use mathlib.Core.List.{List, ◌++◌}
use mathlib.Core.Bool.{Bool, true, false}
use native.Mathlib.Omega.{arith}
use native.Mathlib.Numerals.{add-one}
use lib.ListN.{length}
use Prim.Native.Nat.{ℕ, suc, ◌+◌, ◌/◌, ◌≤◌, Ordering}
use borrow.Author.Tests.{lt-ltb, le-ltb}
use Rattle.tree.specs.Name.{Name, cmp}
use Rattle.tree.specs.Forest.{Forest, Forest.end, Forest.leaf, Forest.dir, Node, Node.absent, Node.file, Node.folder, kids, add, size, Present}
use Rattle.table_row.specs.Tree.{file_row, folder_row, rows_of, node_rows}
use Rattle.table_stands.specs.Stands.{Stands, StandsOr, Ruled, RuledNode}
use Rattle.plan_cursor.specs.Cursor.{none, is_row, seek, from, behind, is_folder}
use Rattle.tree.proofs.Order.{cmp-eq}
use Rattle.tree.proofs.Size.{size-add, row_count}
use Rattle.settle.proofs.Merge.{first, skip, first-add, skip-add}
use Rattle.table_row.proofs.Table.{rows-nil}
use Rattle.table_stands.proofs.Rows.{head}
use Rattle.plan.specs.Items.{or_none}
use Rattle.plan.proofs.Least.{or-present}
use Rattle.plan.proofs.Head.{Siblings, Run, run, head_row, head_row-add, head-stands, siblings-next, from-run, behind-head}

abbrev pub is_fold : Node → Bool
is_fold absent = false
is_fold (file c) = false
is_fold (folder k) = true

-- a row that is not there is no folder, and has nothing inside it
pub no_row : (w : List ℕ) → length w ≤ 81920 → is_row w none ≡ false
no_row w h = le-ltb none (length w / 20) (omega arith)

behind-none : (w : List ℕ) → length w ≤ 81920 → (d a : ℕ) → behind w d a none ≡ a
unfolding behind
behind-none w h d a = rw (no_row w h)

stands-folder : (w : List ℕ) (i d : ℕ) (n : Name) (x : Node) → StandsOr w i d n x → RuledNode x → is_folder w i ≡ is_fold x
unfolding is_folder node_rows
stands-folder w i d n absent s r = rw (le-ltb _ _ s)
stands-folder w i d n (file c) s r =
    let q = head w i (file_row d n c) s.rest s.here in
    rw (lt-ltb _ _ q.is, q.row, r.kind)
stands-folder w i d n (folder k) s r =
    let q = head w i (folder_row d n) (rows_of (suc d) k ++ s.rest) s.here in
    rw (lt-ltb _ _ q.is, q.row)

-- what stands at row b, or nowhere, has its entries from the next row on
record Inside (w : List ℕ) (d : ℕ) (x : Node) (b : ℕ) : Type 0 where
  cursor : from w (d + 1) (or_none x b + 1) ≡ head_row (kids x) (suc b)
  entries : Run w d (kids x) (suc b)

from-none : (w : List ℕ) (d i : ℕ) → length w / 20 ≤ i → from w d i ≡ none
unfolding seek
from-none w d i h = rw (rows-nil w i h)

inside : (w : List ℕ) → length w ≤ 81920 → (d : ℕ) (n : Name) (x : Node) (b : ℕ) → StandsOr w (or_none x b) d n x → Inside w d x b
unfolding node_rows rows_of
inside w h d n absent b s = record { cursor = from-none w (d + 1) (none + 1) (omega arith); entries = tt }
inside w h d n (file c) b s =
    let q = head w b (file_row d n c) s.rest s.here in
    let t : Siblings w d end (b + 1) = record { rest = s.rest; here = q.next; ended = s.ended } in
    record { cursor = rw (add-one d) (from-run w d end (b + 1) t); entries = tt }
inside w h d n (folder k) b s =
    let q = head w b (folder_row d n) (rows_of (suc d) k ++ s.rest) s.here in
    let t : Siblings w d k (b + 1) = record { rest = s.rest; here = q.next; ended = s.ended } in
    record { cursor = rw (add-one d, add-one b) (rw (add-one b) at (from-run w d k (b + 1) t)); entries = run w d k (suc b) (rw (add-one b) at t) }

ruled-parts : (m : Name) (y : Node) (s : Forest) → Present y → Ruled (add m y s) → RuledNode y × Ruled s
unfolding Ruled
ruled-parts m absent s h r = absurd h
ruled-parts m (file c) s h r = (r.1, r.2)
ruled-parts m (folder k) s h r = (r.1, r.2)

stands-or : (w : List ℕ) (b d : ℕ) (n : Name) (y : Node) → Present y → Stands w b d n y → StandsOr w (or_none y b) d n y
stands-or w b d n absent h s = absurd h
stands-or w b d n (file c) h s = s
stands-or w b d n (folder k) h s = s

-- the entry called n of a run that starts at row b, and what is behind it
pub record Entry (w : List ℕ) (e : ℕ) (n : Name) (f : Forest) (b : ℕ) : Type 0 where
  pub stands : StandsOr w (or_none (first n f) b) (suc e) n (first n f)
  pub ruled : RuledNode (first n f)
  pub folders : is_folder w (or_none (first n f) b) ≡ is_fold (first n f)
  pub next : behind w (suc e) (head_row f b) (or_none (first n f) b) ≡ head_row (skip n f) (b + row_count (first n f))
  pub rest : Run w e (skip n f) (b + row_count (first n f))
  pub cursor : from w (suc e + 1) (or_none (first n f) b + 1) ≡ head_row (kids (first n f)) (suc b)
  pub entries : Run w (suc e) (kids (first n f)) (suc b)
  pub less : size (skip n f) + row_count (first n f) ≡ size f
  pub ruled-rest : Ruled (skip n f)

module _ (w : List ℕ) (small : length w ≤ 81920) (e : ℕ) (n : Name) where
  made : (f : Forest) (b : ℕ) → StandsOr w (or_none (first n f) b) (suc e) n (first n f) → RuledNode (first n f)
      → behind w (suc e) (head_row f b) (or_none (first n f) b) ≡ head_row (skip n f) (b + row_count (first n f))
      → Run w e (skip n f) (b + row_count (first n f)) → size (skip n f) + row_count (first n f) ≡ size f → Ruled (skip n f) → Entry w e n f b
  made f b s r nx rs le rr =
      let i = inside w small (suc e) n (first n f) b s in
      record {
        stands = s;
        ruled = r;
        folders = stands-folder w (or_none (first n f) b) (suc e) n (first n f) s r;
        next = nx;
        rest = rs;
        cursor = i.cursor;
        entries = i.entries;
        less = le;
        ruled-rest = rr;
      }

  -- the head y of siblings is called n, or it is not
  at_head : (m : Name) (y : Node) (s : Forest) (b : ℕ) → Present y → Siblings w e (add m y s) b → Ruled (add m y s) → Entry w e n (add m y s) b
  at_head m y s b h r t = go (cmp n m) refl
    where
      f : Forest
      f = add m y s

      other : first n f ≡ absent → skip n f ≡ f → Entry w e n f b
      other fx sx =
          let z : b + 0 ≡ b = omega arith in
          made f b (rw fx (omega arith)) (rw fx tt) (rw (fx, sx, behind-none w small (suc e) (head_row f b), z)) (rw (fx, sx, z) (run w e f b r)) (rw (fx, sx) (omega arith)) (rw sx t)

      same : n ≡ m → first n f ≡ y → skip n f ≡ s → Entry w e n f b
      same q fx sx =
          let p = ruled-parts m y s h t in
          made f b (rw (fx, q) (stands-or w b (suc e) m y h (head-stands w e m y s b r))) (rw fx p.0)
          (rw (fx, sx, head_row-add m y s b h, or-present y b h) (behind-head w e m y s b b h r)) (rw (fx, sx) (run w e s (b + row_count y) (siblings-next w e m y s b r)))
          (rw (fx, sx, size-add m y s) (omega arith)) (rw sx p.1)

      go : (o : Ordering) → cmp n m ≡ o → Entry w e n f b
      go Ordering.lt q = other (rw (first-add n m y s h, q)) (rw (skip-add n m y s h, q))
      go Ordering.eq q = same (cmp-eq n m q) (rw (first-add n m y s h, q)) (rw (skip-add n m y s h, q))
      go Ordering.gt q = other (rw (first-add n m y s h, q)) (rw (skip-add n m y s h, q))

  pub entry : (f : Forest) (b : ℕ) → Run w e f b → Ruled f → Entry w e n f b
  unfolding first skip size Ruled behind
  entry end b r t = made end b (omega arith) tt (rw (no_row w small)) tt (omega arith) tt
  entry (leaf m c s) b r t = at_head m (file c) s b tt r t
  entry (dir m k s) b r t = at_head m (folder k) s b tt r t

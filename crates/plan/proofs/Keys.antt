-- What a run's head and its levels tell: the name there, the rows that it takes, and the levels behind and inside it.
use mathlib.Core.Path.{◌≡◌, refl, ap, sym}
use mathlib.Core.List.{List, ◌++◌}
use mathlib.Core.Bool.{Bool, true, false, cond, ◌||◌}
use mathlib.Core.Logic.{◌⊎◌, inl, inr}
use native.Mathlib.Omega.{arith}
use lib.ListN.{length, length-append}
use Prim.Native.Nat.{ℕ, zero, suc, ◌+◌, ◌/◌, ◌≤◌, ◌<◌, Ordering}
use borrow.Author.Tests.{lt-ltb, le-ltb}
use Rattle.tree.specs.Name.{Name, cmp, if_same}
use Rattle.tree.specs.Forest.{Forest, Forest.end, Forest.leaf, Forest.dir, Node, Node.absent, Node.file, Node.folder, kids, add, size, Sorted, Present}
use Rattle.tree.specs.Rules.{NameRule, ContentRule, Within}
use Rattle.settle.specs.Names.{names}
use Rattle.settle.specs.Plan.{Entry.single, Entry.pair, plan, settle}
use Rattle.table_row.specs.Tree.{rows_of, node_rows}
use Rattle.table_row.proofs.Tree.{length-rows}
use Rattle.table_stands.specs.Stands.{StandsOr, Ruled, RuledNode}
use Rattle.plan_cursor.specs.Cursor.{is_row}
use Rattle.tree.proofs.Never.{never}
use Rattle.tree.proofs.Order.{cmp-refl}
use Rattle.tree.proofs.Forest.{siblings-ind, sorted-kids, sorted-parts}
use Rattle.tree.proofs.Rules.{within-parts, within-kids}
use Rattle.tree.proofs.Size.{size-add, row_count}
use Rattle.settle.proofs.Names.{has, has-names, present}
use Rattle.settle.proofs.Merge.{first, skip, first-add, skip-add, find_first}
use Rattle.table_stands.proofs.Rows.{head, length-rows-from}
use Rattle.plan.proofs.Head.{Run}
use Rattle.plan.proofs.Least.{Key, Key.named, Key.last, key, UpTo, LeastOf, least-key}
use Rattle.plan.proofs.OneTable.{is_fold}

pub key-last : (f : Forest) → key f ≡ last → f ≡ end
key-last end e = refl
key-last (leaf m c s) e = never (cc)
key-last (dir m k s) e = never (cc)

pub key-first : (n : Name) (f : Forest) → key f ≡ named n → present (first n f) ≡ true
unfolding first
key-first n end e = never (cc)
key-first n (leaf m c s) e = let q : m ≡ n = cc in rw (q, cmp-refl n)
key-first n (dir m k s) e = let q : m ≡ n = cc in rw (q, cmp-refl n)

pub key-eight : (n : Name) (f : Forest) → key f ≡ named n → Ruled f → length n ≡ 8
unfolding Ruled
key-eight n end e r = never (cc)
key-eight n (leaf m c s) e r = let q : m ≡ n = cc in rw (← q) r.0.eight
key-eight n (dir m k s) e r = let q : m ≡ n = cc in rw (← q) r.0.eight

pub up-last : (x : Key) → UpTo last x → x ≡ last
up-last (named n) h = absurd (h refl)
up-last last h = refl

pub stands-row : (w : List ℕ) (i d : ℕ) (n : Name) (x : Node) → StandsOr w i d n x → is_row w i ≡ present x
unfolding node_rows
stands-row w i d n absent s = le-ltb i (length w / 20) s
stands-row w i d n (file c) s = lt-ltb i (length w / 20) (head w i _ s.rest s.here).is
stands-row w i d n (folder k) s = lt-ltb i (length w / 20) (head w i _ (rows_of (suc d) k ++ s.rest) s.here).is

pub run-size : (w : List ℕ) (e : ℕ) (f : Forest) (b : ℕ) → Run w e f b → size f ≤ length w / 20
unfolding size
run-size w e end b r = omega arith
run-size w e (leaf m c s) b r =
    let f = leaf m c s in
    omega (arith, length-rows-from w b, ap length r.here, length-append (rows_of (suc e) f) r.rest, length-rows (suc e) f)
run-size w e (dir m k s) b r =
    let f = dir m k s in
    omega (arith, length-rows-from w b, ap length r.here, length-append (rows_of (suc e) f) r.rest, length-rows (suc e) f)

pub size_none : (f : Forest) → size f ≡ 0 → f ≡ end
unfolding size
size_none end h = refl
size_none (leaf m c s) h = absurd (omega arith)
size_none (dir m k s) h = absurd (omega arith)

-- at most k levels, as a table's rules have them
abbrev pub Levels : ℕ → Forest → Type 0
Levels = Within NameRule ContentRule

levels-tail : (k : ℕ) (m : Name) (y : Node) (s : Forest) → Present y → Levels k (add m y s) → Levels k s
unfolding Within
levels-tail k m absent s h a = absurd h
levels-tail zero m (file c) s h a = absurd a
levels-tail zero m (folder j) s h a = absurd a
levels-tail (suc k) m (file c) s h a = a.2
levels-tail (suc k) m (folder j) s h a = a.2

pub levels-skip : (k : ℕ) (n : Name) (f : Forest) → Levels k f → Levels k (skip n f)
unfolding skip
levels-skip k n = siblings-ind (λ (f : Forest). Levels k f → Levels k (skip n f)) (λ a. a) more
  where
    more : (m : Name) (y : Node) (s : Forest) → Present y → (Levels k s → Levels k (skip n s)) → Levels k (add m y s) → Levels k (skip n (add m y s))
    more m y s h ih a = rw (skip-add n m y s h) (go (cmp n m))
      where
        go : (w : Ordering) → Levels k (if_same w s (add m y s))
        go Ordering.lt = a
        go Ordering.eq = levels-tail k m y s h a
        go Ordering.gt = a

pub levels-inside : (k : ℕ) (n : Name) (f : Forest) → Levels (suc k) f → Levels k (kids (first n f))
unfolding first Within
levels-inside k n = siblings-ind (λ (f : Forest). Levels (suc k) f → Levels k (kids (first n f))) (λ a. tt) more
  where
    more : (m : Name) (y : Node) (s : Forest) → Present y → (Levels (suc k) s → Levels k (kids (first n s)))
        → Levels (suc k) (add m y s) → Levels k (kids (first n (add m y s)))
    more m y s h ih a = rw (first-add n m y s h) (go (cmp n m))
      where
        go : (w : Ordering) → Levels k (kids (if_same w y absent))
        go Ordering.lt = tt
        go Ordering.eq = within-kids NameRule ContentRule k y (within-parts NameRule ContentRule k m y s h a).1
        go Ordering.gt = tt

pub levels-none : (f : Forest) → Levels zero f → key f ≡ last
unfolding Within
levels-none end h = refl
levels-none (leaf m c s) h = absurd h
levels-none (dir m k s) h = absurd h

pub sorted-inside : (n : Name) (f : Forest) → Sorted f → Sorted (kids (first n f))
unfolding first Sorted
sorted-inside n = siblings-ind (λ (f : Forest). Sorted f → Sorted (kids (first n f))) (λ a. tt) more
  where
    more : (m : Name) (y : Node) (s : Forest) → Present y → (Sorted s → Sorted (kids (first n s))) → Sorted (add m y s) → Sorted (kids (first n (add m y s)))
    more m y s h ih a = rw (first-add n m y s h) (go (cmp n m))
      where
        go : (w : Ordering) → Sorted (kids (if_same w y absent))
        go Ordering.lt = tt
        go Ordering.eq = sorted-kids y (sorted-parts m y s h a).1
        go Ordering.gt = tt

pub ruled-kids : (x : Node) → RuledNode x → Ruled (kids x)
unfolding Ruled
ruled-kids absent r = tt
ruled-kids (file c) r = tt
ruled-kids (folder k) r = r

-- the least name at the heads is a name of the merge
pub key_has : (n : Name) (o l r : Forest) → Sorted o → Sorted l → Sorted r → LeastOf (key o) (key l) (key r) (named n) → has n (names o l r) ≡ true
key_has n o l r so sl sr L =
    rw (has-names n o l r, find_first n o so (least-key n o L.first), find_first n l sl (least-key n l L.second), find_first n r sr (least-key n r L.third))
    (go L.one)
  where
    end-true : (a b : Bool) → (a || (b || true)) ≡ true
    end-true true b = refl
    end-true false true = refl
    end-true false false = refl

    go : (named n ≡ key o) ⊎ ((named n ≡ key l) ⊎ (named n ≡ key r)) → (present (first n o) || (present (first n l) || (present (first n r) || false))) ≡ true
    go (inl q) = rw (key-first n o (sym q))
    go (inr (inl q)) = rw (key-first n l (sym q)) (end-true (present (first n o)) false)
    go (inr (inr q)) = rw (key-first n r (sym q)) (end-true (present (first n o)) (present (first n l)))

-- behind and at n stand all rows of a run
pub size-skip : (n : Name) (f : Forest) → size (skip n f) + row_count (first n f) ≡ size f
unfolding skip first size
size-skip n = siblings-ind (λ (f : Forest). size (skip n f) + row_count (first n f) ≡ size f) (omega arith) more
  where
    more : (m : Name) (y : Node) (s : Forest) → Present y → size (skip n s) + row_count (first n s) ≡ size s
        → size (skip n (add m y s)) + row_count (first n (add m y s)) ≡ size (add m y s)
    more m y s h ih = rw (skip-add n m y s h, first-add n m y s h) (go (cmp n m))
      where
        go : (w : Ordering) → size (if_same w s (add m y s)) + row_count (if_same w y absent) ≡ size (add m y s)
        go Ordering.lt = omega arith
        go Ordering.eq = rw (size-add m y s) (omega arith)
        go Ordering.gt = omega arith

pub some-rows : (x : Node) → present x ≡ true → 0 < row_count x
some-rows absent h = never (cc)
some-rows (file c) h = omega arith
some-rows (folder k) h = omega arith

-- a folder on both sides, or not
pub settle-pair : (x a b : Node) → cond (is_fold a) (is_fold b) false ≡ true → settle x a b ≡ pair (plan (kids x) (kids a) (kids b))
unfolding settle
settle-pair x absent b h = never (cc)
settle-pair x (file c) b h = never (cc)
settle-pair x (folder f) absent h = never (cc)
settle-pair x (folder f) (file c) h = never (cc)
settle-pair x (folder f) (folder g) h = refl

pub settle-alone : (x a b : Node) → cond (is_fold a) (is_fold b) false ≡ false → settle x a b ≡ single x a b
unfolding settle
settle-alone x absent b h = refl
settle-alone x (file c) b h = refl
settle-alone x (folder f) absent h = refl
settle-alone x (folder f) (file c) h = refl
settle-alone x (folder f) (folder g) h = never (cc)

-- Siblings ascend in the tree that good rows are read as.
use mathlib.Core.Path.{◌≡◌, refl, sym, ◌∙◌}
use mathlib.Core.List.{List, [], ◌∷◌}
use mathlib.Core.Bool.{Bool, true, false, cond}
use lib.Dec.{eqb}
use Prim.Native.Nat.{ℕ, suc, ◌<◌, compare, Ordering}
use Rattle.tree.specs.Name.{Name, cmp, by_order}
use Rattle.tree.specs.Forest.{Forest, Forest.end, Forest.leaf, Forest.dir, Above, Sorted}
use Rattle.table_row.specs.Table.{Row, depth, kind, name, content}
use Rattle.table_row.specs.Tree.{entry_of, siblings}
use Rattle.tree.proofs.Order.{Cmp, Cmp.less, Cmp.same, Cmp.more, view, compare_refl, compare-above}
use Rattle.tree.proofs.Forest.{above-trans}
use Rattle.table_rules.proofs.Plain.{ascends}
use Rattle.table_rules.proofs.Good.{Good, ok-follows}

-- the sibling before, n, is the nearest at depth d: it decides whether a name may come next
abbrev Last : ℕ → Name → List Row → Type 0
Last d n ps = (m : Name) → ascends d m ps ≡ by_order (cmp n m) true false false

last-here : (d : ℕ) (r : Row) (ps : List Row) → depth r ≡ d → Last d (name r) (r ∷ ps)
unfolding ascends
last-here d r ps e m = rw (e, compare_refl)

last-deeper : (d : ℕ) (n : Name) (r : Row) (ps : List Row) → d < depth r → Last d n ps → Last d n (r ∷ ps)
unfolding ascends
last-deeper d n r ps h l m = rw (compare-above (depth r) d h) (l m)

less-true : (o : Ordering) → by_order o true false false ≡ true → o ≡ Ordering.lt
less-true Ordering.lt e = refl
less-true Ordering.eq e = cc
less-true Ordering.gt e = cc

above_entry : (n : Name) (r : Row) (k s : Forest) → cmp n (name r) ≡ Ordering.lt → Above (name r) s → Above n (entry_of r k s)
unfolding Above
above_entry n r k s e h = go (eqb (kind r) 0)
  where
    go : (b : Bool) → Above n (cond b (dir (name r) k s) (leaf (name r) (content r) s))
    go true = (e, above-trans n (name r) e s h)
    go false = (e, above-trans n (name r) e s h)

sorted-entry : (r : Row) (k s : Forest) → Above (name r) s → Sorted k → Sorted s → Sorted (entry_of r k s)
unfolding Sorted
sorted-entry r k s h a b = go (eqb (kind r) 0)
  where
    go : (b : Bool) → Sorted (cond b (dir (name r) k s) (leaf (name r) (content r) s))
    go true = (h, a, b)
    go false = (h, b)

-- the siblings at the front of good rows come after the sibling before them
good-above : (p : Row) (ps rs : List Row) (d : ℕ) (n : Name) → Good (p ∷ ps) rs → Last d n (p ∷ ps) → Above n (siblings d rs)
unfolding Good siblings Above
good-above p ps [] d n g l = tt
good-above p ps (r ∷ rs) d n g l = go (compare (depth r) d) (view (depth r) d) (good-above r (p ∷ ps) rs d (name r) g.1) (good-above r (p ∷ ps) rs d n g.1)
  where
    go : (w : Ordering) → Cmp (depth r) d w → (Last d (name r) (r ∷ p ∷ ps) → Above (name r) (siblings d rs)) → (Last d n (r ∷ p ∷ ps) → Above n (siblings d rs))
        → Above n (by_order w end (entry_of r (siblings (suc d) rs) (siblings d rs)) (siblings d rs))
    go Ordering.lt (less h) a b = tt
    go Ordering.eq (same h) a b =
        let e : ascends d (name r) (p ∷ ps) ≡ true = rw h at (ok-follows p ps r g.0).order in
        above_entry n r (siblings (suc d) rs) (siblings d rs) (less-true (cmp n (name r)) (sym (l (name r)) ∙ e)) (a (last-here d r (p ∷ ps) h))
    go Ordering.gt (more h) a b = b (last-deeper d n r (p ∷ ps) h l)

pub good-sorted : (p : Row) (ps rs : List Row) (d : ℕ) → Good (p ∷ ps) rs → Sorted (siblings d rs)
unfolding Good siblings Sorted
good-sorted p ps [] d g = tt
good-sorted p ps (r ∷ rs) d g = go (compare (depth r) d) (view (depth r) d) (good-sorted r (p ∷ ps) rs d g.1) (good-sorted r (p ∷ ps) rs (suc d) g.1)
  where
    go : (w : Ordering) → Cmp (depth r) d w → Sorted (siblings d rs) → Sorted (siblings (suc d) rs)
        → Sorted (by_order w end (entry_of r (siblings (suc d) rs) (siblings d rs)) (siblings d rs))
    go Ordering.lt (less h) a b = tt
    go Ordering.eq (same h) a b = sorted-entry r (siblings (suc d) rs) (siblings d rs) (good-above r (p ∷ ps) rs d (name r) g.1 (last-here d r (p ∷ ps) h)) b a
    go Ordering.gt (more h) a b = a

-- A path leads, in the words of a node, to the row where the node at that path stands.
use Rattle.std.proofs.Common.{Option, Some, None}
use mathlib.Core.Path.{◌≡◌, refl, sym, ap, ◌∙◌}
use mathlib.Core.List.{List, [], ◌∷◌}
use native.Mathlib.Omega.{arith}
use native.Mathlib.Nat.{add-zero, zero-add}
use lib.ListN.{length}
use Prim.Native.Nat.{ℕ, suc, ◌+◌, Ordering}
use Rattle.tree.specs.Name.{Name, cmp, if_same}
use Rattle.tree.specs.Forest.{TreePath, Forest, Forest.end, Forest.leaf, Forest.dir, Node, Node.absent, Node.file, Node.folder, SortedNode, at, find, size, Present}
use Rattle.tree.specs.Rules.{NameRule}
use Rattle.table_find.specs.Subtree.{subtree}
use Rattle.table_follow.specs.Follow.{further, onward, follow}
use Rattle.tree.proofs.Order.{cmp-eq}
use Rattle.tree.proofs.Forest.{sorted-find, at-absent}
use Rattle.table_stands.specs.Stands.{Stands, found_at, Ruled, RuledNode, Holds, Leads}
use Rattle.table_stands.specs.Around.{before, row_in, name_on}
use Rattle.table_stands.proofs.Subtree.{present-found, stands-words, stands-whole}
use Rattle.table_stands.proofs.Entry.{file-child, folder-child, stands-child}

-- an entry keeps the rules of its folder
ruled_step : (n m : Name) (y : Node) (s : Forest) (o : Ordering) → cmp n m ≡ o → NameRule m → RuledNode y → (Present (find n s) → NameRule n × RuledNode (find n s))
    → Present (if_same o y (find n s)) → NameRule n × RuledNode (if_same o y (find n s))
ruled_step n m y s Ordering.lt e r q ih h = ih h
ruled_step n m y s Ordering.eq e r q ih h = (rw (cmp-eq n m e) r, q)
ruled_step n m y s Ordering.gt e r q ih h = ih h

pub ruled-find : (n : Name) (f : Forest) → Ruled f → Present (find n f) → NameRule n × RuledNode (find n f)
unfolding Ruled find
ruled-find n end r h = absurd h
ruled-find n (leaf m c s) r h = ruled_step n m (file c) s (cmp n m) refl r.0 r.1 (ruled-find n s r.2) h
ruled-find n (dir m k s) r h = ruled_step n m (folder k) s (cmp n m) refl r.0 r.1 (ruled-find n s r.2) h

pub ruled-at : (p : TreePath) (x : Node) → RuledNode x → RuledNode (at x p)
unfolding at find
ruled-at [] x r = r
ruled-at (n ∷ p) absent r = ruled-at p absent tt
ruled-at (n ∷ p) (file c) r = ruled-at p absent tt
ruled-at (n ∷ p) (folder k) r = ruled-at p (find n k) (either (find n k) (λ h. (ruled-find n k r h).1))
  where
    either : (y : Node) → (Present y → RuledNode y) → RuledNode y
    either absent h = tt
    either (file c) h = h tt
    either (folder j) h = h tt

further-found : (i j k : ℕ) (x : Node) → i + j ≡ k → further i (found_at x j) ≡ found_at x k
further-found i j k absent e = refl
further-found i j k (file c) e = ap Some e
further-found i j k (folder f) e = ap Some e

onward-found : (y : Node) (i : ℕ) (g : ℕ → Option ℕ) (z : Option ℕ) → (Present y → g i ≡ z) → (y ≡ absent → None ≡ z) → onward (found_at y i) g ≡ z
onward-found absent i g z h k = k refl
onward-found (file c) i g z h k = h tt
onward-found (folder f) i g z h k = h tt

-- an entry in its own words
pub holds-child : (n : Name) (w : List ℕ) (d : ℕ) (m : Name) (k : Forest) → Holds w d m (folder k) → Present (find n k) → Holds (subtree w (0 + 1 + size (before n k))) (suc d) n (find n k)
holds-child n w d m k h y =
    let r = ruled-find n k h.ruled y in
    record {
      words = stands-words w (0 + 1 + size (before n k)) (suc d) n (find n k) (stands-child w 0 d m k (stands-whole w d m (folder k) h) n h.sorted) y;
      eight = r.0.eight;
      ruled = r.1;
      sorted = sorted-find n k h.sorted;
      present = y;
    }

-- the path is found exactly where a node stands at it, at that node's row
pub follow-at : (p : TreePath) (w : List ℕ) (d : ℕ) (m : Name) (x : Node) → Holds w d m x → follow p w ≡ found_at (at x p) (row_in x p)
unfolding follow at row_in find
follow-at [] w d m absent h = absurd h.present
follow-at [] w d m (file c) h = refl
follow-at [] w d m (folder k) h = refl
follow-at (n ∷ p) w d m absent h = absurd h.present
follow-at (n ∷ p) w d m (file c) h =
    rw (file-child w 0 d m n c (stands-whole w d m (file c) h)) (ap (λ (y : Node). found_at y (row_in (file c) (n ∷ p))) (sym (at-absent p)))
follow-at (n ∷ p) w d m (folder k) h =
    let i = 0 + 1 + size (before n k) in
    let j = suc (size (before n k) + row_in (find n k) p) in
    rw (folder-child w 0 d m k (stands-whole w d m (folder k) h) n h.ruled h.sorted)
    (onward-found (find n k) i (λ (i : ℕ). further i (follow p (subtree w i))) (found_at (at (find n k) p) j)
    (λ y. rw (follow-at p (subtree w i) (suc d) n (find n k) (holds-child n w d m k h y)) (further-found i (row_in (find n k) p) j (at (find n k) p) (omega arith)))
    (λ e. rw (e, at-absent)))

-- where that node stands
pub stands_at : (p : TreePath) (w : List ℕ) (i d : ℕ) (m : Name) (x : Node) → Stands w i d m x → SortedNode x → Present (at x p)
    → Stands w (i + row_in x p) (d + length p) (name_on m p) (at x p)
unfolding at row_in name_on find
stands_at [] w i d m x s o h = rw (add-zero i, add-zero d) s
stands_at (n ∷ p) w i d m absent s o h = absurd (rw (at-absent p) at h)
stands_at (n ∷ p) w i d m (file c) s o h = absurd (rw (at-absent p) at h)
stands_at (n ∷ p) w i d m (folder k) s o h =
    let a : i + suc (size (before n k) + row_in (find n k) p) ≡ i + 1 + size (before n k) + row_in (find n k) p = omega arith in
    let b : d + suc (length p) ≡ suc d + length p = omega arith in
    rw (a, b) (stands_at p w (i + 1 + size (before n k)) (suc d) n (find n k) (stands-child w i d m k s n o) (sorted-find n k o) h)

-- a path to a node leads to it, and a path to none is lost
module _ (p : TreePath) (w : List ℕ) (d : ℕ) (m : Name) (x : Node) (h : Holds w d m x) where
  pub leads : Present (at x p) → Leads w p (row_in x p) (d + length p) (name_on m p) (at x p)
  leads y =
      let s : Stands w (row_in x p) (d + length p) (name_on m p) (at x p) = rw zero-add at (stands_at p w 0 d m x (stands-whole w d m x h) h.sorted y) in
      record { found = follow-at p w d m x h ∙ present-found (at x p) (row_in x p) y; stands = s; words = stands-words w (row_in x p) (d + length p) (name_on m p) (at x p) s y }

  pub lost : at x p ≡ absent → follow p w ≡ None
  lost e = follow-at p w d m x h ∙ rw e

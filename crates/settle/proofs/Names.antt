-- The merged names: ascending, each once, exactly those that one of the three has; a forest built over names.
use mathlib.Core.Bool.{Bool, ◌||◌, false, true}
use mathlib.Core.List.{[], ◌∷◌}
use mathlib.Core.Path.{◌∙◌, ◌≡◌, ap, refl, subst, sym}
use lib.Dec.{compare_is_eq}
use Prim.Native.Nat.{Ordering}
use Rattle.tree.specs.Forest.{Above, Forest, Forest.dir, Forest.end, Forest.leaf, Node, Node.absent, Node.file, Node.folder, Sorted, SortedNode, add, find, Present}
use Rattle.tree.specs.Name.{Name, by_order, cmp, if_same}
use Rattle.tree.proofs.Never.{never}
use Rattle.tree.proofs.Forest.{above-add, find-add-same, find-add-other, sorted-add}
use Rattle.tree.proofs.Order.{cmp-eq, cmp-flip, cmp-refl, cmp-trans, flip}
use Rattle.settle.specs.Names.{Names, insert, into, names}

unfoldable pub has : Name → Names → Bool
has n [] = false
has n (m ∷ ms) = compare_is_eq (cmp n m) || has n ms

abbrev pub present : Node → Bool
present absent = false
present (file c) = true
present (folder f) = true

pub has-insert : (k n : Name) (ns : Names) → has k (insert n ns) ≡ (compare_is_eq (cmp k n) || has k ns)
unfolding has insert
has-insert k n [] = refl
has-insert k n (m ∷ ms) = go (cmp n m) refl (has-insert k n ms)
  where
    go : (o : Ordering) → cmp n m ≡ o → has k (insert n ms) ≡ (compare_is_eq (cmp k n) || has k ms)
        → has k (by_order o (n ∷ (m ∷ ms)) (m ∷ ms) (m ∷ insert n ms)) ≡ (compare_is_eq (cmp k n) || (compare_is_eq (cmp k m) || has k ms))
    go Ordering.lt e r = refl
    go Ordering.eq e r = rw (cmp-eq n m e) (absorb (compare_is_eq (cmp k m)) (has k ms))
      where
        absorb : (a b : Bool) → (a || b) ≡ (a || (a || b))
        absorb true b = refl
        absorb false b = refl
    go Ordering.gt e r = rw r (swap (compare_is_eq (cmp k m)) (compare_is_eq (cmp k n)) (has k ms))
      where
        swap : (a b c : Bool) → (a || (b || c)) ≡ (b || (a || c))
        swap true true c = refl
        swap true false c = refl
        swap false b c = refl

has_one : (k n : Name) (x : Node) (s : Forest) (ns : Names) → Present x → has k (into s ns) ≡ (present (find k s) || has k ns)
    → has k (insert n (into s ns)) ≡ (present (if_same (cmp k n) x (find k s)) || has k ns)
has_one k n x s ns h e = has-insert k n (into s ns) ∙ rw e (go (cmp k n) x h)
  where
    go : (o : Ordering) (x : Node) → Present x → (compare_is_eq o || (present (find k s) || has k ns)) ≡ (present (if_same o x (find k s)) || has k ns)
    go Ordering.lt x h = refl
    go Ordering.gt x h = refl
    go Ordering.eq absent h = absurd h
    go Ordering.eq (file c) h = refl
    go Ordering.eq (folder f) h = refl

has-into : (k : Name) (f : Forest) (ns : Names) → has k (into f ns) ≡ (present (find k f) || has k ns)
unfolding into find
has-into k end ns = refl
has-into k (leaf n c s) ns = has_one k n (file c) s ns tt (has-into k s ns)
has-into k (dir n j s) ns = has_one k n (folder j) s ns tt (has-into k s ns)

-- a name is in the list exactly if one of the three has it
pub has-names : (k : Name) (o l r : Forest) → has k (names o l r) ≡ (present (find k o) || (present (find k l) || (present (find k r) || false)))
unfolding names has
has-names k o l r = rw (has-into k o (into l (into r [])), has-into k l (into r []), has-into k r [])

unfoldable pub Over : Name → Names → Type 0
Over n [] = Unit {0}
Over n (m ∷ ms) = (cmp n m ≡ Ordering.lt) × Over n ms

unfoldable pub Asc : Names → Type 0
Asc [] = Unit {0}
Asc (n ∷ ns) = Over n ns × Asc ns

over-trans : (n m : Name) (ns : Names) → cmp n m ≡ Ordering.lt → Over m ns → Over n ns
unfolding Over
over-trans n m [] e h = tt
over-trans n m (k ∷ ks) e h = (cmp-trans n m k e h.0, over-trans n m ks e h.1)

pub over-insert : (k n : Name) (ns : Names) → cmp k n ≡ Ordering.lt → Over k ns → Over k (insert n ns)
unfolding Over insert
over-insert k n [] e h = (e, tt)
over-insert k n (m ∷ ms) e h = go (cmp n m) (over-insert k n ms e h.1)
  where
    go : (o : Ordering) → Over k (insert n ms) → Over k (by_order o (n ∷ (m ∷ ms)) (m ∷ ms) (m ∷ insert n ms))
    go Ordering.lt r = (e, h)
    go Ordering.eq r = h
    go Ordering.gt r = (h.0, r)

pub asc-insert : (n : Name) (ns : Names) → Asc ns → Asc (insert n ns)
unfolding Asc Over insert
asc-insert n [] h = (tt, tt)
asc-insert n (m ∷ ms) h = go (cmp n m) refl (asc-insert n ms h.1)
  where
    go : (o : Ordering) → cmp n m ≡ o → Asc (insert n ms) → Asc (by_order o (n ∷ (m ∷ ms)) (m ∷ ms) (m ∷ insert n ms))
    go Ordering.lt e r = ((e, over-trans n m ms e h.0), h)
    go Ordering.eq e r = h
    go Ordering.gt e r = (over-insert m n ms (cmp-flip n m ∙ ap flip e) h.0, r)

pub asc-into : (f : Forest) (ns : Names) → Asc ns → Asc (into f ns)
unfolding into
asc-into end ns h = h
asc-into (leaf n c s) ns h = asc-insert n (into s ns) (asc-into s ns h)
asc-into (dir n k s) ns h = asc-insert n (into s ns) (asc-into s ns h)

pub asc-names : (o l r : Forest) → Asc (names o l r)
unfolding names Asc
asc-names o l r = asc-into o (into l (into r [])) (asc-into l (into r []) (asc-into r [] tt))

-- a forest over a list of names
unfoldable pub build : Names → (Name → Node) → Forest
build [] g = end
build (n ∷ ns) g = add n (g n) (build ns g)

pub find-build-over : (n : Name) (ns : Names) (g : Name → Node) → Over n ns → find n (build ns g) ≡ absent
unfolding build Over find
find-build-over n [] g h = refl
find-build-over n (m ∷ ms) g h = find-add-other n m (g m) (build ms g) (λ e. let a = h.0 in never (cc)) ∙ find-build-over n ms g h.1

pub find-build : (n : Name) (ns : Names) (g : Name → Node) → Asc ns → (has n ns ≡ false → g n ≡ absent) → find n (build ns g) ≡ g n
unfolding build Asc has find
find-build n [] g h v = sym (v refl)
find-build n (m ∷ ms) g h v = go (cmp n m) refl v (find-build n ms g h.1)
  where
    go : (o : Ordering) → cmp n m ≡ o → ((compare_is_eq o || has n ms) ≡ false → g n ≡ absent)
        → ((has n ms ≡ false → g n ≡ absent) → find n (build ms g) ≡ g n)
        → find n (add m (g m) (build ms g)) ≡ g n
    go Ordering.lt e w ih = find-add-other n m (g m) (build ms g) (λ d. never (cc)) ∙ ih w
    go Ordering.eq e w ih = rw (cmp-eq n m e) (find-add-same m (g m) (build ms g) (find-build-over m ms g h.0))
    go Ordering.gt e w ih = find-add-other n m (g m) (build ms g) (λ d. never (cc)) ∙ ih w

pub above-build : (n : Name) (ns : Names) (g : Name → Node) → Over n ns → Above n (build ns g)
unfolding Above Over build
above-build n [] g h = tt
above-build n (m ∷ ms) g h = above-add n m (g m) (build ms g) h.0 (above-build n ms g h.1)

pub sorted-build : (ns : Names) (g : Name → Node) → Asc ns → ((n : Name) → SortedNode (g n)) → Sorted (build ns g)
unfolding Sorted Asc build
sorted-build [] g h v = tt
sorted-build (n ∷ ns) g h v = sorted-add n (g n) (build ns g) (above-build n ns g h.0) (v n) (sorted-build ns g h.1 v)

pub has-over : (n m : Name) (ns : Names) → cmp n m ≡ Ordering.lt → Over m ns → has n ns ≡ false
unfolding has Over
has-over n m [] e h = refl
has-over n m (k ∷ ks) e h = rw (cmp-trans n m k e h.0) (has-over n m ks e h.1)

has-self : (n : Name) (ns : Names) → Over n ns → has n ns ≡ false
unfolding has Over
has-self n [] h = refl
has-self n (k ∷ ks) h = rw h.0 (has-self n ks h.1)

-- an ascending list is known by the names that it has
asc-below : (n m : Name) (ns ms : Names) → cmp n m ≡ Ordering.lt → Over m ms → ((k : Name) → has k (n ∷ ns) ≡ has k (m ∷ ms)) → ⊥
unfolding has
asc-below n m ns ms e h E = let b : true ≡ false = rw (cmp-refl n, e, has-over n m ms e h) at (E n) in never (cc)

asc-tail : (n : Name) (ns ms : Names) → Over n ns → Over n ms → ((k : Name) → has k (n ∷ ns) ≡ has k (n ∷ ms)) → (k : Name) → has k ns ≡ has k ms
unfolding has
asc-tail n ns ms a b E k = go (cmp k n) refl (E k)
  where
    go : (w : Ordering) → cmp k n ≡ w → (compare_is_eq w || has k ns) ≡ (compare_is_eq w || has k ms) → has k ns ≡ has k ms
    go Ordering.lt e h = h
    go Ordering.eq e h = rw (cmp-eq k n e, has-self n ns a, has-self n ms b)
    go Ordering.gt e h = h

pub asc-ext : (ns ms : Names) → Asc ns → Asc ms → ((k : Name) → has k ns ≡ has k ms) → ns ≡ ms
unfolding Asc has
asc-ext [] [] a b E = refl
asc-ext [] (m ∷ ms) a b E = let e : false ≡ true = rw cmp-refl at (E m) in never (cc)
asc-ext (n ∷ ns) [] a b E = let e : true ≡ false = rw cmp-refl at (E n) in never (cc)
asc-ext (n ∷ ns) (m ∷ ms) a b E = go (cmp n m) refl (asc-ext ns ms a.1 b.1)
  where
    go : (w : Ordering) → cmp n m ≡ w → (((k : Name) → has k ns ≡ has k ms) → ns ≡ ms) → ◌≡◌ {A = Names} (n ∷ ns) (m ∷ ms)
    go Ordering.lt e ih = absurd (asc-below n m ns ms e b.0 E)
    go Ordering.gt e ih = absurd (asc-below m n ms ns (cmp-flip n m ∙ ap flip e) a.0 (λ k. sym (E k)))
    go Ordering.eq e ih =
        let q = cmp-eq n m e in
        let t = ih (asc-tail n ns ms a.0 (rw q b.0) (subst (λ (w : Name). (k : Name) → has k (n ∷ ns) ≡ has k (w ∷ ms)) (sym q) E)) in cc

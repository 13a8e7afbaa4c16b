-- The plan read as document 01 has it, and the new tree at a name.
use mathlib.Core.Bool.{Bool, ◌||◌, false, true}
use mathlib.Core.List.{[], ◌∷◌}
use mathlib.Core.Path.{◌∙◌, ◌≡◌, ap, refl, sym}
use Prim.Native.Nat.{Ordering}
use Rattle.tree.specs.Forest.{Forest, Forest.dir, Forest.end, Forest.leaf, Node, Node.absent, Node.file, Node.folder, TreePath, add, find, kids}
use Rattle.tree.specs.Name.{Name, cmp, if_same}
use Rattle.tree.specs.Same.{same_node}
use Rattle.settle.specs.Decision.{Decision.agreed, decide}
use Rattle.settle.specs.Names.{Names, names}
use Rattle.settle.specs.Plan.{Entry, Entry.pair, Entry.single, Plan, add_item, plan, plan_over, settle, settle_folder, settle_in}
use Rattle.settle.specs.Results.{Pick, below, new}
use Rattle.settle.proofs.Names.{asc-names, build, find-build, has, has-names, present}

-- the entry called n is settled as document 01 has it
pub settle_in-settle : (l : Forest) (n : Name) (o r : Node) → settle_in l n o r ≡ settle o (find n l) r
unfolding settle_in settle find plan
settle_in-settle end n o r = refl
settle_in-settle (leaf m c s) n o r = go (cmp n m) (settle_in-settle s n o r)
  where
    go : (w : Ordering) → settle_in s n o r ≡ settle o (find n s) r
        → if_same w (single o (file c) r) (settle_in s n o r) ≡ settle o (if_same w (file c) (find n s)) r
    go Ordering.lt e = e
    go Ordering.eq e = refl
    go Ordering.gt e = e
settle_in-settle (dir m l s) n o r = go (cmp n m) (settle_in-settle s n o r)
  where
    h : Forest → Plan
    h r' = plan_over (names (kids o) l r') (λ n'. settle_in l n' (find n' (kids o)) (find n' r'))

    at-dir : (r : Node) → settle_folder o l r h ≡ settle o (folder l) r
    at-dir absent = refl
    at-dir (file c) = refl
    at-dir (folder r') = refl

    go : (w : Ordering) → settle_in s n o r ≡ settle o (find n s) r
        → if_same w (settle_folder o l r h) (settle_in s n o r) ≡ settle o (if_same w (folder l) (find n s)) r
    go Ordering.lt e = e
    go Ordering.eq e = at-dir r
    go Ordering.gt e = e

abbrev pub new_node : Pick → Entry → Node
new_node pk (single o l r) = pk [] (decide o l r) o l r
new_node pk (pair k) = folder (new pk k)

-- a new tree is built over the names
pub new-build : (pk : Pick) (ns : Names) (g : Name → Entry) → new pk (plan_over ns g) ≡ build ns (λ n. new_node (below n pk) (g n))
unfolding new plan_over build
new-build pk [] g = refl
new-build pk (n ∷ ns) g = go (g n) (new-build pk ns g)
  where
    rest : Forest
    rest = build ns (λ m. new_node (below m pk) (g m))

    go : (x : Entry) → new pk (plan_over ns g) ≡ rest → new pk (add_item n x (plan_over ns g)) ≡ add n (new_node (below n pk) x) rest
    go (single o l r) e = rw e
    go (pair k) e = rw e

pub or-false : (a b : Bool) → (a || b) ≡ false → (a ≡ false) × (b ≡ false)
or-false true b e = (e, cc)
or-false false b e = (refl, e)

not-present : (x : Node) → present x ≡ false → x ≡ absent
not-present absent e = refl
not-present (file c) e = cc
not-present (folder f) e = cc

pub nowhere : (k : Name) (o l r : Forest) → has k (names o l r) ≡ false → (find k o ≡ absent) × (find k l ≡ absent) × (find k r ≡ absent)
nowhere k o l r e =
    let a = or-false (present (find k o)) (present (find k l) || (present (find k r) || false)) (sym (has-names k o l r) ∙ e) in
    let b = or-false (present (find k l)) (present (find k r) || false) a.1 in
    let c = or-false (present (find k r)) false b.1 in
    (not-present (find k o) a.0, not-present (find k l) b.0, not-present (find k r) c.0)

-- what both sides hold is what a result takes
abbrev pub Agrees : Pick → Type 0
Agrees pk = (p : TreePath) (o x : Node) → pk p agreed o x x ≡ x

-- the equation that all else rests on: the new tree at a name
pub new-find : (pk : Pick) → Agrees pk → (o l r : Forest) (n : Name)
    → find n (new pk (plan o l r)) ≡ new_node (below n pk) (settle (find n o) (find n l) (find n r))
unfolding plan settle decide same_node
new-find pk v o l r n =
    ap (find n) (new-build pk (names o l r) (λ m. settle_in l m (find m o) (find m r)))
    ∙ find-build n (names o l r) (λ m. new_node (below m pk) (settle_in l m (find m o) (find m r))) (asc-names o l r) gone
    ∙ rw (settle_in-settle l n (find n o) (find n r))
  where
    gone : has n (names o l r) ≡ false → new_node (below n pk) (settle_in l n (find n o) (find n r)) ≡ absent
    gone e = let h = nowhere n o l r e in rw (settle_in-settle l n (find n o) (find n r), h.0, h.1, h.2) (v (n ∷ []) absent absent)

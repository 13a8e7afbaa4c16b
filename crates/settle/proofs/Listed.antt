-- What stands on a list: membership, taken apart along the names; the list without a path.
use mathlib.Core.Bool.{Bool, false, true, ◌||◌}
use mathlib.Core.List.{[], ◌++◌, ◌∷◌, map}
use mathlib.Core.Logic.{◌⊎◌, inl, inr}
use mathlib.Core.Path.{◌∙◌, ◌≡◌, ap, refl, sym}
use lib.Dec.{compare_is_eq}
use Prim.Native.Nat.{Ordering}
use Rattle.tree.specs.Name.{Name, cmp}
use Rattle.tree.specs.Forest.{TreePath, Forest, Node, find}
use Rattle.tree.specs.Same.{same_words}
use Rattle.tree.proofs.Never.{never}
use Rattle.tree.proofs.Order.{cmp-eq}
use Rattle.tree.proofs.Same.{same_words-refl}
use Rattle.settle.specs.Decision.{Decision, Decision.agreed, Decision.clash, Decision.left_gets, Decision.right_gets, decide}
use Rattle.settle.specs.Names.{Names, names}
use Rattle.settle.specs.Plan.{plan, settle}
use Rattle.settle.specs.Results.{Line, Line.line, Lines, line_of, list, under}
use Rattle.settle.specs.Resume.{In, elsewhere, keep, keep_if, same_path}
use Rattle.settle.proofs.Induct.{NotBoth, settle-single}
use Rattle.settle.proofs.Lines.{gather, keep_all, keep-cong, keep-under, lines_at, lines_at-out, lines_of, list-plan}
use Rattle.settle.proofs.Names.{has}

in-append : (x : Line) (a b : Lines) → In x (a ++ b) → In x a ⊎ In x b
unfolding In
in-append x [] b h = inr h
in-append x (y ∷ ys) b (inl e) = inl (inl e)
in-append x (y ∷ ys) b (inr h) = go (in-append x ys b h)
  where
    go : In x ys ⊎ In x b → ((x ≡ y) ⊎ In x ys) ⊎ In x b
    go (inl i) = inl (inr i)
    go (inr i) = inr i

in-gather : (x : Line) (ns : Names) (g : Name → Lines) → In x (gather ns g) → (n : Name) × In x (g n)
unfolding In gather
in-gather x [] g h = absurd h
in-gather x (n ∷ ns) g h = go (in-append x (g n) (gather ns g) h) (in-gather x ns g)
  where
    go : In x (g n) ⊎ In x (gather ns g) → (In x (gather ns g) → (m : Name) × In x (g m)) → (m : Name) × In x (g m)
    go (inl i) ih = (n, i)
    go (inr i) ih = ih i

in-under : (p : TreePath) (d : Decision) (n : Name) (xs : Lines) → In (line p d) (map (under n) xs) → (q : TreePath) × (p ≡ n ∷ q) × In (line q d) xs
unfolding In
in-under p d n [] h = absurd h
in-under p d n (line q e ∷ xs) (inl i) = (q, cc, inl cc)
in-under p d n (line q e ∷ xs) (inr h) = go (in-under p d n xs h)
  where
    go : (s : TreePath) × (p ≡ n ∷ s) × In (line s d) xs → (s : TreePath) × (p ≡ n ∷ s) × ((line s d ≡ line q e) ⊎ In (line s d) xs)
    go (s, a, b) = (s, a, inr b)

-- a line on the list of three trees stands at a name
in-plan : (p : TreePath) (d : Decision) (o l r : Forest) → In (line p d) (list (plan o l r))
    → (n : Name) × (q : TreePath) × (p ≡ n ∷ q) × In (line q d) (lines_of (settle (find n o) (find n l) (find n r)))
in-plan p d o l r h =
    let a = in-gather (line p d) (names o l r) (lines_at o l r) (rw list-plan at h) in
    let b = in-under p d a.0 (lines_of (settle (find a.0 o) (find a.0 l) (find a.0 r))) a.1 in
    (a.0, b.0, b.1, b.2)

pub in-plan-cons : (n : Name) (p : TreePath) (d : Decision) (o l r : Forest) → In (line (n ∷ p) d) (list (plan o l r))
    → In (line p d) (lines_of (settle (find n o) (find n l) (find n r)))
in-plan-cons n p d o l r h = go (in-plan (n ∷ p) d o l r h)
  where
    go : (m : Name) × (q : TreePath) × (n ∷ p ≡ m ∷ q) × In (line q d) (lines_of (settle (find m o) (find m l) (find m r)))
        → In (line p d) (lines_of (settle (find n o) (find n l) (find n r)))
    go (m, q, e, i) =
        let a : n ≡ m = cc in let b : p ≡ q = cc in
        rw (a, b) i

in_left : (x : Line) (a b : Lines) → In x a → In x (a ++ b)
unfolding In
in_left x [] b h = absurd h
in_left x (y ∷ ys) b (inl e) = inl e
in_left x (y ∷ ys) b (inr h) = inr (in_left x ys b h)

in_right : (x : Line) (a b : Lines) → In x b → In x (a ++ b)
unfolding In
in_right x [] b h = h
in_right x (y ∷ ys) b h = inr (in_right x ys b h)

gather-in : (x : Line) (n : Name) (ns : Names) (g : Name → Lines) → has n ns ≡ true → In x (g n) → In x (gather ns g)
unfolding gather has
gather-in x n [] g e h = never (cc)
gather-in x n (m ∷ ms) g e h = go (cmp n m) refl e (λ t. gather-in x n ms g t h)
  where
    go : (w : Ordering) → cmp n m ≡ w → (compare_is_eq w || has n ms) ≡ true → (has n ms ≡ true → In x (gather ms g)) → In x (g m ++ gather ms g)
    go Ordering.lt q t ih = in_right x (g m) (gather ms g) (ih t)
    go Ordering.eq q t ih = in_left x (g m) (gather ms g) (rw (cmp-eq n m q) at h)
    go Ordering.gt q t ih = in_right x (g m) (gather ms g) (ih t)

under-in : (p : TreePath) (d : Decision) (n : Name) (xs : Lines) → In (line p d) xs → In (line (n ∷ p) d) (map (under n) xs)
unfolding In
under-in p d n [] h = absurd h
under-in p d n (x ∷ xs) (inl e) = inl (ap (under n) e)
under-in p d n (x ∷ xs) (inr h) = inr (under-in p d n xs h)

-- what stands at a name is on the list
pub plan-in : (n : Name) (p : TreePath) (d : Decision) (o l r : Forest) → In (line p d) (lines_of (settle (find n o) (find n l) (find n r)))
    → In (line (n ∷ p) d) (list (plan o l r))
unfolding In
plan-in n p d o l r h = rw (list-plan o l r) (go (has n (names o l r)) refl (under-in p d n (lines_of (settle (find n o) (find n l) (find n r))) h))
  where
    go : (t : Bool) → has n (names o l r) ≡ t → In (line (n ∷ p) d) (lines_at o l r n) → In (line (n ∷ p) d) (gather (names o l r) (lines_at o l r))
    go true e i = gather-in (line (n ∷ p) d) n (names o l r) (lines_at o l r) e i
    go false e i = absurd (rw (lines_at-out o l r n e) at i)

pub in-line_of : (p q : TreePath) (d e : Decision) → In (line p d) (line_of q e) → (p ≡ q) × (d ≡ e)
unfolding In
in-line_of p q d agreed h = absurd h
in-line_of p q d left_gets (inl i) = (cc, cc)
in-line_of p q d left_gets (inr h) = absurd h
in-line_of p q d right_gets (inl i) = (cc, cc)
in-line_of p q d right_gets (inr h) = absurd h
in-line_of p q d clash (inl i) = (cc, cc)
in-line_of p q d clash (inr h) = absurd h

-- no line stands at the root, nor beneath an entry that is not a folder on both sides
pub no-root : {P : Type 0} (d : Decision) (o l r : Forest) → In (line [] d) (list (plan o l r)) → P
no-root d o l r h = let a = in-plan [] d o l r h in let e = a.2 in never (cc)

pub not-below : {P : Type 0} (n : Name) (p : TreePath) (d : Decision) (o l r : Node) → NotBoth l r → In (line (n ∷ p) d) (lines_of (settle o l r)) → P
not-below n p d o l r nb h = let e = (in-line_of (n ∷ p) [] d (decide o l r) (rw (settle-single o l r nb) at h)).0 in never (cc)

-- a line that is kept was on the list, and passes the test
pub in_kept : (f : Line → Bool) (x : Line) (xs : Lines) → In x (keep f xs) → (f x ≡ true) × In x xs
unfolding In keep
in_kept f x [] h = absurd h
in_kept f x (y ∷ ys) h = go (f y) refl (in_kept f x ys) h
  where
    go : (w : Bool) → f y ≡ w → (In x (keep f ys) → (f x ≡ true) × In x ys) → In x (keep_if w y (keep f ys)) → (f x ≡ true) × ((x ≡ y) ⊎ In x ys)
    go true e ih (inl q) = (rw q e, inl q)
    go true e ih (inr i) = let k = ih i in (k.0, inr k.1)
    go false e ih i = let k = ih i in (k.0, inr k.1)

abbrev pub without : TreePath → Lines → Lines
without p = keep (elsewhere p)

pub without-here : (n : Name) (p : TreePath) (xs : Lines) → map (under n) (without p xs) ≡ without (n ∷ p) (map (under n) xs)
unfolding same_path
without-here n p xs =
    ap (map (under n)) (keep-cong (elsewhere p) (λ x. elsewhere (n ∷ p) (under n x)) xs go) ∙ sym (keep-under (elsewhere (n ∷ p)) n xs)
  where
    go : (x : Line) → elsewhere p x ≡ elsewhere (n ∷ p) (under n x)
    go (line q d) = rw (same_words-refl n)

pub without-there : (n m : Name) (p : TreePath) (xs : Lines) → same_words n m ≡ false → without (n ∷ p) (map (under m) xs) ≡ map (under m) xs
unfolding same_path
without-there n m p xs e = keep-under (elsewhere (n ∷ p)) m xs ∙ ap (map (under m)) (keep_all (λ x. elsewhere (n ∷ p) (under m x)) xs go)
  where
    go : (x : Line) → elsewhere (n ∷ p) (under m x) ≡ true
    go (line q d) = rw e

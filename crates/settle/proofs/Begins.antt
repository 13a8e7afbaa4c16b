-- Where clashes begin: a clash has a place on both sides, and the lines of the rerun and of the closing run have the places that
-- they had in the first run.
use Rattle.std.proofs.Common.{Option, Some, None}
use mathlib.Core.Bool.{Bool, true, false}
use mathlib.Core.List.{[], ◌∷◌, map}
use mathlib.Core.Logic.{inl, inr}
use mathlib.Core.Path.{◌∙◌, ◌≡◌, ap, refl, subst, sym}
use native.Mathlib.Omega.{arith}
use Prim.Native.Nat.{ℕ, ◌≤◌}
use Rattle.tree.specs.Name.{Name}
use Rattle.tree.specs.Forest.{TreePath, Forest, Node, Node.folder, Sorted, find, kids, at, size}
use Rattle.tree.specs.Same.{same_node}
use Rattle.tree.specs.Key.{fold}
use Rattle.tree.specs.Preorder.{preorder, compared}
use Rattle.tree.specs.declared.Profile.{Profile}
use Rattle.tree.proofs.Never.{never}
use Rattle.tree.proofs.Same.{same_node-true}
use Rattle.tree.proofs.Size.{rows-beneath}
use Rattle.tree.proofs.Preorder.{Within, compared-equal, compared-within, length-preorder}
use Rattle.settle.specs.Decision.{Decision, Decision.agreed, Decision.left_gets, Decision.right_gets, Decision.clash, rule, decide}
use Rattle.settle.specs.Plan.{plan, settle}
use Rattle.settle.specs.Results.{Pick, below, new, new_left, new_right, new_archive, Line, Line.line, Lines, list, Outcome, outcome}
use Rattle.settle.specs.Begins.{place_of, place_in, places_in, places, Begins}
use Rattle.settle.specs.Resume.{Sides, after, In, keep, is_clash, elsewhere, minus, Chosen, with_lines, ResumesPlaces, ClosesPlaces, ClashesBegin}
use Rattle.settle.specs.Spelled.{outcome_in, fold_line, ResumesPlacesIn, ClosesPlacesIn}
use Rattle.settle.proofs.Induct.{NotBoth, settle-ind, settle-single}
use Rattle.settle.proofs.Lines.{lines_of}
use Rattle.settle.proofs.Listed.{in-plan-cons, in-line_of, in_kept, no-root, not-below}
use Rattle.settle.proofs.Picks.{Result, Result.left, Result.right, Result.archive, to, kept, settles, to-clash}
use Rattle.settle.proofs.Plan.{Agrees, new_node, new-find}
use Rattle.settle.proofs.Resume.{resumes}
use Rattle.settle.proofs.Close.{closes}
use Rattle.settle.proofs.Spelled.{fold-left, fold-right, fold-archive, fold-after}

-- AT A LISTED PATH: the decision is that of what stands there, and each result has there what it takes
pub record AtLine (p : TreePath) (d : Decision) (o l r : Node) : Type 0 where
  pub decided : decide (at o p) (at l p) (at r p) ≡ d
  pub taken : (pk : Pick) → Agrees pk → at (new_node pk (settle o l r)) p ≡ pk p d (at o p) (at l p) (at r p)

abbrev EachLine : Node → Node → Node → Type 0
EachLine o l r = (p : TreePath) (d : Decision) → In (line p d) (lines_of (settle o l r)) → AtLine p d o l r

one : (o l r : Node) → NotBoth l r → EachLine o l r
unfolding at
one o l r nb [] d h =
    let e = (in-line_of [] [] d (decide o l r) (rw (settle-single o l r nb) at h)).1 in
    record { decided = sym e; taken = λ pk v. rw (settle-single o l r nb, e) }
one o l r nb (n ∷ p) d h = not-below n p d o l r nb h

two : (o : Node) (l r : Forest) → ((n : Name) → EachLine (find n (kids o)) (find n l) (find n r)) → EachLine o (folder l) (folder r)
unfolding at settle
two o l r ih [] d h = no-root d (kids o) l r h
two o l r ih (n ∷ p) d h =
    let s = ih n p d (in-plan-cons n p d (kids o) l r h) in
    record {
      decided = s.decided;
      taken = λ pk v. ap (λ (x : Node). at x p) (new-find pk v (kids o) l r n) ∙ s.taken (below n pk) (λ q. v (n ∷ q));
    }

pub at-line : (o l r : Forest) (p : TreePath) (d : Decision) → In (line p d) (list (plan o l r)) → AtLine p d (folder o) (folder l) (folder r)
unfolding settle
at-line o l r = settle-ind EachLine one two (folder o) (folder l) (folder r)

-- at a clash each result has what it keeps
pub kept_at : (s : Result) (o l r : Forest) (p : TreePath) → In (line p clash) (list (plan o l r))
    → at (folder (new (to s) (plan o l r))) p ≡ kept s (at (folder o) p) (at (folder l) p) (at (folder r) p)
unfolding settle
kept_at s o l r p h = (at-line o l r p clash h).taken (to s) (settles s).agrees ∙ to-clash s p _ _ _

-- THE SAME PLACES IN A LATER RUN
map-in : {A : Type 0} (f g : Line → A) (xs : Lines) → ((x : Line) → In x xs → f x ≡ g x) → map f xs ≡ map g xs
unfolding In
map-in f g [] h = refl
map-in f g (x ∷ xs) h = rw (h x (inl refl), map-in f g xs (λ y i. h y (inr i)))

-- lines of the first run have their places in any run that lists them and gives the same three trees
same-places : (o l r o' l' r' : Forest) (xs : Lines) → outcome o' l' r' ≡ with_lines xs (outcome o l r)
    → ((x : Line) → In x xs → In x (list (plan o l r)))
    → places o' l' r' xs ≡ places o l r xs
unfolding new_archive new_left new_right place_in
same-places o l r o' l' r' xs e first = map-in (places_in o' l' r') (places_in o l r) xs go
  where
    -- what a result keeps at a clash is the same in both runs
    same : (s : Result) (p : TreePath) → In (line p clash) xs → new (to s) (plan o' l' r') ≡ new (to s) (plan o l r)
        → kept s (at (folder o') p) (at (folder l') p) (at (folder r') p) ≡ kept s (at (folder o) p) (at (folder l) p) (at (folder r) p)
    same s p i t =
        sym (kept_at s o' l' r' p (subst (In (line p clash)) (sym (ap (λ (u : Outcome). u.lines) e)) i))
        ∙ ap (λ (f : Forest). at (folder f) p) t
        ∙ kept_at s o l r p (first (line p clash) i)

    go : (x : Line) → In x xs → places_in o' l' r' x ≡ places_in o l r x
    go (line p agreed) i = refl
    go (line p left_gets) i = refl
    go (line p right_gets) i = refl
    go (line p clash) i =
        rw (same archive p i (ap (λ (u : Outcome). u.archive) e), same left p i (ap (λ (u : Outcome). u.left) e), same right p i (ap (λ (u : Outcome). u.right) e))

in-minus : (ms xs : Lines) (x : Line) → In x (minus ms xs) → In x xs
unfolding minus
in-minus [] xs x h = h
in-minus (line p d ∷ ms) xs x h = (in_kept (elsewhere p) x xs (in-minus ms (keep (elsewhere p) xs) x h)).1

pub resumes-places : (ms : Lines) (o l r : Forest) → Sorted o → Sorted l → Sorted r → Chosen ms (list (plan o l r)) → ResumesPlaces ms o l r
resumes-places ms o l r so sl sr c =
    let s : Sides = after ms (record { left = l; right = r }) in
    same-places o l r o s.left s.right (minus ms (list (plan o l r))) (resumes ms o l r so sl sr c) (in-minus ms (list (plan o l r)))

pub closes-places : (o l r : Forest) → Sorted o → Sorted l → Sorted r → ClosesPlaces o l r
closes-places o l r so sl sr =
    same-places o l r (new_archive o l r) (new_left o l r) (new_right o l r) (keep is_clash (list (plan o l r))) (closes o l r so sl sr)
    (λ x h. (in_kept is_clash x (list (plan o l r)) h).1)

-- IN EITHER PROFILE
module _ (p : Profile) (o l r : Forest) (so : Sorted (fold p o)) (sl : Sorted (fold p l)) (sr : Sorted (fold p r)) where
  pub resumes-places-in : (ms : Lines) → Chosen (map (fold_line p) ms) (outcome_in p o l r).lines → ResumesPlacesIn p ms o l r
  resumes-places-in ms c =
      ap (λ (u : Sides). places (fold p o) u.left u.right (minus (map (fold_line p) ms) (outcome_in p o l r).lines)) (fold-after p ms (record { left = l; right = r }))
      ∙ resumes-places (map (fold_line p) ms) (fold p o) (fold p l) (fold p r) so sl sr c

  pub closes-places-in : ClosesPlacesIn p o l r
  closes-places-in = rw (fold-archive p o l r, fold-left p o l r, fold-right p o l r) (closes-places (fold p o) (fold p l) (fold p r) so sl sr)

-- A CLASH HAS TWO PLACES
side-begins : (o s : Forest) (p : TreePath) → same_node (at (folder s) p) (at (folder o) p) ≡ false → Begins o s p (place_in o s (line p clash))
unfolding place_in
side-begins o s p e = go (compared x y) refl (compared-within x y)
  where
    x : Node
    x = at (folder s) p

    y : Node
    y = at (folder o) p

    go : (c : Option ℕ) → compared x y ≡ c → Within (preorder x) (preorder y) c → Begins o s p (place_of (compared x y))
    go None h w = let t = same_node-true x y (compared-equal x y h) in never (cc)
    go (Some k) h w = record { differs = rw h; side = rw h w.0; archive = rw h w.1 }

clash-differs : (o l r : Node) → decide o l r ≡ clash → (same_node l o ≡ false) × (same_node r o ≡ false)
unfolding decide
clash-differs o l r = go (same_node l r) (same_node l o) (same_node r o)
  where
    go : (a b c : Bool) → rule a b c ≡ clash → (b ≡ false) × (c ≡ false)
    go true b c e = never (cc)
    go false true c e = never (cc)
    go false false true e = never (cc)
    go false false false e = (refl, refl)

pub clashes-begin : (o l r : Forest) → ClashesBegin o l r
clashes-begin o l r p h =
    let e = clash-differs (at (folder o) p) (at (folder l) p) (at (folder r) p) (at-line o l r p clash h).decided in
    (side-begins o l p e.0, side-begins o r p e.1)

-- so a place is at most the number of a side's entries
side-within : (o s : Forest) (n : Name) (p : TreePath) (k : ℕ) → Begins o s (n ∷ p) k → k ≤ size s
side-within o s n p k b = omega (arith, length-preorder (at (folder s) (n ∷ p)), rows-beneath n p s)

pub places-within : (o l r : Forest) (p : TreePath) → In (line p clash) (list (plan o l r))
    → ((places_in o l r (line p clash)).left ≤ size l) × ((places_in o l r (line p clash)).right ≤ size r)
places-within o l r [] h = no-root clash o l r h
places-within o l r (n ∷ p) h = let b = clashes-begin o l r (n ∷ p) h in (side-within o l n p _ b.0, side-within o r n p _ b.1)

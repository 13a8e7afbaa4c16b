-- The list as a gathering over names; the list of one run compared with another.
use mathlib.Core.Bool.{Bool, ◌||◌, false, true}
use mathlib.Core.List.{[], ◌++◌, ◌∷◌, map}
use mathlib.Core.Path.{◌∙◌, ◌≡◌, ap, fun_ext, refl, sym}
use lib.Dec.{compare_is_eq}
use Prim.Native.Nat.{Ordering}
use Rattle.tree.specs.Forest.{Forest, Node, Node.folder, find, kids}
use Rattle.tree.specs.Name.{Name, by_order, cmp}
use Rattle.tree.specs.Same.{same_node}
use Rattle.settle.specs.Decision.{Decision, Decision.agreed, Decision.clash, Decision.left_gets, Decision.right_gets, decide}
use Rattle.settle.specs.Names.{Names, insert, names}
use Rattle.settle.specs.Plan.{Entry, Entry.pair, Entry.single, add_item, plan, plan_over, settle, settle_in}
use Rattle.settle.specs.Results.{Line, Lines, line_of, list, under}
use Rattle.settle.specs.Resume.{keep, keep_if}
use Rattle.settle.proofs.Induct.{NotBoth, settle-ind, settle-single}
use Rattle.settle.proofs.Names.{Asc, asc-ext, asc-insert, asc-names, has, has-insert, has-over}
use Rattle.settle.proofs.Plan.{nowhere, or-false, settle_in-settle}
use Rattle.settle.proofs.Sorted.{decide-same}

unfoldable pub gather : Names → (Name → Lines) → Lines
gather [] g = []
gather (n ∷ ns) g = g n ++ gather ns g

abbrev pub lines_of : Entry → Lines
lines_of (single o l r) = line_of [] (decide o l r)
lines_of (pair k) = list k

line_of-under : (n : Name) (d : Decision) → line_of (n ∷ []) d ≡ map (under n) (line_of [] d)
line_of-under n agreed = refl
line_of-under n left_gets = refl
line_of-under n right_gets = refl
line_of-under n clash = refl

list-build : (ns : Names) (g : Name → Entry) → list (plan_over ns g) ≡ gather ns (λ n. map (under n) (lines_of (g n)))
unfolding list plan_over gather
list-build [] g = refl
list-build (n ∷ ns) g = go (g n) (list-build ns g)
  where
    go : (x : Entry) → list (plan_over ns g) ≡ gather ns (λ m. map (under m) (lines_of (g m)))
        → list (add_item n x (plan_over ns g)) ≡ map (under n) (lines_of x) ++ gather ns (λ m. map (under m) (lines_of (g m)))
    go (single o l r) e = rw (e, line_of-under n (decide o l r))
    go (pair k) e = rw e

-- the lines at a name
abbrev pub lines_at : Forest → Forest → Forest → Name → Lines
lines_at o l r n = map (under n) (lines_of (settle (find n o) (find n l) (find n r)))

pub list-plan : (o l r : Forest) → list (plan o l r) ≡ gather (names o l r) (lines_at o l r)
unfolding plan
list-plan o l r = list-build (names o l r) (λ n. settle_in l n (find n o) (find n r))
    ∙ ap (gather (names o l r)) (fun_ext (λ n. ap (λ (x : Entry). map (under n) (lines_of x)) (settle_in-settle l n (find n o) (find n r))))

pub lines_at-out : (o l r : Forest) (n : Name) → has n (names o l r) ≡ false → lines_at o l r n ≡ []
unfolding settle decide same_node
lines_at-out o l r n e = let h = nowhere n o l r e in rw (h.0, h.1, h.2)

or_comm : (a b : Bool) → (a || b) ≡ (b || a)
or_comm true true = refl
or_comm true false = refl
or_comm false true = refl
or_comm false false = refl

-- a name with no lines may be left out or put in
gather-insert : (m : Name) (ns : Names) (g : Name → Lines) → Asc ns → (has m ns ≡ false → g m ≡ []) → gather (insert m ns) g ≡ gather ns g
unfolding gather insert has Asc
gather-insert m [] g a v = rw (v refl)
gather-insert m (n ∷ ns) g a v = go (cmp m n) refl v (gather-insert m ns g a.1)
  where
    go : (w : Ordering) → cmp m n ≡ w → ((compare_is_eq w || has m ns) ≡ false → g m ≡ [])
        → ((has m ns ≡ false → g m ≡ []) → gather (insert m ns) g ≡ gather ns g)
        → gather (by_order w (m ∷ (n ∷ ns)) (n ∷ ns) (n ∷ insert m ns)) g ≡ g n ++ gather ns g
    go Ordering.lt e v ih = rw (v (has-over m n ns e a.0))
    go Ordering.eq e v ih = refl
    go Ordering.gt e v ih = ap (λ (x : Lines). g n ++ x) (ih v)

ins_all : Names → Names → Names
ins_all [] us = us
ins_all (m ∷ ms) us = insert m (ins_all ms us)

asc-ins_all : (ms us : Names) → Asc us → Asc (ins_all ms us)
unfolding ins_all
asc-ins_all [] us a = a
asc-ins_all (m ∷ ms) us a = asc-insert m (ins_all ms us) (asc-ins_all ms us a)

has-ins_all : (k : Name) (ms us : Names) → has k (ins_all ms us) ≡ (has k ms || has k us)
unfolding ins_all has
has-ins_all k [] us = refl
has-ins_all k (m ∷ ms) us = has-insert k m (ins_all ms us) ∙ rw (has-ins_all k ms us) (assoc (compare_is_eq (cmp k m)) (has k ms) (has k us))
  where
    assoc : (a b c : Bool) → (a || (b || c)) ≡ ((a || b) || c)
    assoc true b c = refl
    assoc false b c = refl

gather-ins_all : (ms us : Names) (g : Name → Lines) → Asc us → ((k : Name) → has k us ≡ false → g k ≡ []) → gather (ins_all ms us) g ≡ gather us g
unfolding ins_all
gather-ins_all [] us g a v = refl
gather-ins_all (m ∷ ms) us g a v =
    gather-insert m (ins_all ms us) g (asc-ins_all ms us a) (λ e. v m (or-false (has m ms) (has m us) (sym (has-ins_all m ms us) ∙ e)).1)
    ∙ gather-ins_all ms us g a v

pub gather_ext : (ns ms : Names) (g : Name → Lines) → Asc ns → Asc ms → ((k : Name) → has k ns ≡ false → g k ≡ [])
    → ((k : Name) → has k ms ≡ false → g k ≡ [])
    → gather ns g ≡ gather ms g
gather_ext ns ms g a b v w =
    sym (gather-ins_all ms ns g a v)
    ∙ ap (λ (us : Names). gather us g) (asc-ext (ins_all ms ns) (ins_all ns ms) (asc-ins_all ms ns a) (asc-ins_all ns ms b)
    (λ k. has-ins_all k ms ns ∙ or_comm (has k ms) (has k ns) ∙ sym (has-ins_all k ns ms)))
    ∙ gather-ins_all ns ms g b w

-- one run's list from another's, by a map that respects joining: compare them name by name
gather-hom : (F : Lines → Lines) → F [] ≡ [] → ((a b : Lines) → F (a ++ b) ≡ F a ++ F b) → (ns : Names) (g : Name → Lines)
    → gather ns (λ n. F (g n)) ≡ F (gather ns g)
unfolding gather
gather-hom F z m [] g = sym z
gather-hom F z m (n ∷ ns) g = rw (gather-hom F z m ns g) (sym (m (g n) (gather ns g)))

pub list-hom : (F : Lines → Lines) → F [] ≡ [] → ((a b : Lines) → F (a ++ b) ≡ F a ++ F b) → (o l r o' l' r' : Forest)
    → ((n : Name) → lines_at o' l' r' n ≡ F (lines_at o l r n)) → list (plan o' l' r') ≡ F (list (plan o l r))
list-hom F z m o l r o' l' r' E =
    list-plan o' l' r'
    ∙ gather_ext (names o' l' r') (names o l r) (lines_at o' l' r') (asc-names o' l' r') (asc-names o l r) (lines_at-out o' l' r')
    (λ k e. E k ∙ ap F (lines_at-out o l r k e) ∙ z)
    ∙ ap (gather (names o l r)) (fun_ext E)
    ∙ gather-hom F z m (names o l r) (lines_at o l r)
    ∙ ap F (sym (list-plan o l r))

pub keep_append : (f : Line → Bool) (a b : Lines) → keep f (a ++ b) ≡ keep f a ++ keep f b
unfolding keep
keep_append f [] b = refl
keep_append f (x ∷ xs) b = rw (keep_append f xs b) (go (f x))
  where
    go : (w : Bool) → keep_if w x (keep f xs ++ keep f b) ≡ keep_if w x (keep f xs) ++ keep f b
    go true = refl
    go false = refl

pub keep-nil : (f : Line → Bool) → keep f [] ≡ []
unfolding keep
keep-nil f = refl

pub keep-under : (f : Line → Bool) (n : Name) (xs : Lines) → keep f (map (under n) xs) ≡ map (under n) (keep (λ x. f (under n x)) xs)
unfolding keep
keep-under f n [] = refl
keep-under f n (x ∷ xs) = rw (keep-under f n xs) (go (f (under n x)))
  where
    go : (w : Bool) → keep_if w (under n x) (map (under n) (keep (λ x. f (under n x)) xs)) ≡ map (under n) (keep_if w x (keep (λ x. f (under n x)) xs))
    go true = refl
    go false = refl

pub keep_all : (f : Line → Bool) (xs : Lines) → ((x : Line) → f x ≡ true) → keep f xs ≡ xs
unfolding keep
keep_all f [] h = refl
keep_all f (x ∷ xs) h = rw (h x, keep_all f xs h)

pub keep-cong : (f g : Line → Bool) (xs : Lines) → ((x : Line) → f x ≡ g x) → keep f xs ≡ keep g xs
unfolding keep
keep-cong f g [] h = refl
keep-cong f g (x ∷ xs) h = rw (h x, keep-cong f g xs h)

-- left and right the same: nothing is listed
abbrev Quiet : Node → Node → Node → Type 0
Quiet o l r = l ≡ r → lines_of (settle o l r) ≡ []

gather_none : (ns : Names) → gather ns (λ n. []) ≡ []
unfolding gather
gather_none [] = refl
gather_none (n ∷ ns) = gather_none ns

quiet_pair : (o : Node) (l r : Forest) → ((n : Name) → Quiet (find n (kids o)) (find n l) (find n r)) → Quiet o (folder l) (folder r)
unfolding settle
quiet_pair o l r ih e =
    let e' : l ≡ r = cc in
    list-plan (kids o) l r ∙ ap (gather (names (kids o) l r)) (fun_ext (λ n. ap (map (under n)) (ih n (ap (find n) e'))))
    ∙ gather_none (names (kids o) l r)

quiet-single : (o l r : Node) → NotBoth l r → Quiet o l r
quiet-single o l r nb e = rw (settle-single o l r nb) (rw (e, decide-same o r))

pub list_same : (o r : Node) → lines_of (settle o r r) ≡ []
list_same o r = settle-ind Quiet quiet-single quiet_pair o r r refl

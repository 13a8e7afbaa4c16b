-- The words of three runs of siblings, as a loop over them writes them: the least name's entry, then the rest.
use mathlib.Core.Path.{◌≡◌, refl, ap, ap₂, sym, ◌∙◌}
use mathlib.Core.List.{List, [], ◌∷◌, ◌++◌, map, append_assoc}
use mathlib.Core.Bool.{true}
use native.Mathlib.Omega.{arith}
use Prim.Native.Nat.{ℕ, suc, ◌+◌, Ordering}
use Rattle.tree.specs.Name.{Name, cmp, if_same, by_order}
use Rattle.tree.specs.Forest.{TreePath, Forest, Forest.end, Forest.leaf, Forest.dir, Node, Node.absent, find, kids, at, add, size, Sorted, Present}
use Rattle.settle.specs.Decision.{Decision.agreed, decide}
use Rattle.settle.specs.Names.{Names, names}
use Rattle.settle.specs.Plan.{Plan, Entry, Entry.single, Entry.pair, add_item, plan_over, settle_in, plan, settle}
use Rattle.settle.specs.Results.{Line, Line.line, Lines, under}
use Rattle.table_stands.specs.Around.{before, row_in}
use Rattle.table_stands.proofs.Around.{before-add}
use Rattle.tree.proofs.Never.{never}
use Rattle.tree.proofs.Order.{flip, cmp-eq, cmp-flip}
use Rattle.tree.proofs.Forest.{siblings-ind}
use Rattle.tree.proofs.Size.{size-add, row_count}
use Rattle.settle.proofs.Names.{has, Over}
use Rattle.settle.proofs.Merge.{first, skip, Least, first-add, skip-add, find_first, find-skip, over-rest, plan-step}
use Rattle.plan.specs.Items.{kind, items, or_none, words_of}

-- the row of what stands at a path below siblings, the first of which stands at row b
unfoldable pub row_from : ℕ → Forest → TreePath → ℕ
row_from b f [] = 0
row_from b f (n ∷ p) = or_none (at (find n f) p) (b + size (before n f) + row_in (find n f) p)

-- three runs of siblings, each with the row at which it starts
pub record Runs : Type 0 where
  pub o : Forest
  pub l : Forest
  pub r : Forest
  pub bo : ℕ
  pub bl : ℕ
  pub br : ℕ

abbrev pub run_words : Runs → Line → List ℕ
run_words z (line p d) = kind d ∷ row_from z.bo z.o p ∷ row_from z.bl z.l p ∷ row_from z.br z.r p ∷ []

-- the words of all items of three runs
abbrev pub written : Runs → List ℕ
written z = words_of (run_words z) (items (plan z.o z.l z.r))

-- the runs behind the entries called n
abbrev pub past : Name → Runs → Runs
past n z = record {
  o = skip n z.o;
  l = skip n z.l;
  r = skip n z.r;
  bo = z.bo + row_count (first n z.o);
  bl = z.bl + row_count (first n z.l);
  br = z.br + row_count (first n z.r);
}

-- the runs inside them
abbrev pub inside : Name → Runs → Runs
inside n z = record {
  o = kids (first n z.o);
  l = kids (first n z.l);
  r = kids (first n z.r);
  bo = suc z.bo;
  bl = suc z.bl;
  br = suc z.br;
}

pub record Ready (n : Name) (z : Runs) : Type 0 where
  pub so : Sorted z.o
  pub sl : Sorted z.l
  pub sr : Sorted z.r
  pub lo : Least n z.o
  pub ll : Least n z.l
  pub lr : Least n z.r

-- behind n the rows before a later name m are those that were, less the head's
before-skip : (n m : Name) → cmp n m ≡ Ordering.lt → (f : Forest) → size (before m f) ≡ row_count (first n f) + size (before m (skip n f))
unfolding before first skip size
before-skip n m g = siblings-ind (λ (f : Forest). size (before m f) ≡ row_count (first n f) + size (before m (skip n f))) (omega arith) more
  where
    more : (k : Name) (y : Node) (s : Forest) → Present y → size (before m s) ≡ row_count (first n s) + size (before m (skip n s))
        → size (before m (add k y s)) ≡ row_count (first n (add k y s)) + size (before m (skip n (add k y s)))
    more k y s h ih = rw (first-add n k y s h, skip-add n k y s h) (go (cmp n k) refl)
      where
        go : (w : Ordering) → cmp n k ≡ w → size (before m (add k y s)) ≡ row_count (if_same w y absent) + size (before m (if_same w s (add k y s)))
        go Ordering.lt e = omega arith
        go Ordering.gt e = omega arith
        go Ordering.eq e =
            let q : cmp m k ≡ Ordering.gt = rw (← cmp-eq n k e) (cmp-flip n m ∙ ap flip g) in
            rw (before-add m k y s h, q) (size-add k y (before m s))

row-skip : (b : ℕ) (n m : Name) (f : Forest) (p : TreePath) → cmp n m ≡ Ordering.lt → row_from b f (m ∷ p) ≡ row_from (b + row_count (first n f)) (skip n f) (m ∷ p)
unfolding row_from
row-skip b n m f p g =
    let e = before-skip n m g f in
    let z : b + size (before m f) + row_in (find m f) p ≡ b + row_count (first n f) + size (before m (skip n f)) + row_in (find m f) p = omega arith in
    rw (find-skip n m (λ h. let a = cmp-flip n m in never (cc)) f) (ap (or_none (at (find m f) p)) z)

before-least : (n : Name) (f : Forest) → Least n f → size (before n f) ≡ 0
unfolding before size Least
before-least n end h = refl
before-least n (leaf m c s) h = go (cmp n m) refl
  where
    go : (w : Ordering) → cmp n m ≡ w → size (by_order w end end (leaf m c (before n s))) ≡ 0
    go Ordering.lt e = refl
    go Ordering.eq e = refl
    go Ordering.gt e = absurd (h e)
before-least n (dir m k s) h = go (cmp n m) refl
  where
    go : (w : Ordering) → cmp n m ≡ w → size (by_order w end end (dir m k (before n s))) ≡ 0
    go Ordering.lt e = refl
    go Ordering.eq e = refl
    go Ordering.gt e = absurd (h e)

-- the row of the head, and of what stands inside it
row-head : (b : ℕ) (n : Name) (f : Forest) → Sorted f → Least n f → row_from b f (n ∷ []) ≡ or_none (first n f) b
unfolding row_from at row_in
row-head b n f sf lf =
    let z : b + size (before n f) + 0 ≡ b = let e = before-least n f lf in omega arith in
    rw (find_first n f sf lf, z)

row_inside : (b : ℕ) (n m : Name) (f : Forest) (p : TreePath) → Sorted f → Least n f → row_from b f (n ∷ m ∷ p) ≡ row_from (suc b) (kids (first n f)) (m ∷ p)
unfolding row_from at row_in
row_inside b n m f p sf lf =
    let x = first n f in
    let z : b + size (before n f) + suc (size (before m (kids x)) + row_in (find m (kids x)) p) ≡ suc b + size (before m (kids x)) + row_in (find m (kids x)) p
    = let e = before-least n f lf in omega arith in
    rw (find_first n f sf lf, z)

-- words of lines
words_append : (g : Line → List ℕ) (a b : Lines) → words_of g (a ++ b) ≡ words_of g a ++ words_of g b
unfolding words_of
words_append g [] b = refl
words_append g (x ∷ a) b = ap (λ (w : List ℕ). g x ++ w) (words_append g a b) ∙ sym (append_assoc (g x) (words_of g a) (words_of g b))

-- the items of one entry
abbrev pub items_of : Entry → Lines
items_of (single o l r) = line [] (decide o l r) ∷ []
items_of (pair k) = line [] agreed ∷ items k

pub items-add : (m : Name) (x : Entry) (q : Plan) → items (add_item m x q) ≡ map (under m) (items_of x) ++ items q
unfolding items
items-add m (single o l r) q = refl
items-add m (pair k) q = refl

-- what stands behind n does not see the entries called n
words-under : (z : Runs) (n m : Name) (xs : Lines) → cmp n m ≡ Ordering.lt → words_of (run_words z) (map (under m) xs) ≡ words_of (run_words (past n z)) (map (under m) xs)
unfolding words_of
words-under z n m [] g = refl
words-under z n m (line p d ∷ xs) g =
    rw (row-skip z.bo n m z.o p g, row-skip z.bl n m z.l p g, row-skip z.br n m z.r p g, words-under z n m xs g)

words-rest : (z : Runs) (n : Name) (ns : Names) (g : Name → Entry) → Over n ns
    → words_of (run_words z) (items (plan_over ns g)) ≡ words_of (run_words (past n z)) (items (plan_over ns g))
unfolding plan_over Over items words_of
words-rest z n [] g h = refl
words-rest z n (m ∷ ms) g h =
    rw items-add
    (words_append (run_words z) (map (under m) (items_of (g m))) (items (plan_over ms g))
    ∙ ap₂ (λ (a b : List ℕ). a ++ b) (words-under z n m (items_of (g m)) h.0) (words-rest z n ms g h.1)
    ∙ sym (words_append (run_words (past n z)) (map (under m) (items_of (g m))) (items (plan_over ms g))))

-- what stands inside n
words-in : (z : Runs) (n m : Name) (xs : Lines) → Ready n z → words_of (run_words z) (map (under n) (map (under m) xs)) ≡ words_of (run_words (inside n z)) (map (under m) xs)
unfolding words_of
words-in z n m [] R = refl
words-in z n m (line p d ∷ xs) R =
    rw (
      row_inside z.bo n m z.o p R.so R.lo,
      row_inside z.bl n m z.l p R.sl R.ll,
      row_inside z.br n m z.r p R.sr R.lr,
      words-in z n m xs R,
    )

map-append : (n : Name) (a b : Lines) → map (under n) (a ++ b) ≡ map (under n) a ++ map (under n) b
map-append n [] b = refl
map-append n (x ∷ a) b = ap (λ (w : Lines). under n x ∷ w) (map-append n a b)

words_inside : (z : Runs) (n : Name) (ns : Names) (g : Name → Entry) → Ready n z
    → words_of (run_words z) (map (under n) (items (plan_over ns g))) ≡ words_of (run_words (inside n z)) (items (plan_over ns g))
unfolding plan_over items words_of
words_inside z n [] g R = refl
words_inside z n (m ∷ ms) g R =
    ap (λ (x : Lines). words_of (run_words z) (map (under n) x)) (items-add m (g m) (plan_over ms g))
    ∙ ap (words_of (run_words z)) (map-append n (map (under m) (items_of (g m))) (items (plan_over ms g)))
    ∙ words_append (run_words z) (map (under n) (map (under m) (items_of (g m)))) (map (under n) (items (plan_over ms g)))
    ∙ ap₂ (λ (a b : List ℕ). a ++ b) (words-in z n m (items_of (g m)) R) (words_inside z n ms g R)
    ∙ sym (words_append (run_words (inside n z)) (map (under m) (items_of (g m))) (items (plan_over ms g)))
    ∙ ap (words_of (run_words (inside n z))) (sym (items-add m (g m) (plan_over ms g)))

-- the words of one entry
abbrev pub entry_words : Runs → Name → Entry → List ℕ
entry_words z n x = words_of (run_words z) (map (under n) (items_of x))

-- the loop's step
pub written_step : (z : Runs) (n : Name) → Ready n z → has n (names z.o z.l z.r) ≡ true
    → written z ≡ entry_words z n (settle (first n z.o) (first n z.l) (first n z.r)) ++ written (past n z)
unfolding plan
written_step z n R some =
    let e = settle (first n z.o) (first n z.l) (first n z.r) in
    let rest = plan (skip n z.o) (skip n z.l) (skip n z.r) in
    ap (λ (q : Plan). words_of (run_words z) (items q)) (plan-step n z.o z.l z.r R.so R.sl R.sr R.lo R.ll R.lr some)
    ∙ ap (words_of (run_words z)) (items-add n e rest)
    ∙ words_append (run_words z) (map (under n) (items_of e)) (items rest)
    ∙ ap (λ (w : List ℕ). entry_words z n e ++ w)
    (words-rest z n (names (skip n z.o) (skip n z.l) (skip n z.r)) (λ m. settle_in (skip n z.l) m (find m (skip n z.o)) (find m (skip n z.r)))
    (over-rest n z.o z.l z.r R.so R.sl R.sr R.lo R.ll R.lr some))

-- the four words of an entry called n that is decided d
abbrev pub own_words : Runs → Name → ℕ → List ℕ
own_words z n d = d ∷ or_none (first n z.o) z.bo ∷ or_none (first n z.l) z.bl ∷ or_none (first n z.r) z.br ∷ []

pub words-single : (z : Runs) (n : Name) (a b c : Node) → Ready n z → entry_words z n (single a b c) ≡ own_words z n (kind (decide a b c))
unfolding words_of
words-single z n a b c R = rw (row-head z.bo n z.o R.so R.lo, row-head z.bl n z.l R.sl R.ll, row-head z.br n z.r R.sr R.lr)

pub words-pair : (z : Runs) (n : Name) → Ready n z
    → entry_words z n (pair (plan (kids (first n z.o)) (kids (first n z.l)) (kids (first n z.r)))) ≡ own_words z n 0 ++ written (inside n z)
unfolding words_of plan kind
words-pair z n R =
    rw (row-head z.bo n z.o R.so R.lo, row-head z.bl n z.l R.sl R.ll, row-head z.br n z.r R.sr R.lr)
    (ap (λ (w : List ℕ). own_words z n 0 ++ w)
    (words_inside z n (names (kids (first n z.o)) (kids (first n z.l)) (kids (first n z.r)))
    (λ m. settle_in (kids (first n z.l)) m (find m (kids (first n z.o))) (find m (kids (first n z.r)))) R))

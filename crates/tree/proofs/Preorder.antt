-- Two trees compared in preorder: the answer is None exactly when they are, a place is the first where they differ, and trees of
-- keys are compared by key.
use Rattle.std.proofs.Common.{Option, Some, None}
use mathlib.Core.Path.{◌≡◌, refl, sym, ap, subst, ◌∙◌}
use mathlib.Core.List.{List, [], ◌∷◌, ◌++◌, map, append_assoc, append-nil, map-append}
use mathlib.Core.Bool.{Bool, true, false, cond}
use native.Mathlib.Omega.{arith}
use lib.Dec.{eqb}
use lib.ListN.{length, take, length-append}
use Prim.Native.Nat.{ℕ, suc, ◌≤◌}
use borrow.Author.Tests.{eq-eqb, eqb-true}
use Rattle.tree.specs.Forest.{Forest, Forest.end, Forest.leaf, Forest.dir, Node, Node.absent, Node.file, Node.folder, size}
use Rattle.tree.specs.Same.{same_words, same_node}
use Rattle.tree.specs.Key.{key, fold, fold_node}
use Rattle.tree.specs.declared.Profile.{Profile}
use Rattle.tree.specs.declared.Profile.TheVariants.{Exact, Folded}
use Rattle.tree.specs.Preorder.{Entry, Entry.file_at, Entry.folder_at, same_entry, entries, preorder, next, compare_by, compared, DifferFirst, Says, keyed_entry, same_by_key}
use Rattle.tree.proofs.Never.{never}
use Rattle.tree.proofs.Size.{row_count}
use Rattle.tree.proofs.Same.{and-true, same_words-refl, same_words-eq, same_node-eq, same_node-true}

-- LISTS COMPARED
unfoldable pub All : {A : Type 0} → (A → Type 0) → List A → Type 0
All P [] = Unit {0}
All P (x ∷ xs) = P x × All P xs

-- by a test of what is made of each
pub compare-map : {A B : Type 0} (f : B → B → Bool) (g : A → B) (xs ys : List A) → compare_by f (map g xs) (map g ys) ≡ compare_by (λ x y. f (g x) (g y)) xs ys
unfolding compare_by
compare-map f g [] [] = refl
compare-map f g [] (y ∷ ys) = refl
compare-map f g (x ∷ xs) [] = refl
compare-map f g (x ∷ xs) (y ∷ ys) = rw (compare-map f g xs ys)

-- by tests that say the same
pub compare-cong : {A : Type 0} (P : A → Type 0) (f g : A → A → Bool) → ((x y : A) → P x → P y → f x y ≡ g x y)
    → (xs ys : List A) → All P xs → All P ys → compare_by f xs ys ≡ compare_by g xs ys
unfolding compare_by All
compare-cong P f g h [] [] a b = refl
compare-cong P f g h [] (y ∷ ys) a b = refl
compare-cong P f g h (x ∷ xs) [] a b = refl
compare-cong P f g h (x ∷ xs) (y ∷ ys) a b = rw (h x y a.0 b.0, compare-cong P f g h xs ys a.1 b.1)

-- a place is at most the end of both
abbrev pub Within : {A : Type 0} → List A → List A → Option ℕ → Type 0
Within xs ys None = Unit {0}
Within xs ys (Some k) = (k ≤ length xs) × (k ≤ length ys)

lists-within : {A : Type 0} (f : A → A → Bool) (xs ys : List A) → Within xs ys (compare_by f xs ys)
unfolding compare_by
lists-within f [] [] = tt
lists-within f [] (y ∷ ys) = (omega arith, omega arith)
lists-within f (x ∷ xs) [] = (omega arith, omega arith)
lists-within f (x ∷ xs) (y ∷ ys) = go (f x y) (compare_by f xs ys) (lists-within f xs ys)
  where
    go : (b : Bool) (c : Option ℕ) → Within xs ys c → Within (x ∷ xs) (y ∷ ys) (cond b (next c) (Some 0))
    go true None h = tt
    go true (Some k) h = (omega arith, omega arith)
    go false c h = (omega arith, omega arith)

-- ENTRIES
same-entry : (x : Entry) → same_entry x x ≡ true
unfolding same_entry
same-entry (file_at d n c) = rw (eq-eqb d d refl, same_words-refl n, same_words-refl c)
same-entry (folder_at d n) = rw (eq-eqb d d refl, same_words-refl n)

pub entry-same : (x y : Entry) → same_entry x y ≡ true → x ≡ y
unfolding same_entry
entry-same (file_at d n c) (file_at e m b) h =
    let i = and-true (eqb d e) _ h in
    let j = and-true (same_words n m) (same_words c b) i.1 in
    let x = eqb-true d e i.0 in let y = same_words-eq n m j.0 in let z = same_words-eq c b j.1 in cc
entry-same (file_at d n c) (folder_at e m) h = never (cc)
entry-same (folder_at d n) (file_at e m b) h = never (cc)
entry-same (folder_at d n) (folder_at e m) h =
    let i = and-true (eqb d e) (same_words n m) h in
    let x = eqb-true d e i.0 in let y = same_words-eq n m i.1 in cc

pub entry-test : (x y : Entry) (b : Bool) → (x ≡ y → b ≡ true) → (b ≡ true → x ≡ y) → b ≡ same_entry x y
entry-test x y b h g = go b (same_entry x y) refl refl
  where
    go : (u v : Bool) → b ≡ u → same_entry x y ≡ v → u ≡ v
    go true true i j = refl
    go false false i j = refl
    go true false i j = let e = g i in let s = same-entry y in never (let z : same_entry x y ≡ true = rw e s in cc)
    go false true i j = let e = h (entry-same x y j) in never (cc)

-- the answer on two lists of entries
abbrev ListSays : List Entry → List Entry → Option ℕ → Type 0
ListSays xs ys None = xs ≡ ys
ListSays xs ys (Some k) = DifferFirst xs ys k

list-says : (xs ys : List Entry) → ListSays xs ys (compare_by same_entry xs ys)
unfolding compare_by
list-says [] [] = refl
list-says [] (y ∷ ys) = record { before = refl; there = λ e. never (cc) }
list-says (x ∷ xs) [] = record { before = refl; there = λ e. never (cc) }
list-says (x ∷ xs) (y ∷ ys) = go (same_entry x y) refl (compare_by same_entry xs ys) (list-says xs ys)
  where
    go : (b : Bool) → same_entry x y ≡ b → (c : Option ℕ) → ListSays xs ys c → ListSays (x ∷ xs) (y ∷ ys) (cond b (next c) (Some 0))
    go true e None h = let i = entry-same x y e in cc
    go true e (Some k) h = record {
      before = let i = entry-same x y e in let j = h.before in cc;
      there = λ z. h.there (cc);
    }
    go false e c h = record { before = refl; there = λ z. let i : x ≡ y = cc in let s = same-entry y in never (let w : same_entry x y ≡ true = rw i s in cc) }

-- ENTRIES TELL THEIR TREE
abbrev depth_of : Entry → ℕ
depth_of (file_at d n c) = d
depth_of (folder_at d n) = d

-- the entries, if there are any, start with one that is not deeper than d
abbrev Ended : ℕ → List Entry → Type 0
Ended d [] = Unit {0}
Ended d (x ∷ xs) = depth_of x ≤ d

ended-more : (d e : ℕ) (f : Forest) (a : List Entry) → e ≤ d → Ended e a → Ended d (entries d f ++ a)
unfolding entries
ended-more d e end [] h k = tt
ended-more d e end (file_at i n c ∷ a) h k = omega arith
ended-more d e end (folder_at i n ∷ a) h k = omega arith
ended-more d e (leaf n c s) a h k = omega arith
ended-more d e (dir n j s) a h k = omega arith

too-deep : {P : Type 0} (d : ℕ) (a b : List Entry) (x : Entry) → Ended d a → depth_of x ≡ suc d → a ≡ x ∷ b → P
too-deep d a b x h e q = absurd (let k : depth_of x ≤ d = subst (Ended d) q h in omega arith)

-- the siblings, and where they end
entries-same : (d : ℕ) (f g : Forest) (a b : List Entry) → Ended d a → Ended d b → entries (suc d) f ++ a ≡ entries (suc d) g ++ b → (f ≡ g) × (a ≡ b)
unfolding entries
entries-same d end end a b h k q = (refl, q)
entries-same d end (leaf m c t) a b h k q = too-deep d a (entries (suc d) t ++ b) (file_at (suc d) m c) h refl q
entries-same d end (dir m j t) a b h k q = too-deep d a ((entries (suc (suc d)) j ++ entries (suc d) t) ++ b) (folder_at (suc d) m) h refl q
entries-same d (leaf n c s) end a b h k q = too-deep d b (entries (suc d) s ++ a) (file_at (suc d) n c) k refl (sym q)
entries-same d (leaf n c s) (leaf m e t) a b h k q =
    let u = entries-same d s t a b h k (cc) in (let v = u.0 in cc, u.1)
entries-same d (leaf n c s) (dir m j t) a b h k q = never (cc)
entries-same d (dir n i s) end a b h k q = too-deep d b ((entries (suc (suc d)) i ++ entries (suc d) s) ++ a) (folder_at (suc d) n) k refl (sym q)
entries-same d (dir n i s) (leaf m e t) a b h k q = never (cc)
entries-same d (dir n i s) (dir m j t) a b h k q =
    let p : (entries (suc (suc d)) i ++ entries (suc d) s) ++ a ≡ (entries (suc (suc d)) j ++ entries (suc d) t) ++ b = cc in
    let o = sym (append_assoc (entries (suc (suc d)) i) (entries (suc d) s) a) ∙ p ∙ append_assoc (entries (suc (suc d)) j) (entries (suc d) t) b in
    let u = entries-same (suc d) i j (entries (suc d) s ++ a) (entries (suc d) t ++ b) (ended-more (suc d) d s a (omega arith) h) (ended-more (suc d) d t b (omega arith) k) o in
    let v = entries-same d s t a b h k u.1 in
    (let z = u.0 in let l = v.0 in cc, v.1)

preorder-same : (x y : Node) → preorder x ≡ preorder y → x ≡ y
unfolding preorder
preorder-same absent absent q = refl
preorder-same absent (file c) q = cc
preorder-same absent (folder k) q = cc
preorder-same (file c) absent q = cc
preorder-same (file c) (file b) q = cc
preorder-same (file c) (folder k) q = cc
preorder-same (folder k) absent q = cc
preorder-same (folder k) (file c) q = cc
preorder-same (folder k) (folder j) q =
    let t : entries 1 k ≡ entries 1 j = cc in
    ap folder (entries-same 0 k j [] [] tt tt (append-nil (entries 1 k) ∙ t ∙ sym (append-nil (entries 1 j)))).0

-- WHAT A COMPARISON SAYS
pub compared-says : (x y : Node) → Says x y (compared x y)
unfolding compared
compared-says x y = go (compare_by same_entry (preorder x) (preorder y)) (list-says (preorder x) (preorder y))
  where
    go : (c : Option ℕ) → ListSays (preorder x) (preorder y) c → Says x y c
    go None h = preorder-same x y h
    go (Some k) h = h

-- None exactly when the trees are
pub compared-equal : (x y : Node) → compared x y ≡ None → x ≡ y
compared-equal x y e = rw e at (compared-says x y)

pub equal-compared : (x y : Node) → x ≡ y → compared x y ≡ None
equal-compared x y e = go (compared x y) (compared-says x y)
  where
    go : (c : Option ℕ) → Says x y c → c ≡ None
    go None h = refl
    go (Some k) h = absurd (h.there (ap (λ (z : Node). take (suc k) (preorder z)) e))

abbrev pub is_equal : Option ℕ → Bool
is_equal None = true
is_equal (Some k) = false

-- so the test of two trees is its answer
pub compared-test : (x y : Node) → same_node x y ≡ is_equal (compared x y)
compared-test x y = go (same_node x y) (compared x y) refl refl
  where
    go : (b : Bool) (c : Option ℕ) → same_node x y ≡ b → compared x y ≡ c → b ≡ is_equal c
    go true None i j = refl
    go false (Some k) i j = refl
    go true (Some k) i j = let e = equal-compared x y (same_node-eq x y i) in cc
    go false None i j = let e = same_node-true x y (compared-equal x y j) in never (cc)

pub compared-within : (x y : Node) → Within (preorder x) (preorder y) (compared x y)
unfolding compared
compared-within x y = lists-within same_entry (preorder x) (preorder y)

-- as many entries as rows
length-entries : (d : ℕ) (f : Forest) → length (entries d f) ≡ size f
unfolding entries size
length-entries d end = refl
length-entries d (leaf n c s) = omega (arith, length-entries d s)
length-entries d (dir n k s) = omega (arith, length-append (entries (suc d) k) (entries d s), length-entries (suc d) k, length-entries d s)

pub length-preorder : (x : Node) → length (preorder x) ≡ row_count x
unfolding preorder
length-preorder absent = refl
length-preorder (file c) = refl
length-preorder (folder k) = omega (arith, length-entries 1 k)

-- BY KEY
module _ (p : Profile) where
  entries-keyed : (d : ℕ) (f : Forest) → entries d (fold p f) ≡ map (keyed_entry p) (entries d f)
  unfolding entries fold
  entries-keyed d end = refl
  entries-keyed d (leaf n c s) = ap (λ (xs : List Entry). file_at d (key p n) c ∷ xs) (entries-keyed d s)
  entries-keyed d (dir n k s) = rw (map-append (keyed_entry p) (entries (suc d) k) (entries d s), entries-keyed (suc d) k, entries-keyed d s)

  no_name : key p [] ≡ []
  unfolding key
  no_name = go p
    where
      go : (q : Profile) → key q [] ≡ []
      go Exact = refl
      go Folded = refl

  preorder-keyed : (x : Node) → preorder (fold_node p x) ≡ map (keyed_entry p) (preorder x)
  unfolding preorder
  preorder-keyed absent = refl
  preorder-keyed (file c) = rw no_name
  preorder-keyed (folder k) = rw (no_name, entries-keyed 1 k)

  -- trees of keys are compared by key
  pub compared-keyed : (x y : Node) → compared (fold_node p x) (fold_node p y) ≡ compare_by (same_by_key p) (preorder x) (preorder y)
  unfolding compared
  compared-keyed x y = rw (preorder-keyed x, preorder-keyed y) (compare-map same_entry (keyed_entry p) (preorder x) (preorder y))

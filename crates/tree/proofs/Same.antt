-- The equality tests are equality.
use mathlib.Core.Bool.{Bool, ◌&&◌, cond, false, true}
use mathlib.Core.List.{List}
use mathlib.Core.Path.{◌≡◌, ap, refl, sym}
use lib.Dec.{compare_is_eq}
use Rattle.std.specs.Bool.{Decides, one_answer}
use Rattle.std.specs.Str.{bytes_eq}
use Rattle.std.proofs.lemmas.Bool.Decides.{Decides-eqb}
use Rattle.std.proofs.lemmas.Slice.Eq.{slice_eq-Decides}
use Prim.Native.Nat.{Ordering, ℕ}
use Rattle.tree.specs.Forest.{Forest, Forest.dir, Forest.end, Forest.leaf, Node, Node.absent, Node.file, Node.folder}
use Rattle.tree.specs.Name.{cmp}
use Rattle.tree.specs.Same.{same_forest, same_node, same_words}
use Rattle.tree.proofs.Order.{cmp-eq, cmp-refl}
use Rattle.tree.proofs.Never.{never}

pub both_true : (a b : Bool) → cond a b false ≡ true → (a ≡ true) × (b ≡ true)
both_true true b e = (refl, e)
both_true false b e = never (cc)

pub and-true : (a b : Bool) → (a && b) ≡ true → (a ≡ true) × (b ≡ true)
and-true true b e = (refl, e)
and-true false b e = (e, cc)

pub same_words-refl : (a : List ℕ) → same_words a a ≡ true
unfolding same_words
same_words-refl a = rw cmp-refl

pub same_words-eq : (a b : List ℕ) → same_words a b ≡ true → a ≡ b
unfolding same_words
same_words-eq a b = go (cmp a b) refl
  where
    go : (o : Ordering) → cmp a b ≡ o → compare_is_eq o ≡ true → a ≡ b
    go Ordering.lt h e = cc
    go Ordering.eq h e = cmp-eq a b h
    go Ordering.gt h e = cc

pub same_words-decides : (a b : List ℕ) → Decides (same_words a b) (a ≡ b)
same_words-decides a b = (same_words-eq a b, λ e. rw e (same_words-refl b))

-- what `==` tells of two slices
pub same_words-slices : (a b : List ℕ) (r : Bool) → r ≡ bytes_eq a b → r ≡ same_words a b
same_words-slices a b r h = one_answer r (same_words a b) (slice_eq-Decides Decides-eqb a b r h) (same_words-decides a b)

pub same_forest-refl : (f : Forest) → same_forest f f ≡ true
unfolding same_forest
same_forest-refl end = refl
same_forest-refl (leaf n c s) = rw (same_words-refl n, same_words-refl c) (same_forest-refl s)
same_forest-refl (dir n k s) = rw (same_words-refl n, same_forest-refl k) (same_forest-refl s)

pub same_forest-eq : (f g : Forest) → same_forest f g ≡ true → f ≡ g
unfolding same_forest
same_forest-eq end end e = refl
same_forest-eq end (leaf m d t) e = cc
same_forest-eq end (dir m k t) e = cc
same_forest-eq (leaf n c s) end e = cc
same_forest-eq (leaf n c s) (leaf m d t) e =
    let h = and-true (same_words n m && same_words c d) (same_forest s t) e in
    let j = and-true (same_words n m) (same_words c d) h.0 in
    let a = same_words-eq n m j.0 in let b = same_words-eq c d j.1 in let w = same_forest-eq s t h.1 in cc
same_forest-eq (leaf n c s) (dir m k t) e = cc
same_forest-eq (dir n k s) end e = cc
same_forest-eq (dir n k s) (leaf m d t) e = cc
same_forest-eq (dir n k s) (dir m l t) e =
    let h = and-true (same_words n m && same_forest k l) (same_forest s t) e in
    let j = and-true (same_words n m) (same_forest k l) h.0 in
    let a = same_words-eq n m j.0 in let b = same_forest-eq k l j.1 in let w = same_forest-eq s t h.1 in cc

pub same_node-refl : (x : Node) → same_node x x ≡ true
unfolding same_node
same_node-refl absent = refl
same_node-refl (file c) = same_words-refl c
same_node-refl (folder f) = same_forest-refl f

pub same_node-eq : (x y : Node) → same_node x y ≡ true → x ≡ y
unfolding same_node
same_node-eq absent absent e = refl
same_node-eq absent (file d) e = cc
same_node-eq absent (folder g) e = cc
same_node-eq (file c) absent e = cc
same_node-eq (file c) (file d) e = ap file (same_words-eq c d e)
same_node-eq (file c) (folder g) e = cc
same_node-eq (folder f) absent e = cc
same_node-eq (folder f) (file d) e = cc
same_node-eq (folder f) (folder g) e = ap folder (same_forest-eq f g e)

pub same_node-true : (x y : Node) → x ≡ y → same_node x y ≡ true
same_node-true x y e = rw e (same_node-refl y)

pub same_node-sym : (x y : Node) → same_node x y ≡ same_node y x
same_node-sym x y = go (same_node x y) (same_node y x) refl refl
  where
    go : (a b : Bool) → same_node x y ≡ a → same_node y x ≡ b → a ≡ b
    go true true e f = refl
    go true false e f = let h = same_node-true y x (sym (same_node-eq x y e)) in never (cc)
    go false true e f = let h = same_node-true x y (sym (same_node-eq y x f)) in never (cc)
    go false false e f = refl

pub same_words-false : (a b : List ℕ) → (a ≡ b → ⊥) → same_words a b ≡ false
same_words-false a b h = go (same_words a b) refl
  where
    go : (w : Bool) → same_words a b ≡ w → w ≡ false
    go true e = absurd (h (same_words-eq a b e))
    go false e = refl

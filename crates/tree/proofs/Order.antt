-- Names are ordered in a total order, word by word; what a loop over the words sees.
use mathlib.Core.List.{[], ◌++◌, ◌∷◌}
use mathlib.Core.Path.{◌∙◌, ◌≡◌, ap, refl, subst, sym}
use native.Mathlib.Omega.{arith}
use Prim.Native.Nat.compare
use Prim.Native.Nat.{Ordering, ◌<◌, compare, suc, zero, ℕ}
use Rattle.tree.specs.Name.{Name, by_order, cmp}

-- an order, and where it is the same another
abbrev pub or_else : Ordering → Ordering → Ordering
or_else a b = by_order a Ordering.lt b Ordering.gt

abbrev pub flip : Ordering → Ordering
flip Ordering.lt = Ordering.gt
flip Ordering.eq = Ordering.eq
flip Ordering.gt = Ordering.lt

-- words
-- compare, as facts of order
pub data Cmp (a b : ℕ) : Ordering → Type 0 where
  less : a < b → Cmp a b Ordering.lt
  same : a ≡ b → Cmp a b Ordering.eq
  more : b < a → Cmp a b Ordering.gt

cmp-suc : (a b : ℕ) (w : Ordering) → Cmp a b w → Cmp (suc a) (suc b) w
cmp-suc a b Ordering.lt (less h) = less (omega arith)
cmp-suc a b Ordering.eq (same h) = same (omega arith)
cmp-suc a b Ordering.gt (more h) = more (omega arith)

pub view : (a b : ℕ) → Cmp a b (compare a b)
view zero zero = subst (Cmp 0 0) (sym compare.zero-zero) (same refl)
view zero (suc b) = subst (Cmp 0 (suc b)) (sym (compare.zero-suc b)) (less (omega arith))
view (suc a) zero = subst (Cmp (suc a) 0) (sym (compare.suc-zero a)) (more (omega arith))
view (suc a) (suc b) = subst (Cmp (suc a) (suc b)) (sym (compare.suc-suc a b)) (cmp-suc a b (compare a b) (view a b))

pub compare_refl : (n : ℕ) → compare n n ≡ Ordering.eq
compare_refl zero = compare.zero-zero
compare_refl (suc n) = compare.suc-suc n n ∙ compare_refl n

compare-flip : (m n : ℕ) → compare n m ≡ flip (compare m n)
compare-flip zero zero = rw compare.zero-zero
compare-flip zero (suc n) = rw (compare.zero-suc n, compare.suc-zero n)
compare-flip (suc m) zero = rw (compare.suc-zero m, compare.zero-suc m)
compare-flip (suc m) (suc n) = rw (compare.suc-suc n m, compare.suc-suc m n) (compare-flip m n)

compare-eq : (m n : ℕ) → compare m n ≡ Ordering.eq → m ≡ n
compare-eq zero zero e = refl
compare-eq zero (suc n) e = cc (compare.zero-suc n)
compare-eq (suc m) zero e = cc (compare.suc-zero m)
compare-eq (suc m) (suc n) e = ap suc (compare-eq m n (sym (compare.suc-suc m n) ∙ e))

compare-trans : (a b c : ℕ) → compare a b ≡ Ordering.lt → compare b c ≡ Ordering.lt → compare a c ≡ Ordering.lt
compare-trans zero zero c p q = cc compare.zero-zero
compare-trans zero (suc b) zero p q = cc (compare.suc-zero b)
compare-trans zero (suc b) (suc c) p q = compare.zero-suc c
compare-trans (suc a) zero c p q = cc (compare.suc-zero a)
compare-trans (suc a) (suc b) zero p q = cc (compare.suc-zero b)
compare-trans (suc a) (suc b) (suc c) p q = rw compare.suc-suc (compare-trans a b c (sym (compare.suc-suc a b) ∙ p) (sym (compare.suc-suc b c) ∙ q))

pub compare-below : (a b : ℕ) → a < b → compare a b ≡ Ordering.lt
compare-below a b h = go (compare a b) (view a b)
  where
    go : (w : Ordering) → Cmp a b w → w ≡ Ordering.lt
    go Ordering.lt (less k) = refl
    go Ordering.eq (same k) = absurd (omega arith)
    go Ordering.gt (more k) = absurd (omega arith)

pub compare-above : (a b : ℕ) → b < a → compare a b ≡ Ordering.gt
compare-above a b h = compare-flip b a ∙ ap flip (compare-below b a h)

-- names
pub cmp-refl : (n : Name) → cmp n n ≡ Ordering.eq
unfolding cmp
cmp-refl [] = refl
cmp-refl (x ∷ xs) = rw compare_refl (cmp-refl xs)

flip-or_else : (a b : Ordering) → or_else (flip a) (flip b) ≡ flip (or_else a b)
flip-or_else Ordering.lt b = refl
flip-or_else Ordering.eq b = refl
flip-or_else Ordering.gt b = refl

pub cmp-flip : (m n : Name) → cmp n m ≡ flip (cmp m n)
unfolding cmp
cmp-flip [] [] = refl
cmp-flip [] (y ∷ ys) = refl
cmp-flip (x ∷ xs) [] = refl
cmp-flip (x ∷ xs) (y ∷ ys) = rw (compare-flip x y, cmp-flip xs ys) (flip-or_else (compare x y) (cmp xs ys))

pub cmp-eq : (m n : Name) → cmp m n ≡ Ordering.eq → m ≡ n
unfolding cmp
cmp-eq [] [] e = refl
cmp-eq [] (y ∷ ys) e = cc
cmp-eq (x ∷ xs) [] e = cc
cmp-eq (x ∷ xs) (y ∷ ys) e = go (compare x y) refl e (cmp-eq xs ys)
  where
    go : (o : Ordering) → compare x y ≡ o → or_else o (cmp xs ys) ≡ Ordering.eq → (cmp xs ys ≡ Ordering.eq → xs ≡ ys)
        → ◌≡◌ {A = Name} (x ∷ xs) (y ∷ ys)
    go Ordering.lt h e ih = cc
    go Ordering.eq h e ih = let p = compare-eq x y h in let q = ih e in cc
    go Ordering.gt h e ih = cc

trans-step : (x y z : ℕ) (s t u : Ordering) → (s ≡ Ordering.lt → t ≡ Ordering.lt → u ≡ Ordering.lt)
    → or_else (compare x y) s ≡ Ordering.lt → or_else (compare y z) t ≡ Ordering.lt → or_else (compare x z) u ≡ Ordering.lt
trans-step x y z s t u ih = go (compare x y) (compare y z) refl refl
  where
    go : (o r : Ordering) → compare x y ≡ o → compare y z ≡ r → or_else o s ≡ Ordering.lt → or_else r t ≡ Ordering.lt
        → or_else (compare x z) u ≡ Ordering.lt
    go Ordering.lt Ordering.lt h k p q = rw (compare-trans x y z h k)
    go Ordering.lt Ordering.eq h k p q = rw (← compare-eq y z k, h)
    go Ordering.lt Ordering.gt h k p q = cc
    go Ordering.eq Ordering.lt h k p q = rw (compare-eq x y h, k)
    go Ordering.eq Ordering.eq h k p q = rw (compare-eq x y h, k) (ih p q)
    go Ordering.eq Ordering.gt h k p q = cc
    go Ordering.gt r h k p q = cc

pub cmp-trans : (a b c : Name) → cmp a b ≡ Ordering.lt → cmp b c ≡ Ordering.lt → cmp a c ≡ Ordering.lt
unfolding cmp
cmp-trans [] [] c p q = cc
cmp-trans [] (y ∷ b) [] p q = cc
cmp-trans [] (y ∷ b) (z ∷ c) p q = refl
cmp-trans (x ∷ a) [] c p q = cc
cmp-trans (x ∷ a) (y ∷ b) [] p q = cc
cmp-trans (x ∷ a) (y ∷ b) (z ∷ c) p q = trans-step x y z (cmp a b) (cmp b c) (cmp a c) (cmp-trans a b c) p q

-- what a loop over the words sees: equal words so far, then the first that differ
pub cmp-prefix : (p a b : Name) → cmp (p ++ a) (p ++ b) ≡ cmp a b
unfolding cmp
cmp-prefix [] a b = refl
cmp-prefix (x ∷ p) a b = rw compare_refl (cmp-prefix p a b)

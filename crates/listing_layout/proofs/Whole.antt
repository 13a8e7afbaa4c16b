-- The lines of whole lines and any text after them: those of the one, then those of the other.
use mathlib.Core.Path.{◌≡◌, refl, ap, sym, ◌∙◌}
use mathlib.Core.List.{List, [], ◌∷◌, ◌++◌, append-nil}
use mathlib.Core.Bool.{Bool, true, false, cond, false≢true}
use native.Mathlib.Omega.{arith}
use native.Mathlib.Nat.{add-zero}
use lib.Dec.{eqb}
use lib.ListN.{length, take, length-append}
use lib.Seq.{get_or-append-add}
use Prim.Native.Nat.{ℕ, zero, suc, ◌+◌, ◌-◌, ◌≤◌, ◌<◌}
use Rattle.tree.proofs.Never.{never}
use Rattle.listing.specs.Bytes.{class_of, among, within}
use Rattle.listing.specs.Lines.{Line, step_of, begin_of, by_end, is_done, len_in, lines_from, next}
use Rattle.listing.specs.Reading.{ends_in_lf}
use Rattle.listing.specs.declared.Class.{Class}
use Rattle.listing.specs.declared.Class.TheVariants.{Plain, Escape, Blank, LineEnd, Hash, Mark, Refused}
use Rattle.listing.specs.declared.Mode.{Mode}
use Rattle.listing.specs.declared.Mode.TheVariants.{Lead, LeadBack, Body, BodyBack, Comment, Done}
use Rattle.listing.proofs.Solid.{len-done}
use Rattle.listing_scan.specs.Places.{line_ends}
use Rattle.listing_layout.specs.Whole.{whole_from, whole, bytes_of, pieces}

is-done : (m : Mode) → is_done m ≡ true → m ≡ Done
is-done Done e = refl
is-done Lead e = absurd (false≢true e)
is-done LeadBack e = absurd (false≢true e)
is-done Body e = absurd (false≢true e)
is-done BodyBack e = absurd (false≢true e)
is-done Comment e = absurd (false≢true e)

-- what comes after a line that has ended does not change it
module _ (b : List ℕ) where
  len_whole : (m : Mode) (a : List ℕ) → whole_from m a ≡ true → len_in m (a ++ b) ≡ len_in m a
  unfolding len_in whole_from
  len_whole m [] h = rw (is-done m h) (len-done b)
  len_whole m (x ∷ a) h = go (is_done m) h (len_whole (step_of m (class_of x)) a)
    where
      go : (t : Bool) → whole_from (step_of (cond t Lead m) (class_of x)) a ≡ true
          → (whole_from (step_of m (class_of x)) a ≡ true → len_in (step_of m (class_of x)) (a ++ b) ≡ len_in (step_of m (class_of x)) a)
          → cond t 0 (suc (len_in (step_of m (class_of x)) (a ++ b))) ≡ cond t 0 (suc (len_in (step_of m (class_of x)) a))
      go true q ih = refl
      go false q ih = ap suc (ih q)

  take_len : (m : Mode) (a : List ℕ) → take (len_in m a) (a ++ b) ≡ take (len_in m a) a
  unfolding len_in
  take_len m [] = refl
  take_len m (x ∷ a) = go (is_done m) (take_len (step_of m (class_of x)) a)
    where
      go : (t : Bool) → take (len_in (step_of m (class_of x)) a) (a ++ b) ≡ take (len_in (step_of m (class_of x)) a) a
          → take (cond t 0 (suc (len_in (step_of m (class_of x)) a))) (x ∷ a ++ b) ≡ take (cond t 0 (suc (len_in (step_of m (class_of x)) a))) (x ∷ a)
      go true ih = refl
      go false ih = ap (λ (l : List ℕ). x ∷ l) ih

next-ends : (n x : ℕ) (a : List ℕ) → n + line_ends (x ∷ a) ≡ next n x + line_ends a
unfolding line_ends
next-ends n x a = go (eqb x 10)
  where
    go : (t : Bool) → n + cond t (suc (line_ends a)) (line_ends a) ≡ cond t (suc n) n + line_ends a
    go true = omega arith
    go false = refl

lines-from : (n : ℕ) (m : Mode) (a b : List ℕ) → whole_from m a ≡ true
    → lines_from n (len_in m a) (a ++ b) ≡ lines_from n (len_in m a) a ++ lines_from (n + line_ends a) 0 b
unfolding len_in whole_from lines_from
lines-from n m [] b h = unfold line_ends in rw (add-zero n)
lines-from n m (x ∷ a) b h = rw (next-ends n x a) (go (is_done m) h (λ k. lines-from (next n x) k a b))
  where
    go : (t : Bool) → whole_from (step_of (cond t Lead m) (class_of x)) a ≡ true
        → ((k : Mode) → whole_from k a ≡ true → lines_from (next n x) (len_in k a) (a ++ b) ≡ lines_from (next n x) (len_in k a) a ++ lines_from (next n x + line_ends a) 0 b)
        → lines_from n (cond t 0 (suc (len_in (step_of m (class_of x)) a))) (x ∷ a ++ b)
        ≡ lines_from n (cond t 0 (suc (len_in (step_of m (class_of x)) a))) (x ∷ a) ++ lines_from (next n x + line_ends a) 0 b
    go true q ih = rw (len_whole b (begin_of (class_of x)) a q, take_len b (begin_of (class_of x)) a, ih (begin_of (class_of x)) q)
    go false q ih = ih (step_of m (class_of x)) q

pub lines-append : (n : ℕ) (a b : List ℕ) → whole a ≡ true → lines_from n 0 (a ++ b) ≡ lines_from n 0 a ++ lines_from (n + line_ends a) 0 b
lines-append n a b h = rw (len-done a) at (lines-from n Done a b h)

-- the numbers of lines say nothing of their bytes
pub bytes-any : (n m j : ℕ) (c : List ℕ) → bytes_of (lines_from n j c) ≡ bytes_of (lines_from m j c)
unfolding lines_from
bytes-any n m j [] = refl
bytes-any n m (suc j) (x ∷ c) = bytes-any (next n x) (next m x) j c
bytes-any n m zero (x ∷ c) =
    ap (λ (ls : List (List ℕ)). (x ∷ take (len_in (begin_of (class_of x)) c) c) ∷ ls) (bytes-any (next n x) (next m x) (len_in (begin_of (class_of x)) c) c)

bytes-append : (xs ys : List Line) → bytes_of (xs ++ ys) ≡ bytes_of xs ++ bytes_of ys
bytes-append [] ys = refl
bytes-append (x ∷ xs) ys = ap (λ (ls : List (List ℕ)). x.bytes ∷ ls) (bytes-append xs ys)

pub pieces-append : (a b : List ℕ) → whole a ≡ true → pieces (a ++ b) ≡ pieces a ++ pieces b
pieces-append a b h = rw (lines-append 1 a b h, bytes-append (lines_from 1 0 a) (lines_from (1 + line_ends a) 0 b), bytes-any (1 + line_ends a) 1 0 b)

-- only LF ends a line
by-end-done : (c : Class) (x y z : Mode) → is_done y ≡ false → is_done z ≡ false → is_done (by_end c x y z) ≡ true → c ≡ LineEnd
by-end-done LineEnd x y z p q e = refl
by-end-done Escape x y z p q e = absurd (false≢true (sym p ∙ e))
by-end-done Plain x y z p q e = absurd (false≢true (sym q ∙ e))
by-end-done Blank x y z p q e = absurd (false≢true (sym q ∙ e))
by-end-done Hash x y z p q e = absurd (false≢true (sym q ∙ e))
by-end-done Mark x y z p q e = absurd (false≢true (sym q ∙ e))
by-end-done Refused x y z p q e = absurd (false≢true (sym q ∙ e))

begin-done : (c : Class) → is_done (begin_of c) ≡ true → c ≡ LineEnd
begin-done LineEnd e = refl
begin-done Escape e = absurd (false≢true e)
begin-done Plain e = absurd (false≢true e)
begin-done Blank e = absurd (false≢true e)
begin-done Hash e = absurd (false≢true e)
begin-done Mark e = absurd (false≢true e)
begin-done Refused e = absurd (false≢true e)

step-done : (m : Mode) (c : Class) → is_done m ≡ false → is_done (step_of m c) ≡ true → c ≡ LineEnd
step-done Lead c h e = begin-done c e
step-done LeadBack c h e = by-end-done c Lead BodyBack Body refl refl e
step-done Body c h e = by-end-done c Done BodyBack Body refl refl e
step-done BodyBack c h e = by-end-done c Body BodyBack Body refl refl e
step-done Comment c h e = by-end-done c Done Comment Comment refl refl e
step-done Done c h e = absurd (false≢true (sym h))

line-end-10 : (x : ℕ) → class_of x ≡ LineEnd → eqb x 10 ≡ true
unfolding class_of
line-end-10 x = go (eqb x 10) (among x (9 ∷ 32 ∷ [])) (eqb x 92) (eqb x 35) (among x (42 ∷ 47 ∷ 63 ∷ 91 ∷ [])) (within 33 126 x)
  where
    go : (r s t u v w : Bool) → cond r LineEnd (cond s Blank (cond t Escape (cond u Hash (cond v Mark (cond w Plain Refused))))) ≡ LineEnd → r ≡ true
    go true s t u v w e = refl
    go false true t u v w e = never (cc)
    go false false true u v w e = never (cc)
    go false false false true v w e = never (cc)
    go false false false false true w e = never (cc)
    go false false false false false true e = never (cc)
    go false false false false false false e = never (cc)

-- the byte with which a line ends
last-10 : (m : Mode) (x : ℕ) → is_done (step_of (cond (is_done m) Lead m) (class_of x)) ≡ true → eqb x 10 ≡ true
last-10 m x e = line-end-10 x (go (is_done m) refl e)
  where
    go : (t : Bool) → is_done m ≡ t → is_done (step_of (cond t Lead m) (class_of x)) ≡ true → class_of x ≡ LineEnd
    go true d q = step-done Lead (class_of x) refl q
    go false d q = step-done m (class_of x) d q

ends-from : (m : Mode) (a : List ℕ) → whole_from m a ≡ true → ends_in_lf a ≡ true
unfolding whole_from
ends-from m [] h = refl
ends-from m (x ∷ []) h = last-10 m x h
ends-from m (x ∷ y ∷ a) h =
    let e : suc (suc (length a)) - 1 ≡ suc (length a) = omega arith in
    let k : suc (length a) - 1 ≡ length a = omega arith in
    rw e (rw k at (ends-from (step_of (cond (is_done m) Lead m) (class_of x)) (y ∷ a) h))

-- a line that has begun has an LF yet to come
some_end : (m : Mode) (a : List ℕ) → is_done m ≡ false → whole_from m a ≡ true → 0 < line_ends a
unfolding whole_from line_ends
some_end m [] d h = absurd (false≢true (sym d ∙ h))
some_end m (x ∷ a) d h =
    go (is_done (step_of (cond (is_done m) Lead m) (class_of x))) refl (eqb x 10) refl (λ q. some_end (step_of (cond (is_done m) Lead m) (class_of x)) a q h)
  where
    go : (t : Bool) → is_done (step_of (cond (is_done m) Lead m) (class_of x)) ≡ t → (u : Bool) → eqb x 10 ≡ u
        → (is_done (step_of (cond (is_done m) Lead m) (class_of x)) ≡ false → 0 < line_ends a) → 0 < cond u (suc (line_ends a)) (line_ends a)
    go t e true f ih = omega arith
    go true e false f ih = absurd (false≢true (sym f ∙ last-10 m x e))
    go false e false f ih = ih e

-- every line's number is at most k
unfoldable pub Upto : ℕ → List Line → Type 0
Upto k [] = Unit {0}
Upto k (l ∷ ls) = (l.number ≤ k) × Upto k ls

upto_from : (n k : ℕ) (m : Mode) (a : List ℕ) → whole_from m a ≡ true → n + line_ends a ≤ suc k → Upto k (lines_from n (len_in m a) a)
unfolding len_in whole_from lines_from Upto
upto_from n k m [] h r = tt
upto_from n k m (x ∷ a) h r = go (is_done m) h (λ j q. upto_from (next n x) k j a q (rw (next-ends n x a) at r))
  where
    go : (t : Bool) → whole_from (step_of (cond t Lead m) (class_of x)) a ≡ true
        → ((j : Mode) → whole_from j a ≡ true → Upto k (lines_from (next n x) (len_in j a) a))
        → Upto k (lines_from n (cond t 0 (suc (len_in (step_of m (class_of x)) a))) (x ∷ a))
    go true q ih = let s = some_end Lead (x ∷ a) refl q in (omega arith, ih (begin_of (class_of x)) q)
    go false q ih = ih (step_of m (class_of x)) q

pub numbers-upto : (n k : ℕ) (a : List ℕ) → whole a ≡ true → n + line_ends a ≤ suc k → Upto k (lines_from n 0 a)
numbers-upto n k a h r = rw (len-done a) at (upto_from n k Done a h r)

whole_from-append : (m : Mode) (a b : List ℕ) → whole_from m a ≡ true → whole b ≡ true → whole_from m (a ++ b) ≡ true
unfolding whole_from
whole_from-append m [] b h q = rw (is-done m h) q
whole_from-append m (x ∷ a) b h q = whole_from-append (step_of (cond (is_done m) Lead m) (class_of x)) a b h q

pub whole_append : (a b : List ℕ) → whole a ≡ true → whole b ≡ true → whole (a ++ b) ≡ true
whole_append a b h q = whole_from-append Done a b h q

last-append : (a b : List ℕ) → 0 < length b → ends_in_lf (a ++ b) ≡ ends_in_lf b
last-append a b h =
    let e : length (a ++ b) - 1 ≡ length a + (length b - 1) = omega (arith, length-append a b) in
    rw (e, get_or-append-add a b (length b - 1) 10)

-- whole lines c between whole lines and any text leave the last byte what it was, LF or not
pub ends-after : (a c b : List ℕ) → whole a ≡ true → whole c ≡ true → ends_in_lf (a ++ (c ++ b)) ≡ ends_in_lf (a ++ b)
ends-after a c [] h q =
    rw (append-nil c, append-nil a, ends-from Done (a ++ c) (whole_append a c h q), ends-from Done a h)
ends-after a c (x ∷ b) h q =
    let l : 0 < length (c ++ (x ∷ b)) = omega (arith, length-append c (x ∷ b)) in
    rw (last-append a (c ++ (x ∷ b)) l, last-append c (x ∷ b) (omega arith), last-append a (x ∷ b) (omega arith))

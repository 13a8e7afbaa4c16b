-- One turn of a loop over a text's lines, and over a line's words.
use mathlib.Core.Path.{◌≡◌, refl, ◌∙◌}
use mathlib.Core.List.{List, [], ◌∷◌}
use mathlib.Core.Bool.{Bool, true, false, cond, beq}
use native.Mathlib.Omega.{arith}
use native.Mathlib.Nat.{add-zero}
use lib.Dec.{eqb}
use lib.ListN.{length, take, drop, drop_of_length-le, length-drop}
use lib.Seq.{drop-drop}
use Prim.Native.Nat.{ℕ, zero, suc, ◌+◌, ◌-◌, ◌≤◌, ◌<◌}
use Rattle.listing.specs.Bytes.{class_of}
use Rattle.listing.specs.Lines.{step_of, is_done, len_in, lines_from}
use Rattle.listing.specs.Words.{blank, span, words_from}
use Rattle.listing.specs.declared.Mode.{Mode}
use Rattle.listing.specs.declared.Mode.TheVariants.{Lead}
use Rattle.listing.proofs.Solid.{words-skip}
use Rattle.listing_scan.specs.Places.{stretch, skip, line_ends}

-- the part from a to e is the first of all, and the rest come after it
pub record Next {A : Type 0} (l : List ℕ) (a e : ℕ) (all : List A) (first : A) (rest : List A) : Type 0 where
  pub some : a < e
  pub fits : e ≤ length l
  pub parted : all ≡ first ∷ rest

len-le : (m : Mode) (l : List ℕ) → len_in m l ≤ length l
unfolding len_in
len-le m [] = omega arith
len-le m (b ∷ bs) = go (is_done m) (len-le (step_of m (class_of b)) bs)
  where
    go : (t : Bool) → len_in (step_of m (class_of b)) bs ≤ length bs → cond t 0 (suc (len_in (step_of m (class_of b)) bs)) ≤ suc (length bs)
    go true h = omega arith
    go false h = omega arith

lines-skip : (k n : ℕ) (l : List ℕ) → lines_from n k l ≡ lines_from (n + line_ends (take k l)) 0 (drop k l)
unfolding lines_from line_ends
lines-skip zero n [] = refl
lines-skip (suc k) n [] = refl
lines-skip zero n (b ∷ bs) = rw add-zero
lines-skip (suc k) n (b ∷ bs) = go (eqb b 10) (λ m. lines-skip k m bs)
  where
    go : (t : Bool) → ((m : ℕ) → lines_from m k bs ≡ lines_from (m + line_ends (take k bs)) 0 (drop k bs))
        → lines_from (cond t (suc n) n) k bs ≡ lines_from (n + cond t (suc (line_ends (take k bs))) (line_ends (take k bs))) 0 (drop k bs)
    go true p = let e : n + suc (line_ends (take k bs)) ≡ suc n + line_ends (take k bs) = omega arith in rw e (p (suc n))
    go false p = p n

-- the first line of a text
line-here : (n : ℕ) (l : List ℕ) → 0 < length l
    → Next l 0 (len_in Lead l) (lines_from n 0 l) (record { number = n; bytes = take (len_in Lead l) l }) (lines_from n (len_in Lead l) l)
unfolding lines_from len_in
line-here n [] h = absurd (omega arith)
line-here n (b ∷ bs) h =
    record { some = omega arith; fits = omega (arith, len-le (step_of Lead (class_of b)) bs); parted = refl }

module _ (n : ℕ) (l : List ℕ) (i : ℕ) where
  pub lines_none : length l ≤ i → lines_from n 0 (drop i l) ≡ []
  unfolding lines_from
  lines_none h = rw (drop_of_length-le l h)

  pub lines_next : (e : ℕ) → e ≡ i + len_in Lead (drop i l) → i < length l
      → Next l i e (lines_from n 0 (drop i l)) (record { number = n; bytes = take (e - i) (drop i l) })
      (lines_from (n + line_ends (take (e - i) (drop i l))) 0 (drop e l))
  lines_next e at h =
      let p : 0 < length (drop i l) = simp length-drop (omega arith) in
      let x = line-here n (drop i l) p in
      let s = x.some in
      let f = simp length-drop at x.fits in
      let k : e - i ≡ len_in Lead (drop i l) = omega arith in
      record {
        some = omega arith;
        fits = omega arith;
        parted = x.parted ∙ rw (k, lines-skip (len_in Lead (drop i l)) n (drop i l), drop-drop, at);
      }

-- blanks before a word are passed, and where they end a word begins
words-lead : (l : List ℕ) → words_from 0 l ≡ words_from 0 (drop (skip l) l)
unfolding words_from stretch
words-lead [] = refl
words-lead (b ∷ bs) = go (blank b bs) refl (words-lead bs)
  where
    go : (t : Bool) → blank b bs ≡ t → words_from 0 bs ≡ words_from 0 (drop (skip bs) bs)
        → words_from 0 (b ∷ bs) ≡ words_from 0 (drop (cond (beq t true) (suc (skip bs)) 0) (b ∷ bs))
    go true e h = rw e h
    go false e h = refl

stopped : (l : List ℕ) → skip (drop (skip l) l) ≡ 0
unfolding stretch
stopped [] = refl
stopped (b ∷ bs) = go (blank b bs) refl (stopped bs)
  where
    go : (t : Bool) → blank b bs ≡ t → skip (drop (skip bs) bs) ≡ 0 → skip (drop (cond (beq t true) (suc (skip bs)) 0) (b ∷ bs)) ≡ 0
    go true e h = h
    go false e h = rw e

span-le : (l : List ℕ) → span l ≤ length l
unfolding span
span-le [] = omega arith
span-le (b ∷ bs) = go (blank b bs) (span-le bs)
  where
    go : (t : Bool) → span bs ≤ length bs → cond t 0 (suc (span bs)) ≤ suc (length bs)
    go true h = omega arith
    go false h = omega arith

word-here : (l : List ℕ) → 0 < length l → skip l ≡ 0 → Next l 0 (span l) (words_from 0 l) (take (span l) l) (words_from 0 (drop (span l) l))
unfolding words_from span stretch
word-here [] h e = absurd (omega arith)
word-here (b ∷ bs) h e = go (blank b bs) refl e
  where
    go : (t : Bool) → blank b bs ≡ t → cond (beq t true) (suc (skip bs)) 0 ≡ 0
        → Next (b ∷ bs) 0 (span (b ∷ bs)) (words_from 0 (b ∷ bs)) (take (span (b ∷ bs)) (b ∷ bs)) (words_from 0 (drop (span (b ∷ bs)) (b ∷ bs)))
    go true g z = absurd (omega arith)
    go false g z = rw g (record { some = omega arith; fits = omega (arith, span-le bs); parted = rw (words-skip (span bs) bs) })

-- a is where the blanks from i on end
module _ (l : List ℕ) (i a : ℕ) (at : a ≡ i + skip (drop i l)) where
  pub words-none : length l ≤ a → words_from 0 (drop i l) ≡ []
  unfolding words_from
  words-none h = words-lead (drop i l) ∙ rw (drop-drop, ← at, drop_of_length-le l h)

  pub words-next : (e : ℕ) → e ≡ a + span (drop a l) → a < length l
      → Next l a e (words_from 0 (drop i l)) (take (e - a) (drop a l)) (words_from 0 (drop e l))
  words-next e ed h =
      let q : drop (skip (drop i l)) (drop i l) ≡ drop a l = rw (drop-drop, at) in
      let p : 0 < length (drop a l) = simp length-drop (omega arith) in
      let w = word-here (drop a l) p (rw (← q) (stopped (drop i l))) in
      let s = w.some in
      let f = simp length-drop at w.fits in
      let k : e - a ≡ span (drop a l) = omega arith in
      record { some = omega arith; fits = omega arith; parted = words-lead (drop i l) ∙ rw (q, w.parted, k, drop-drop, ed) }

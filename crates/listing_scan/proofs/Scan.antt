-- One more byte in each scan of a text from place i on.
use mathlib.Core.Path.{◌≡◌, refl}
use mathlib.Core.List.{List, [], ◌∷◌}
use mathlib.Core.Bool.{Bool, true, false, cond, beq}
use native.Mathlib.Numerals.{add-one}
use native.Mathlib.Omega.{arith}
use lib.Dec.{eqb}
use lib.ListN.{length, drop, get_or}
use lib.Seq.{drop-cons}
use Prim.Native.Nat.{ℕ, suc, ◌+◌, ◌<◌}
use Rattle.listing.specs.Bytes.{class_of}
use Rattle.listing.specs.Lines.{step_of, is_done, len_in}
use Rattle.listing.specs.Words.{blank, span, is_refused, is_text}
use Rattle.listing.specs.declared.Mode.{Mode}
use Rattle.listing_scan.specs.Places.{stretch, line_ends}
use Rattle.std.specs.Bool.{◌==◌}
use Rattle.std.specs.List.{count_by}
use Rattle.std.proofs.lemmas.List.Recursion.{is_count_by}

module _ (l : List ℕ) (i : ℕ) (h : i < length l) where
  pub byte-first : drop i l ≡ get_or l i 0 ∷ drop (i + 1) l
  byte-first = rw (add-one, drop-cons l i 0 h)

  pub stretch-at : (blanks : Bool) → stretch blanks (drop i l) ≡ cond (beq (blank (get_or l i 0) (drop (i + 1) l)) blanks) (suc (stretch blanks (drop (i + 1) l))) 0
  unfolding stretch
  stretch-at blanks = rw byte-first

  pub text_at : is_text (drop i l) ≡ cond (is_refused (class_of (get_or l i 0))) false (is_text (drop (i + 1) l))
  unfolding is_text
  text_at = rw byte-first

  pub ends_at : line_ends (drop i l) ≡ cond (eqb (get_or l i 0) 10) (suc (line_ends (drop (i + 1) l))) (line_ends (drop (i + 1) l))
  unfolding line_ends
  ends_at = rw byte-first

  pub len-at : (m : Mode) → len_in m (drop i l) ≡ cond (is_done m) 0 (suc (len_in (step_of m (class_of (get_or l i 0))) (drop (i + 1) l)))
  unfolding len_in
  len-at m = rw byte-first

pub len-done : (l : List ℕ) (m : Mode) → is_done m ≡ true → len_in m l ≡ 0
unfolding len_in
len-done [] m e = refl
len-done (b ∷ bs) m e = rw e

-- a stretch of bytes that part no words
pub span-is : (l : List ℕ) → stretch false l ≡ span l
unfolding stretch span
span-is [] = refl
span-is (b ∷ bs) = go (blank b bs) (span-is bs)
  where
    go : (t : Bool) → stretch false bs ≡ span bs → cond (beq t false) (suc (stretch false bs)) 0 ≡ cond t 0 (suc (span bs))
    go true e = refl
    go false e = rw e

-- the LFs among bytes are counted
pub ends-count : (l : List ℕ) → line_ends l ≡ count_by (λ b. b == 10) l
unfolding line_ends
ends-count l = is_count_by line_ends (λ b. b == 10) refl (λ b bs. let e : 1 + line_ends bs ≡ suc (line_ends bs) = omega arith in rw e) l

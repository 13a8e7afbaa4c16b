-- A written line: words of plain bytes and escapes, parted by single spaces, and LF. What the reader makes of it.
use mathlib.Core.Bool.{Bool, cond, false, false≢true, true}
use mathlib.Core.List.{List, [], ◌++◌, ◌∷◌, append_assoc}
use mathlib.Core.Path.{◌∙◌, ◌≡◌, ap, refl, sym}
use native.Mathlib.Nat.{zero-add}
use native.Mathlib.Omega.{arith}
use lib.Dec.{eqb}
use lib.ListN.{drop, length, length-append}
use lib.Seq.{drop-append_seam, take-append_seam}
use Prim.Native.Nat.{ℕ, suc, zero, ◌+◌, ◌<◌}
use borrow.Author.Tests.{eqb-true}
use Rattle.tree.proofs.Same.{and-true}
use Rattle.listing.specs.Bytes.{class_of}
use Rattle.listing.specs.Lines.{len_in, lines_from}
use Rattle.listing.specs.Words.{Words, is_text, span, words_from}
use Rattle.listing.specs.declared.Class.TheVariants.{Blank, Escape, LineEnd, Plain}
use Rattle.listing.specs.declared.Mode.TheVariants.{Body, Done}
use Rattle.listing.proofs.Digits.{all_plain}
use Rattle.listing.proofs.Spelling.{is-plain, is_plain}

-- plain bytes, and backslashes each before a plain byte
pub data Solid : List ℕ → Type 0 where
  nil : Solid []
  plain : {b : ℕ} {w : List ℕ} → class_of b ≡ Plain → Solid w → Solid (b ∷ w)
  back : {d : ℕ} {w : List ℕ} → class_of d ≡ Plain → Solid w → Solid (92 ∷ d ∷ w)

pub solid-plain : (w : List ℕ) → all_plain w ≡ true → Solid w
unfolding all_plain
solid-plain [] e = nil
solid-plain (b ∷ w) e = let q = and-true (is_plain (class_of b)) (all_plain w) e in plain (is-plain (class_of b) q.0) (solid-plain w q.1)

-- a plain byte is none that is not
pub plain-ne : (b x : ℕ) → class_of b ≡ Plain → is_plain (class_of x) ≡ false → eqb b x ≡ false
plain-ne b x p q = go (eqb b x) refl
  where
    go : (t : Bool) → eqb b x ≡ t → eqb b x ≡ false
    go true e = absurd (false≢true (sym q ∙ ap (λ (y : ℕ). is_plain (class_of y)) (sym (eqb-true b x e)) ∙ ap is_plain p))
    go false e = e

pub class-92 : class_of 92 ≡ Escape
unfolding class_of
class-92 = refl

pub plain-10 : is_plain (class_of 10) ≡ false
unfolding class_of
plain-10 = refl

class-32 : class_of 32 ≡ Blank
unfolding class_of
class-32 = refl

class-10 : class_of 10 ≡ LineEnd
unfolding class_of
class-10 = refl

-- a byte of a line already taken, other than LF
lines_same : (n k b : ℕ) (bs : List ℕ) → eqb b 10 ≡ false → lines_from n (suc k) (b ∷ bs) ≡ lines_from n k bs
unfolding lines_from
lines_same n k b bs e = ap (λ (t : Bool). lines_from (cond t (suc n) n) k bs) e

-- the scans pass over such bytes
module _ (r : List ℕ) where
  pub len-solid : {w : List ℕ} → Solid w → len_in Body (w ++ r) ≡ length w + len_in Body r
  unfolding len_in
  len-solid nil = sym (zero-add _)
  len-solid (plain p s) = rw p (omega (arith, len-solid s))
  len-solid (back p s) = rw (class-92, p) (omega (arith, len-solid s))

  pub lines-solid : (n k : ℕ) {w : List ℕ} → Solid w → lines_from n (length w + k) (w ++ r) ≡ lines_from n k r
  lines-solid n k nil = rw zero-add
  lines-solid n k (plain {b = b} {w = w} p s) =
      let e : suc (length w) + k ≡ suc (length w + k) = omega arith in
      rw e (lines_same n (length w + k) b (w ++ r) (plain-ne b 10 p plain-10) ∙ lines-solid n k s)
  lines-solid n k (back {d = d} {w = w} p s) =
      let e : suc (suc (length w)) + k ≡ suc (suc (length w + k)) = omega arith in
      rw e
      (lines_same n (suc (length w + k)) 92 (d ∷ w ++ r) refl
      ∙ lines_same n (length w + k) d (w ++ r) (plain-ne d 10 p plain-10)
      ∙ lines-solid n k s)

  pub text-solid : {w : List ℕ} → Solid w → is_text (w ++ r) ≡ is_text r
  unfolding is_text
  text-solid nil = refl
  text-solid (plain p s) = rw p (text-solid s)
  text-solid (back p s) = rw (class-92, p) (text-solid s)

  pub span-solid : {w : List ℕ} → Solid w → span r ≡ 0 → span (w ++ r) ≡ length w
  unfolding span
  span-solid nil z = z
  span-solid (plain p s) z = rw p (ap suc (span-solid s z))
  span-solid (back {d = d} p s) z = rw (class-92, plain-ne d 10 p plain-10, p) (ap (λ (k : ℕ). suc (suc k)) (span-solid s z))

pub words-skip : (k : ℕ) (l : List ℕ) → words_from k l ≡ words_from 0 (drop k l)
unfolding words_from
words-skip zero l = refl
words-skip (suc k) [] = refl
words-skip (suc k) (b ∷ bs) = words-skip k bs

-- a word that is not empty, before a blank
pub words-solid : {w : List ℕ} (r : List ℕ) → Solid w → 0 < length w → span r ≡ 0 → words_from 0 (w ++ r) ≡ w ∷ words_from 0 r
unfolding words_from
words-solid r nil h z = absurd (omega arith)
words-solid r (plain {b = b} {w = w} p s) h z =
    rw (p, span-solid r s z, take-append_seam w r, words-skip (length w) (w ++ r), drop-append_seam w r)
words-solid r (back {d = d} {w = w} p s) h z =
    rw (class-92, plain-ne d 10 p plain-10, span-solid r (plain p s) z, take-append_seam w r, words-skip (length w) (w ++ r), drop-append_seam w r)

-- the rest of a line after its first word
unfoldable pub tail_of : Words → List ℕ
tail_of [] = 10 ∷ []
tail_of (w ∷ ws) = 32 ∷ (w ++ tail_of ws)

pub data AllSolid : Words → Type 0 where
  none : AllSolid []
  more : {w : List ℕ} {ws : Words} → Solid w → 0 < length w → AllSolid ws → AllSolid (w ∷ ws)

pub len-done : (l : List ℕ) → len_in Done l ≡ 0
unfolding len_in
len-done [] = refl
len-done (b ∷ bs) = refl

-- a blank parts words
pub span_tail : (ws : Words) → span (tail_of ws) ≡ 0
unfolding span tail_of class_of
span_tail [] = refl
span_tail (w ∷ ws) = refl

pub text-tail : {ws : Words} → AllSolid ws → is_text (tail_of ws) ≡ true
unfolding is_text tail_of
text-tail none = rw class-10
text-tail (more {ws = ws} s h a) = rw class-32 (text-solid (tail_of ws) s ∙ text-tail a)

pub words_tail : {ws : Words} → AllSolid ws → words_from 0 (tail_of ws) ≡ ws
unfolding words_from tail_of
words_tail none = rw class-10
words_tail (more {w = w} {ws = ws} s h a) =
    rw class-32 (words-solid (tail_of ws) s h (span_tail ws) ∙ ap (λ (l : Words). w ∷ l) (words_tail a))

pub len-tail : (r : List ℕ) {ws : Words} → AllSolid ws → len_in Body (tail_of ws ++ r) ≡ length (tail_of ws)
unfolding len_in tail_of
len-tail r none = rw class-10 (ap suc (len-done r))
len-tail r (more {w = w} {ws = ws} s h a) =
    rw (class-32, append_assoc w (tail_of ws) r)
    (omega (arith, len-solid (tail_of ws ++ r) s, len-tail r a, length-append w (tail_of ws)))

pub lines-tail : (n : ℕ) (r : List ℕ) {ws : Words} → AllSolid ws → lines_from n (length (tail_of ws)) (tail_of ws ++ r) ≡ lines_from (suc n) 0 r
unfolding tail_of
lines-tail n r none = unfold lines_from in refl
lines-tail n r (more {w = w} {ws = ws} s h a) =
    lines_same n (length (w ++ tail_of ws)) 32 (w ++ tail_of ws ++ r) refl
    ∙ rw (append_assoc w (tail_of ws) r, length-append w (tail_of ws)) (lines-solid (tail_of ws ++ r) n (length (tail_of ws)) s ∙ lines-tail n r a)

-- A written line as the reader takes it: one line of the text, with the words that were written, and what it does.
use mathlib.Core.Bool.{Bool, cond, false, not, true}
use mathlib.Core.List.{List, [], ◌++◌, ◌∷◌, append_assoc}
use mathlib.Core.Path.{◌∙◌, ◌≡◌, ap, refl}
use native.Mathlib.Omega.{arith}
use lib.Dec.{eqb}
use lib.ListN.{length, length-append}
use lib.Seq.{take-append_seam}
use Prim.Native.Nat.{ℕ, suc, ◌%◌, ◌+◌, ◌/◌, ◌<◌}
use Rattle.tree.specs.Name.{Name}
use Rattle.tree.specs.Rules.{NameRule, bytes}
use Rattle.tree.specs.declared.Profile.{Profile}
use Rattle.tree.proofs.Same.{and-true}
use Rattle.listing.specs.Bytes.{class_of}
use Rattle.listing.specs.Lines.{Line, begin_of, len_in, lines_from}
use Rattle.listing.specs.Words.{Words}
use Rattle.listing.specs.Writing.{as_it_is, name_text, spell, spell_byte}
use Rattle.listing.specs.Reading.{State, Step.goes, run, words_do}
use Rattle.listing.specs.declared.Class.TheVariants.{Plain}
use Rattle.listing.specs.declared.Mode.TheVariants.{Body}
use Rattle.listing.proofs.Digits.{decimal_digit}
use Rattle.listing.proofs.Solid.{AllSolid, Solid, Solid.back, Solid.nil, Solid.plain, class-92, len-solid, len-tail, lines-solid, lines-tail, plain-10, plain-ne, span_tail, tail_of, text-solid, text-tail, words-solid, words_tail}
use Rattle.listing.proofs.Spelling.{Small, bytes_small, is-plain, is_plain, plain_byte}

module _ {v : List ℕ} {ws : Words} (s : Solid v) (a : AllSolid ws) (r : List ℕ) where
  len-line : len_in Body (v ++ tail_of ws ++ r) ≡ length (v ++ tail_of ws)
  len-line =
      rw append_assoc
      (omega (arith, len-solid (tail_of ws ++ r) s, len-tail r a, length-append v (tail_of ws)))

  lines-line : (n : ℕ) → lines_from n (length (v ++ tail_of ws)) (v ++ tail_of ws ++ r) ≡ lines_from (suc n) 0 r
  lines-line n =
      rw (append_assoc v (tail_of ws) r, length-append v (tail_of ws))
      (lines-solid (tail_of ws ++ r) n (length (tail_of ws)) s ∙ lines-tail n r a)

pub lines-head : (n b : ℕ) (bs r : List ℕ) → eqb b 10 ≡ false → len_in (begin_of (class_of b)) (bs ++ r) ≡ length bs
    → lines_from n 0 (b ∷ bs ++ r) ≡ record { number = n; bytes = b ∷ bs } ∷ lines_from n (length bs) (bs ++ r)
unfolding lines_from
lines-head n b bs r e k = rw (k, take-append_seam bs r, e)

line_first : (n : ℕ) (r : List ℕ) {w : List ℕ} {ws : Words} → Solid w → 0 < length w → AllSolid ws
    → lines_from n 0 (w ++ tail_of ws ++ r) ≡ record { number = n; bytes = w ++ tail_of ws } ∷ lines_from (suc n) 0 r
unfolding len_in
line_first n r nil h a = absurd (omega arith)
line_first n r {ws = ws} (plain {b = b} {w = w} p s) h a =
    lines-head n b (w ++ tail_of ws) r (plain-ne b 10 p plain-10) (rw p (len-line s a r))
    ∙ ap (λ (ls : List Line). record { number = n; bytes = b ∷ w ++ tail_of ws } ∷ ls) (lines-line s a r n)
line_first n r {ws = ws} (back {d = d} {w = w} p s) h a =
    lines-head n 92 (d ∷ w ++ tail_of ws) r refl (rw (class-92, p) (ap suc (len-line s a r)))
    ∙ ap (λ (ls : List Line). record { number = n; bytes = 92 ∷ d ∷ w ++ tail_of ws } ∷ ls) (lines-line (plain p s) a r n)

-- a line that goes on is passed
pub takes : (p : Profile) (most n : ℕ) (r : List ℕ) (s t : State) {w : List ℕ} {ws : Words} → Solid w → 0 < length w → AllSolid ws
    → words_do p most true (w ∷ ws) s ≡ goes t
    → run p most (lines_from n 0 (w ++ tail_of ws ++ r)) s ≡ run p most (lines_from (suc n) 0 r) t
unfolding run
takes p most n r s t {w} {ws} so h a e =
    rw (line_first n r so h a, text-solid (tail_of ws) so, text-tail a, words-solid (tail_of ws) so h (span_tail ws), words_tail a, e)

-- a name's bytes as they are written
solid-byte : (b : ℕ) (r : List ℕ) → b < 256 → Solid r → Solid (spell_byte b ++ r)
unfolding spell_byte
solid-byte b r h s = go (as_it_is b) refl
  where
    digit : (d : ℕ) → d < 10 → class_of (48 + d) ≡ Plain
    digit d k = is-plain _ (decimal_digit d k).plain

    go : (t : Bool) → as_it_is b ≡ t → Solid (cond t (b ∷ []) (92 ∷ (48 + b / 64) ∷ (48 + b / 8 % 8) ∷ (48 + b % 8) ∷ []) ++ r)
    go true e = plain (is-plain _ (and-true (is_plain (class_of b)) (not (eqb b 92)) (plain_byte b h e)).0) s
    go false e = back (digit (b / 64) (omega arith)) (plain (digit (b / 8 % 8) (omega arith)) (plain (digit (b % 8) (omega arith)) s))

solid-spell : (bs : List ℕ) → Small bs → Solid (spell bs)
unfolding Small spell
solid-spell [] s = nil
solid-spell (b ∷ bs) s = go (eqb b 0) (solid-spell bs s.1)
  where
    go : (t : Bool) → Solid (spell bs) → Solid (cond t [] (spell_byte b ++ spell bs))
    go true r = nil
    go false r = solid-byte b (spell bs) s.0 r

pub solid-name : (n : Name) → NameRule n → Solid (name_text n)
solid-name n rule = solid-spell (bytes n) (bytes_small n rule.small)

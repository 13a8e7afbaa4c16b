-- Texts that say the same are read alike: of a line, only its words are read.
use mathlib.Core.Path.{◌≡◌, refl, ap, sym, ◌∙◌}
use mathlib.Core.List.{List, [], ◌∷◌, ◌++◌}
use mathlib.Core.Bool.{Bool, true, false, cond, ◌&&◌, false≢true}
use lib.ListN.{take, drop, take-append-drop}
use Prim.Native.Nat.{ℕ, zero, suc}
use Rattle.tree.specs.declared.Profile.{Profile}
use Rattle.listing.specs.Bytes.{class_of}
use Rattle.listing.specs.Lines.{lines}
use Rattle.listing.specs.Words.{Words, words, words_from, span, blank, parts, is_refused, is_text}
use Rattle.listing.specs.declared.Class.{Class}
use Rattle.listing.specs.declared.Class.TheVariants.{Plain, Escape, Blank, LineEnd, Hash, Mark, Refused}
use Rattle.listing.specs.Entries.{Said.none}
use Rattle.listing.specs.Reading.{State, State.before, State.inside, State.closed, Step, Step.stops, Step.goes, ended, words_do, line_does, most_rows, reading}
use Rattle.listing_layout.specs.Whole.{pieces}
use Rattle.listing_layout.specs.Comments.{silent}
use Rattle.listing_layout.specs.Said.{said_by, Alike, WordsDecide}
use Rattle.listing_layout.specs.Parts.{and_then, through}
use Rattle.listing_layout.proofs.Comments.{silent-does}
use Rattle.listing_layout.proofs.Runs.{verdict, run-verdict}

-- a byte that is refused stands in a word
unfoldable texts : Words → Bool
texts [] = true
texts (w ∷ ws) = is_text w && texts ws

text-append : (a b : List ℕ) → is_text (a ++ b) ≡ is_text a && is_text b
unfolding is_text
text-append [] b = refl
text-append (x ∷ a) b = go (is_refused (class_of x)) (text-append a b)
  where
    go : (t : Bool) → is_text (a ++ b) ≡ is_text a && is_text b → cond t false (is_text (a ++ b)) ≡ cond t false (is_text a) && is_text b
    go true ih = refl
    go false ih = ih

parts-text : (c : Class) (bs : List ℕ) → parts c bs ≡ true → is_refused c ≡ false
parts-text Blank bs e = refl
parts-text LineEnd bs e = refl
parts-text Escape bs e = refl
parts-text Plain bs e = refl
parts-text Hash bs e = refl
parts-text Mark bs e = refl
parts-text Refused bs e = absurd (false≢true e)

text-words : (k : ℕ) (l : List ℕ) → is_text (drop k l) ≡ texts (words_from k l)
unfolding is_text texts words_from
text-words zero [] = refl
text-words (suc k) [] = refl
text-words (suc k) (b ∷ bs) = text-words k bs
text-words zero (b ∷ bs) = go (blank b bs) refl (text-words 0 bs) (text-words (span bs) bs)
  where
    go : (t : Bool) → blank b bs ≡ t → is_text bs ≡ texts (words_from 0 bs) → is_text (drop (span bs) bs) ≡ texts (words_from (span bs) bs)
        → is_text (b ∷ bs) ≡ texts (cond t (words_from 0 bs) ((b ∷ take (span bs) bs) ∷ words_from (span bs) bs))
    go true e r q = rw (parts-text (class_of b) bs e) r
    go false e r q =
        ap (λ (l : List ℕ). is_text (b ∷ l)) (sym (take-append-drop (span bs) bs))
        ∙ text-append (b ∷ take (span bs) bs) (drop (span bs) bs)
        ∙ ap (λ (r : Bool). is_text (b ∷ take (span bs) bs) && r) q

module _ (p : Profile) (most : ℕ) where
  -- what lines of these words do
  unfoldable saying : List Words → State → Step
  saying [] s = goes s
  saying (ws ∷ wss) s = and_then (words_do p most (texts ws) ws s) (λ t. saying wss t)

  through-said : (ls : List (List ℕ)) (s : State) → through p most ls s ≡ saying (said_by ls) s
  unfolding through saying said_by
  through-said [] s = refl
  through-said (l ∷ ls) s = go (silent (words l)) refl (through-said ls)
    where
      then : (r : Step) → ((t : State) → through p most ls t ≡ saying (said_by ls) t) → and_then r (λ t. through p most ls t) ≡ and_then r (λ t. saying (said_by ls) t)
      then (stops n) ih = refl
      then (goes t) ih = ih t

      go : (b : Bool) → silent (words l) ≡ b → ((t : State) → through p most ls t ≡ saying (said_by ls) t)
          → and_then (line_does p most l s) (λ t. through p most ls t) ≡ saying (cond b (said_by ls) (words l ∷ said_by ls)) s
      go true e ih = rw (silent-does p most l s e) (ih s)
      go false e ih = rw (text-words 0 l) (then (words_do p most (texts (words l)) (words l) s) ih)

alike_end : (s : State) → Alike (ended s) (ended s)
alike_end (before d) = refl
alike_end (inside f q v) = refl
alike_end (closed f) = refl

alike-verdict : (r : Step) (i j : ℕ) → Alike (verdict r i) (verdict r j)
alike-verdict (stops n) i j = refl
alike-verdict (goes s) i j = alike_end s

pub words-decide : WordsDecide
unfolding reading
words-decide p t u room ft fu e =
    let most = most_rows room in
    let r = run-verdict p most (lines t) (before none) in
    let q = run-verdict p most (lines u) (before none) in
    let same = through-said p most (pieces t) (before none) ∙ ap (λ (wss : List Words). saying p most wss (before none)) e ∙ sym (through-said p most (pieces u) (before none)) in
    rw (ft, fu, r.1, q.1, same) (alike-verdict (through p most (pieces u) (before none)) r.0 q.0)

-- A line by its first word: what it does, and how the functions for each kind of line serve.
use mathlib.Core.Path.{◌≡◌, refl, ◌∙◌}
use mathlib.Core.List.{List}
use mathlib.Core.Bool.{cond}
use native.Mathlib.Omega.{arith}
use native.Mathlib.Nat.{add-zero}
use lib.Dec.{eqb}
use lib.ListN.{length, take, drop, get_or}
use lib.Seq.{get_or-take, get_or-drop}
use Prim.Native.Nat.{ℕ, ◌+◌, ◌-◌, ◌≤◌, ◌<◌}
use Rattle.tree.specs.declared.Profile.{Profile}
use Rattle.listing.specs.Words.{Words, is_text, span, words}
use Rattle.listing.specs.Reading.{State, Step, Step.goes, Step.stops, line_does, root_line, words_do}
use Rattle.listing_reader.specs.declared.Reader.{Reader}
use Rattle.std.specs.Prelude.{Result}
use Rattle.listing_scan.specs.Places.{skip}
use Rattle.listing_scan.proofs.Next.{words-next, words-none}
use Rattle.listing_lines.specs.Takes.{Alters, Roots, Takes, first_does}

pub takes-as : {p : Profile} {f g : ℕ → State → Step} {w : List ℕ} {s : Reader} {after : List ℕ} {r : Result Reader ℕ} → ((most : ℕ) (t : State) → f most t ≡ g most t)
    → Takes p g w s after r → Takes p f w s after r
takes-as e a = record { does = λ t g h. rw (e _ t) (a.does t g h) }

pub takes-alters : {p : Profile} {g : State → Step} (w : List ℕ) {s : Reader} {r : Result Reader ℕ} → Alters g s r → Takes p (λ most. g) w s w r
takes-alters {p} w a = record { does = λ t g h. a.does p _ w t g h }

pub takes-root : {p : Profile} (ws : Words) (w : List ℕ) {s : Reader} {r : Result Reader ℕ} → Roots ws (length w) s r → Takes p (λ most. root_line most ws) w s w r
takes-root {p} ws w a = record { does = λ t g h. a.does p w t refl h }

pub first_byte : (l : List ℕ) (a e : ℕ) → a < e → get_or (take (e - a) (drop a l)) 0 0 ≡ get_or l a 0
first_byte l a e h = get_or-take (e - a) (drop a l) 0 0 (omega arith) ∙ get_or-drop a l 0 0 ∙ rw (add-zero a)

-- a is where the blanks end
module _ (p : Profile) (l : List ℕ) (a : ℕ) (at : a ≡ 0 + skip (drop 0 l)) where
  pub no_words : length l ≤ a → (most : ℕ) (t : State) → line_does p most l t ≡ goes t
  unfolding words_do
  no_words h most t = rw (words-none l 0 a at h)

  pub by_first : (e : ℕ) → e ≡ a + span (drop a l) → a < length l → (most : ℕ) (t : State)
      → line_does p most l t ≡ cond (eqb (get_or l a 0) 35) (goes t) (cond (is_text l) (first_does p most (take (e - a) (drop a l)) (words (drop e l)) t) (stops 7))
  unfolding words_do
  by_first e ed h most t =
      let n = words-next l 0 a at e ed h in
      rw (n.parted, first_byte l a e n.some)

-- The kinds of lines, each known by what it does in every state.
use mathlib.Core.Path.{◌≡◌, refl}
use mathlib.Core.List.{List, [], ◌∷◌}
use mathlib.Core.Bool.{Bool, true, false, cond, ◌&&◌}
use lib.Dec.{eqb}
use lib.ListN.{get_or}
use Prim.Native.Nat.{ℕ}
use Rattle.tree.specs.declared.Profile.{Profile}
use Rattle.tree.specs.Same.{same_words}
use Rattle.tree.proofs.Never.{never}
use Rattle.listing.specs.Bytes.{text}
use Rattle.listing.specs.Words.{Words, words, values, is_text}
use Rattle.listing.specs.Names.{is_name}
use Rattle.listing.specs.Entries.{Said, Said.none, Said.is_dir, Said.is_file, Said.is_other, Said.twice, type_in}
use Rattle.listing.specs.Reading.{State, State.before, State.inside, State.closed, Step, Step.stops, Step.goes, with_default, is_empty, set_to, set_line, unset_line, slash_line, close_line, root_line, entry_line, words_do, line_does}

abbrev pub Stops : Step → Type 0
Stops (stops n) = Unit {0}
Stops (goes s) = ⊥

pub stops-never : {P : Type 0} {s : State} (x : Step) → Stops x → x ≡ goes s → P
stops-never (stops n) h e = never (cc)
stops-never (goes t) h e = absurd h

pub data Kind (p : Profile) (F : ℕ → State → Step) : Type 0 where
  skips : ((most : ℕ) (s : State) → F most s ≡ goes s) → Kind p F
  sets : (v : Said) → ((most : ℕ) (s : State) → F most s ≡ goes (with_default v s)) → Kind p F
  closes : ((most : ℕ) (s : State) → F most s ≡ close_line [] s) → Kind p F
  roots : (ws : Words) → ((most : ℕ) (s : State) → F most s ≡ root_line most ws s) → Kind p F
  enters : (w : List ℕ) (ws : Words) → is_name w ≡ true → ((most : ℕ) (s : State) → F most s ≡ entry_line p most w ws s) → Kind p F
  fails : ((most : ℕ) (s : State) → Stops (F most s)) → Kind p F

module _ {p : Profile} where
  either : (t : Bool) (F G : ℕ → State → Step) → Kind p F → Kind p G → Kind p (λ most s. cond t (F most s) (G most s))
  either true F G a b = a
  either false F G a b = b

  set-kind : (t : Said) → Kind p (λ most s. set_to t s)
  set-kind none = skips (λ most s. refl)
  set-kind is_dir = sets is_dir (λ most s. refl)
  set-kind is_file = sets is_file (λ most s. refl)
  set-kind is_other = fails (λ most s. tt)
  set-kind twice = fails (λ most s. tt)

  unset-kind : (t : Bool) → Kind p (λ most s. goes (cond t s (with_default none s)))
  unset-kind true = skips (λ most s. refl)
  unset-kind false = sets none (λ most s. refl)

  slash-kind : (w : List ℕ) (ws : Words) → Kind p (λ most s. slash_line w ws s)
  unfolding slash_line set_line unset_line
  slash-kind w ws =
      either (same_words w (text "/set")) _ _
      (either (is_empty (values (text "size") ws) && is_empty (values (text "sha256digest") ws)) _ (λ most s. stops 9) (set-kind (type_in none ws)) (fails (λ most s. tt)))
      (either (same_words w (text "/unset")) _ (λ most s. stops 9) (unset-kind (is_empty (values (text "type") ws) && is_empty (values (text "all") ws))) (fails (λ most s. tt)))

  close-kind : (ws : Words) → Kind p (λ most s. close_line ws s)
  unfolding close_line
  close-kind [] = closes (λ most s. refl)
  close-kind (w ∷ ws) = fails (λ most s. go s)
    where
      go : (s : State) → Stops (close_line (w ∷ ws) s)
      go (before d) = tt
      go (inside f q ds) = tt
      go (closed f) = tt

  entry-kind : (w : List ℕ) (ws : Words) → Kind p (λ most s. entry_line p most w ws s)
  unfolding entry_line
  entry-kind w ws = go (is_name w) refl
    where
      fault : (most : ℕ) (s : State) → is_name w ≡ false → Stops (entry_line p most w ws s)
      fault most (before d) e = tt
      fault most (inside f q ds) e = rw e tt
      fault most (closed f) e = tt

      go : (t : Bool) → is_name w ≡ t → Kind p (λ most s. entry_line p most w ws s)
      go true e = enters w ws e (λ most s. refl)
      go false e = fails (λ most s. fault most s e)

  words-kind : (good : Bool) (ws : Words) → Kind p (λ most s. words_do p most good ws s)
  unfolding words_do
  words-kind good [] = skips (λ most s. refl)
  words-kind good (w ∷ ws) =
      either (eqb (get_or w 0 0) 35) (λ most s. goes s) _ (skips (λ most s. refl))
      (either good _ (λ most s. stops 7)
      (either (eqb (get_or w 0 0) 47) _ _ (slash-kind w ws)
      (either (same_words w (text "..")) _ _ (close-kind ws)
      (either (same_words w (text ".")) _ _ (roots ws (λ most s. refl)) (entry-kind w ws))))
      (fails (λ most s. tt)))

  pub kind : (l : List ℕ) → Kind p (λ most s. line_does p most l s)
  kind l = words-kind (is_text l) (words l)

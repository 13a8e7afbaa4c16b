-- What reading accepts fits: every line keeps what is known of the state.
use mathlib.Core.Bool.{Bool, cond, false, true}
use mathlib.Core.List.{List, [], ◌∷◌}
use mathlib.Core.Path.{◌≡◌, refl, subst}
use lib.Dec.{eqb}
use lib.ListN.{get_or}
use Prim.Native.Nat.{ℕ}
use Rattle.tree.specs.Name.{Name}
use Rattle.tree.specs.Forest.{Forest, TreePath}
use Rattle.tree.specs.Rules.{NameRule}
use Rattle.tree.specs.Same.{same_words}
use Rattle.tree.specs.declared.Profile.{Profile}
use Rattle.listing.specs.Accepted.{AcceptedFits, Fit, GoodState, GoodStep, Inside}
use Rattle.listing.specs.Bytes.{text}
use Rattle.listing.specs.Lines.{Line, lines}
use Rattle.listing.specs.Words.{Words, is_text, words}
use Rattle.listing.specs.Names.{is_name, name_of}
use Rattle.listing.specs.Entries.{Said.none, Entry, Entry.faulty, Entry.holds, Said, entry_of, type_in}
use Rattle.listing.specs.Reading.{Outcome, Outcome.accepted, Outcome.refused, State, State.before, State.closed, State.inside, Step, Step.goes, Step.stops, ended, entered, entry_line, has_form, line_does, most_rows, on_step, reading, run, words_do}
use Rattle.listing.proofs.Ruled.{name-rule}
use Rattle.listing.proofs.Entered.{good_placed, one-row}
use Rattle.listing.proofs.Kept.{GoodEntry, entry-good, good-closing, good-cond, good-root, good-slash}

abbrev GoodOutcome : Profile → ℕ → Outcome → Type 0
GoodOutcome p most (refused n line) = Unit {0}
GoodOutcome p most (accepted f) = Fit p most f

module _ (p : Profile) (most : ℕ) where
  good-entered : (n : Name) (x : Entry) (f : Forest) (q : TreePath) (d : Said) → NameRule n → GoodEntry x → Inside p most f q
      → GoodStep p most (entered p most n x f q d)
  good-entered n (faulty k) f q d rule g h = tt
  good-entered n (holds x) f q d rule g h = good_placed p most n x f q d rule (one-row x g) h

  good-entry : (w : List ℕ) (ws : Words) (s : State) → GoodState p most s → GoodStep p most (entry_line p most w ws s)
  unfolding entry_line entry_of
  good-entry w ws (before d) h = tt
  good-entry w ws (inside f q d) h = go (is_name w) refl
    where
      go : (t : Bool) → is_name w ≡ t → GoodStep p most (cond t (entered p most (name_of w) (entry_of d ws) f q d) (stops 8))
      go true e = good-entered (name_of w) (entry_of d ws) f q d (name-rule w e) (entry-good (type_in d ws) ws) h
      go false e = tt
  good-entry w ws (closed f) h = tt

  pub good-words : (t : Bool) (ws : Words) (s : State) → GoodState p most s → GoodStep p most (words_do p most t ws s)
  unfolding words_do
  good-words t [] s h = h
  good-words t (w ∷ ws) s h =
      good-cond p most (eqb (get_or w 0 0) 35) (goes s) _ h
      (good-cond p most t _ (stops 7)
      (good-cond p most (eqb (get_or w 0 0) 47) _ _ (good-slash p most w ws s h)
      (good-cond p most (same_words w (text "..")) _ _ (good-closing p most ws s h)
      (good-cond p most (same_words w (text ".")) _ _ (good-root p most ws s) (good-entry w ws s h))))
      tt)

  good-end : (s : State) → GoodState p most s → GoodOutcome p most (ended s)
  good-end (before d) h = tt
  good-end (inside f q d) h = h.fit
  good-end (closed f) h = h

  good-run : (ls : List Line) (s : State) → GoodState p most s → GoodOutcome p most (run p most ls s)
  unfolding run
  good-run [] s h = good-end s h
  good-run (l ∷ ls) s h = go (line_does p most l.bytes s) (good-words (is_text l.bytes) (words l.bytes) s h) (good-run ls)
    where
      go : (x : Step) → GoodStep p most x → ((t : State) → GoodState p most t → GoodOutcome p most (run p most ls t))
          → GoodOutcome p most (on_step x l.number (λ t. run p most ls t))
      go (stops n) g k = tt
      go (goes t) g k = k t g

good-reading : (p : Profile) (t : List ℕ) (room : ℕ) → GoodOutcome p (most_rows room) (reading p t room)
unfolding reading
good-reading p t room = go (has_form t) (good-run p (most_rows room) (lines t) (before none) tt)
  where
    go : (b : Bool) → GoodOutcome p (most_rows room) (run p (most_rows room) (lines t) (before none))
        → GoodOutcome p (most_rows room) (cond b (run p (most_rows room) (lines t) (before none)) (refused 6 0))
    go true h = h
    go false h = tt

pub accepted-fits : AcceptedFits
accepted-fits p t room f e = subst (GoodOutcome p (most_rows room)) e (good-reading p t room)

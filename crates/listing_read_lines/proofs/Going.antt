-- The loop over a text's lines: what is left to run from the state so far is what the whole text comes to.
use Rattle.std.proofs.Common.{Result, Ok, Err}
use mathlib.Core.Path.{◌≡◌, refl, sym, ◌∙◌}
use mathlib.Core.List.{List}
use mathlib.Core.Bool.{false≢true}
use native.Mathlib.Omega.{arith}
use lib.ListN.{length, take, drop}
use Prim.Native.Nat.{ℕ, ◌+◌, ◌-◌, ◌<◌, ◌≤◌}
use borrow.Author.Tests.{ne_eqb}
use Rattle.table_rules.specs.Answer.{refusal}
use Rattle.tree.specs.declared.Profile.{Profile}
use Rattle.listing.specs.Lines.{len_in, lines, lines_from}
use Rattle.listing.specs.declared.Mode.TheVariants.{Lead}
use Rattle.listing.specs.Words.{is_text, words}
use Rattle.listing.specs.Entries.{Said.none}
use Rattle.listing.specs.Reading.{Outcome, Outcome.refused, State, State.before, Step, Step.goes, Step.stops, ended, line_does, most_rows, on_step, run}
use Rattle.listing.specs.Accepted.{GoodState, GoodStep}
use Rattle.listing.proofs.Accepted.{good-words}
use Rattle.listing_scan.specs.Places.{line_ends}
use Rattle.listing_scan.proofs.Next.{lines_next, lines_none}
use Rattle.listing_reader.specs.declared.Reader.{Reader}
use Rattle.listing_reader.specs.State.{zeroed, Reads, Ready}
use Rattle.listing_reader.specs.Does.{Did, Fresh}
use Rattle.listing_lines.specs.Takes.{Takes}
use Rattle.listing_read_lines.specs.Contract.{RanLines}

-- before the line that begins at byte i, which has that number
pub record Going (p : Profile) (text : List ℕ) (room : ℕ) (w : List ℕ) (s : Reader) (i line : ℕ) : Type 0 where
  pub long : length w ≡ room
  pub state : State
  pub reads : Reads p w s state
  pub good : GoodState p (most_rows room) state
  pub same : run p (most_rows room) (lines text) (before none) ≡ run p (most_rows room) (lines_from line 0 (drop i text)) state

pub going-first : (p : Profile) (text w : List ℕ) (s : Reader) → w ≡ zeroed (length w) → Fresh s → Going p text (length w) w s 0 1
going-first p text w s e f = record { long = refl; state = before none; reads = rw e (f.does p (length w)); good = tt; same = refl }

module _ {p : Profile} {text : List ℕ} {room : ℕ} {w : List ℕ} {s : Reader} {i line : ℕ} (g : Going p text room w s i line) where
  pub going-ready : Ready p w s
  going-ready = record { state = g.state; reads = g.reads; good = rw g.long g.good }

  pub going_end : length text ≤ i → run p (most_rows room) (lines text) (before none) ≡ ended g.state
  unfolding run
  going_end h = g.same ∙ rw (lines_none line text i h)

  -- the line from i to e
  module _ (e : ℕ) (at : e ≡ i + len_in Lead (drop i text)) (more : i < length text) where
    abbrev part : List ℕ
    part = take (e - i) (drop i text)

    abbrev step : Step
    step = line_does p (most_rows room) part g.state

    turn : run p (most_rows room) (lines text) (before none)
        ≡ on_step step line (λ t. run p (most_rows room) (lines_from (line + line_ends part) 0 (drop e text)) t)
    unfolding run
    turn = g.same ∙ rw (lines_next line text i e at more).parted

    -- what the line did
    module _ (after : List ℕ) (r : Result Reader ℕ) (takes : Takes p (λ most. line_does p most part) w s after r) where
      did : Did p step after r
      did = rw g.long at (takes.does g.state (rw g.long g.good) g.reads)

      kept : GoodStep p (most_rows room) step
      kept = good-words p (most_rows room) (is_text part) (words part) g.state g.good

      pub stopped : (n : ℕ) → r ≡ Err n → (run p (most_rows room) (lines text) (before none) ≡ refused n line) × (0 < n)
      stopped n q = rw turn (go step (rw q at did))
        where
          go : (x : Step) → Did p x after (Err n) → (on_step x line (λ t. run p (most_rows room) (lines_from (line + line_ends part) 0 (drop e text)) t) ≡ refused n line) × (0 < n)
          go (stops m) d = rw d.0 (refl, d.1)
          go (goes t) d = absurd d

      pub goes_on : (u : Reader) → r ≡ Ok u → length after ≡ length w → Going p text room after u e (line + line_ends part)
      goes_on u q l = go step (rw q at did) kept turn
        where
          go : (x : Step) → Did p x after (Ok u) → GoodStep p (most_rows room) x
              → run p (most_rows room) (lines text) (before none) ≡ on_step x line (λ t. run p (most_rows room) (lines_from (line + line_ends part) 0 (drop e text)) t)
              → Going p text room after u e (line + line_ends part)
          go (stops n) d k q = absurd d
          go (goes t) d k q = record { long = l ∙ g.long; state = t; reads = d; good = k; same = q }

-- a refused line's answer
pub refused-lines : {o : Outcome} {room n line : ℕ} {after : List ℕ} → (o ≡ refused n line) × (0 < n) → RanLines o room (Err (refusal n 0 line)) after
refused-lines {n = n} (e, h) =
    rw e (record { says = record { number-due = refl; side-due = refl; place-due = refl; accepted = sym (ne_eqb n 0 (λ z. omega arith)) }; kind = refl; table = λ z. absurd (false≢true z) })

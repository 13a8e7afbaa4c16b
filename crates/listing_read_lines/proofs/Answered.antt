-- A whole text: its form, then its lines; what is read stays, and a refusal's table is zeroed.
use Rattle.std.proofs.Common.{Ok, Err}
use mathlib.Core.Path.{◌≡◌, refl, sym, ap, ◌∙◌}
use mathlib.Core.List.{List}
use mathlib.Core.Bool.{true, false, false≢true}
use lib.ListN.{length, length-replicate}
use Prim.Native.Nat.{ℕ}
use Rattle.tree.specs.declared.Profile.{Profile}
use Rattle.std.specs.Prelude.{is_err}
use Rattle.tree.proofs.Never.{never}
use Rattle.table_rules.specs.Answer.{is_accepted, Answer, refusal}
use Rattle.listing.specs.Lines.{lines}
use Rattle.listing.specs.Entries.{Said.none}
use Rattle.listing.specs.Reading.{Outcome, Outcome.refused, Outcome.accepted, State.before, has_form, most_rows, reading, run}
use Rattle.listing_reader.specs.State.{zeroed}
use Rattle.listing_read_lines.specs.Contract.{Answers, RanLines, ReadContract, is_taken, table_after}

-- zeros, as many as there are words
pub zeros-long : (w : List ℕ) (n : ℕ) → w ≡ zeroed n → length w ≡ n
zeros-long w n e = ap length e ∙ length-replicate {A = ℕ} n 0

pub zeros-all : (w : List ℕ) (n : ℕ) → w ≡ zeroed n → w ≡ zeroed (length w)
zeros-all w n e = e ∙ rw (zeros-long w n e)

read_by : (p : Profile) (t b : List ℕ) (o : Outcome) (a : Answer) (after : List ℕ) → reading p t (length b) ≡ o → Answers a o → is_accepted a ≡ is_taken o → after ≡ table_after o (length b) → ReadContract p t b a after
read_by p t b o a after e says kind table = record { says = rw e says; kind = rw e kind; table = rw e table }

refused-only : (room : ℕ) (o : Outcome) → false ≡ is_taken o → table_after o room ≡ zeroed room
refused-only room (refused k line) e = refl
refused-only room (accepted f) e = absurd (false≢true e)

taken : (a : Answer) → is_err a ≡ false → is_accepted a ≡ true
taken (Ok i) e = refl
taken (Err r) e = never (cc)

refusing : (a : Answer) → is_err a ≡ true → is_accepted a ≡ false
refusing (Ok i) e = never (cc)
refusing (Err r) e = refl

module _ (p : Profile) (t b : List ℕ) where
  pub read-formless : (after : List ℕ) → has_form t ≡ false → after ≡ zeroed (length b) → ReadContract p t b (Err (refusal 6 0 0)) after
  unfolding reading
  read-formless after h e =
      read_by p t b (refused 6 0) (Err (refusal 6 0 0)) after (rw h) (record { number-due = refl; side-due = refl; place-due = refl; accepted = refl }) refl e

  -- its lines
  abbrev ran : ℕ → Outcome
  ran room = run p (most_rows room) (lines t) (before none)

  module _ (form : has_form t ≡ true) (room : ℕ) (same : room ≡ length b) (a : Answer) (after : List ℕ) (r : RanLines (ran room) room a after) where
    by_lines : reading p t (length b) ≡ ran room
    unfolding reading
    by_lines = rw (form, same)

    pub read-accepted : is_err a ≡ false → ReadContract p t b a after
    read-accepted e = read_by p t b (ran room) a after by_lines r.says r.kind (rw (← same) (r.table (taken a e)))

    pub read-refused : (zeros : List ℕ) → is_err a ≡ true → zeros ≡ zeroed (length b) → ReadContract p t b a zeros
    read-refused zeros e z =
        read_by p t b (ran room) a zeros by_lines r.says r.kind (z ∙ sym (refused-only (length b) (ran room) (sym (refusing a e) ∙ r.kind)))

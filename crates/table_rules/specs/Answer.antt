-- The answer of a call that has one place: its number, its side and its place.
use Rattle.std.specs.Prelude.{◌≡◌, Bool, eqb, ℕ, Result, Ok, Err, is_ok}
use Rattle.table_rules.specs.declared.Refusal.{Refusal}

-- accepted with a place, or refused
abbrev pub Answer : Type 0
Answer = Result ℕ Refusal

abbrev pub refusal : ℕ → ℕ → ℕ → Refusal
refusal number side place = record { number = number; side = side; place = place }

abbrev pub number_of : Answer → ℕ
number_of (Ok place) = 0
number_of (Err r) = r.number

abbrev pub side_of : Answer → ℕ
side_of (Ok place) = 0
side_of (Err r) = r.side

abbrev pub place_of : Answer → ℕ
place_of (Ok place) = place
place_of (Err r) = r.place

abbrev pub is_accepted : Answer → Bool
is_accepted a = is_ok a

-- an answer is the number, side and place that are due; it is an acceptance exactly where the number is 0
pub record Says (answer : Answer) (number side place : ℕ) : Type 0 where
  pub number-due : number_of answer ≡ number
  pub side-due : side_of answer ≡ side
  pub place-due : place_of answer ≡ place
  pub accepted : is_accepted answer ≡ eqb number 0

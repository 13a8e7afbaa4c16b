-- The order of faults: of several checks the first that fails gives the answer. And the check of a result's room.
use Rattle.std.specs.Prelude.{List, [], ◌∷◌, Bool, true, false, cond, ◌&&◌, leb, ℕ, ◌/◌, Ok, Err}
use Rattle.table_rules.specs.Answer.{is_accepted, Answer, refusal}

-- the first refusal among some answers; where there is none, the last answer
unfoldable pub first_refusal : List Answer → Answer → Answer
first_refusal [] last = last
first_refusal (a ∷ more) last = cond (is_accepted a) (first_refusal more last) a

-- a check that has no place
abbrev pub unless : Bool → ℕ → ℕ → Answer
unless true number side = Ok 0
unless false number side = Err (refusal number side 0)

-- number 3: a result of n rows has at most 4,096, and at most the whole rows of the words lent
unfoldable pub room_rule : ℕ → ℕ → Bool
room_rule n lent = leb n 4096 && leb n (lent / 20)

-- What a check of a table promises.
use Rattle.std.specs.Prelude.{List, [], ◌∷◌, ℕ}
use Rattle.tree.specs.declared.Profile.{Profile}
use Rattle.table_rules.specs.Answer.{number_of, side_of, place_of, Says, Answer}
use Rattle.table_rules.specs.Faults.{first_refusal}
use Rattle.table_rules.specs.Keyed.{checked_in, twins}
use Rattle.table_rules.specs.Refusal.{refusal_of, twins_due}

-- 1, 2 or 16 where the rules are broken, with side 1; accepted with place 0, since nothing is written
unfoldable pub check_due : Profile → List ℕ → Answer
check_due p t = first_refusal (refusal_of (checked_in p t) 1 ∷ []) (twins_due (twins p t) 1)

pub record CheckContract (p : Profile) (t : List ℕ) (answer : Answer) : Type 0 where
  pub says : Says answer (number_of (check_due p t)) (side_of (check_due p t)) (place_of (check_due p t))

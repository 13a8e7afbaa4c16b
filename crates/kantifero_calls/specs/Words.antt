-- The eight words of an answer: number, side and place; for an accepted reconciliation its four counts; else zeros.
use Rattle.std.specs.Prelude.{List, [], ◌∷◌, cond, eqb, get_or, ℕ, ◌<◌, Ok, Err}
use Rattle.tree.specs.declared.Profile.{Profile}
use Rattle.tree.specs.declared.Profile.TheVariants.{Exact, Folded}
use Rattle.table_rules.specs.Answer.{number_of, side_of, place_of, Answer}
use Rattle.table_rules.specs.Contract.{check_due}
use Rattle.plan_tally.specs.declared.Tally.{Tally}
use Rattle.plan_run.specs.declared.Counts.{Counts}
use Rattle.plan_run.specs.Answer.{Reconciled}

-- a profile as a word: 0 every byte counts, any other letter case is ignored
unfoldable pub profile_of : ℕ → Profile
profile_of w = cond (eqb w 0) Exact Folded

-- three words, and zeros
abbrev pub eight : ℕ → ℕ → ℕ → List ℕ
eight number side place = number ∷ side ∷ place ∷ 0 ∷ 0 ∷ 0 ∷ 0 ∷ 0 ∷ []

abbrev pub answer_words : Answer → List ℕ
answer_words a = eight (number_of a) (side_of a) (place_of a)

-- the answer to a table: numbers 1, 2 and 16, side 1
abbrev pub check_words : Profile → List ℕ → List ℕ
check_words p t = answer_words (check_due p t)

-- three words, four counts and 0
abbrev pub counted : ℕ → ℕ → ℕ → Counts → List ℕ
counted number side place n = number ∷ side ∷ place ∷ n.archive ∷ n.left ∷ n.right ∷ n.list ∷ 0 ∷ []

-- words 3 to 6 are the rows of the new archive, left and right, and the list's entries
abbrev pub reconciled_words : Reconciled → List ℕ
reconciled_words (Ok n) = 0 ∷ 0 ∷ 0 ∷ n.archive ∷ n.left ∷ n.right ∷ n.list ∷ 0 ∷ []
reconciled_words (Err r) = eight r.number r.side r.place

-- counts of 32 bits
pub record NarrowCounts (n : Counts) : Type 0 where
  pub archive : n.archive < 4294967296
  pub left : n.left < 4294967296
  pub right : n.right < 4294967296
  pub list : n.list < 4294967296

-- each of its places and counts has 32 bits
abbrev pub Narrow : Reconciled → Type 0
Narrow (Ok n) = NarrowCounts n
Narrow (Err r) = r.place < 4294967296

-- a tally as three words, and three words read as a tally
abbrev pub tally_words : Tally → List ℕ
tally_words t = t.left ∷ t.right ∷ t.clash ∷ []

abbrev pub tally_in : List ℕ → Tally
tally_in w = record { left = get_or w 0 0; right = get_or w 1 0; clash = get_or w 2 0 }

-- What is due for a table that was checked: numbers 1 and 2, and 16.
use Rattle.table_rules.specs.Answer.{Answer, refusal}
use Rattle.std.specs.Prelude.{ℕ, Ok, Err, Option, Some, None}
use Rattle.table_rules.specs.declared.Fault.{Fault}
use Rattle.table_rules.specs.declared.Fault.TheVariants.{BadLength, BadRow}

-- 1: the table is not 20 words times 1 to 4,096; 2: the row rules are broken, with the lowest such row. The side says which
-- table it is
abbrev pub refusal_of : Option Fault → ℕ → Answer
refusal_of None side = Ok 0
refusal_of (Some BadLength) side = Err (refusal 1 side 0)
refusal_of (Some (BadRow i)) side = Err (refusal 2 side i)

-- 16: two siblings are equal after folding; the row of the second
abbrev pub twins_due : Option ℕ → ℕ → Answer
twins_due None side = Ok 0
twins_due (Some i) side = Err (refusal 16 side i)

-- What a check answers for siblings that are alike, or alike but for letter case, in both profiles.
use Rattle.table_rules.specs.Answer.{Answer, refusal}
use Rattle.std.specs.Prelude.{◌≡◌, List, [], ◌∷◌, map, ℕ, Ok, Err}
use Rattle.tree.specs.declared.Profile.TheVariants.{Exact, Folded}
use Rattle.table_row.specs.Table.{Row, flat}
use Rattle.table_row.specs.Tree.{folder_row, root_name}
use Rattle.table_rules.specs.Contract.{check_due}

-- a folder called by one byte, in the root
abbrev called : ℕ → Row
called b = folder_row 1 (b ∷ 0 ∷ 0 ∷ 0 ∷ 0 ∷ 0 ∷ 0 ∷ 0 ∷ [])

abbrev folders : List Row → List ℕ
folders rs = flat (folder_row 0 root_name ∷ rs)

-- A, a, B, b, and what stands between: [ is 91, _ is 95
abbrev A : Row
A = called 0x41000000

abbrev a : Row
a = called 0x61000000

abbrev B : Row
B = called 0x42000000

abbrev b : Row
b = called 0x62000000

abbrev bracket : Row
bracket = called 0x5B000000

abbrev line : Row
line = called 0x5F000000

-- a, within the folder before it
abbrev within : Row
within = folder_row 2 (0x61000000 ∷ 0 ∷ 0 ∷ 0 ∷ 0 ∷ 0 ∷ 0 ∷ 0 ∷ [])

-- some rows, and the answer where every byte counts and where letter case is ignored
pub record Pair : Type 0 where
  pub entries : List Row
  pub exact : Answer
  pub folded : Answer

abbrev pair : List Row → Answer → Answer → Pair
pair rs x y = record { entries = rs; exact = x; folded = y }

abbrev pub pairs : List Pair
pairs =
    -- two of one key: the row of the second
    pair (A ∷ a ∷ []) (Ok 0) (Err (refusal 16 1 2)) ∷
    pair (a ∷ A ∷ []) (Err (refusal 2 1 2)) (Err (refusal 16 1 2)) ∷
    -- spelled alike
    pair (a ∷ a ∷ []) (Err (refusal 2 1 2)) (Err (refusal 16 1 2)) ∷
    -- out of order is 2, also where it equals an earlier one
    pair (a ∷ b ∷ A ∷ []) (Err (refusal 2 1 3)) (Err (refusal 2 1 3)) ∷
    pair (b ∷ a ∷ []) (Err (refusal 2 1 2)) (Err (refusal 2 1 2)) ∷
    -- of several the lowest second row
    pair (a ∷ A ∷ a ∷ []) (Err (refusal 2 1 2)) (Err (refusal 16 1 2)) ∷
    -- a later 2 goes before an earlier 16
    pair (A ∷ a ∷ b ∷ a ∷ []) (Err (refusal 2 1 4)) (Err (refusal 2 1 4)) ∷
    -- rows beneath the first don't matter
    pair (A ∷ within ∷ a ∷ []) (Ok 0) (Err (refusal 16 1 3)) ∷
    -- the order is that of the keys
    pair (a ∷ B ∷ []) (Err (refusal 2 1 2)) (Ok 0) ∷
    pair (B ∷ a ∷ []) (Ok 0) (Err (refusal 2 1 2)) ∷
    pair (line ∷ B ∷ []) (Err (refusal 2 1 2)) (Ok 0) ∷
    pair (B ∷ line ∷ []) (Ok 0) (Err (refusal 2 1 2)) ∷
    pair (bracket ∷ a ∷ []) (Ok 0) (Ok 0) ∷
    []

abbrev pub PairsHold : Type 0
PairsHold =
    (map (λ (x : Pair). check_due Exact (folders x.entries)) pairs ≡ map (λ (x : Pair). x.exact) pairs)
    × (map (λ (x : Pair). check_due Folded (folders x.entries)) pairs ≡ map (λ (x : Pair). x.folded) pairs)

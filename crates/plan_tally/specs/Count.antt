-- How many entries of each kind: of a list's lines, and of its words.
use Rattle.std.specs.Prelude.{List, [], ◌∷◌, cond, eqb, drop, get_or, ℕ, zero, suc, ◌+◌}
use Rattle.settle.specs.Decision.{Decision.agreed, Decision.left_gets, Decision.right_gets, Decision.clash}
use Rattle.settle.specs.Results.{Line.line, Lines}
use Rattle.plan_tally.specs.declared.Tally.{Tally}

-- the counts of kinds 1, 2 and 3
unfoldable pub tally_of : Lines → Tally
tally_of [] = record { left = 0; right = 0; clash = 0 }
tally_of (line p agreed ∷ xs) = tally_of xs
tally_of (line p left_gets ∷ xs) = let t = tally_of xs in record { left = suc t.left; right = t.right; clash = t.clash }
tally_of (line p right_gets ∷ xs) = let t = tally_of xs in record { left = t.left; right = suc t.right; clash = t.clash }
tally_of (line p clash ∷ xs) = let t = tally_of xs in record { left = t.left; right = t.right; clash = suc t.clash }

-- how many of the first n entries, three words each, have a kind
unfoldable pub counted : ℕ → ℕ → List ℕ → ℕ
counted k zero w = 0
counted k (suc n) w = cond (eqb (get_or w 0 0) k) 1 0 + counted k n (drop 3 w)

abbrev pub counted_all : ℕ → List ℕ → Tally
counted_all n w = record { left = counted 1 n w; right = counted 2 n w; clash = counted 3 n w }

-- A plan's words read back: four for each decision.
use Rattle.std.specs.Prelude.{List, [], ◌∷◌, ◌++◌, cond, eqb, drop, get_or, length, ℕ, zero, suc, ◌/◌}
use Rattle.plan_cursor.specs.declared.Rows.{Rows}
use Rattle.plan_cursor.specs.declared.Decision.{Decision}
use Rattle.plan_cursor.specs.declared.Decision.TheVariants.{Agreed, LeftGets, RightGets, Clash}

-- the decision of a number; the plan has none above 3
abbrev pub numbered : ℕ → Rows → Decision
numbered d h = cond (eqb d 0) (Agreed h) (cond (eqb d 1) (LeftGets h) (cond (eqb d 2) (RightGets h) (Clash h)))

-- the decision that four words say
unfoldable pub decision_of : List ℕ → Decision
decision_of p = numbered (get_or p 0 0) (record { o = get_or p 1 0; l = get_or p 2 0; r = get_or p 3 0 })

-- the first n decisions of a plan
unfoldable pub decisions : ℕ → List ℕ → List Decision
decisions zero p = []
decisions (suc n) p = decision_of p ∷ decisions n (drop 4 p)

-- those of a whole plan
abbrev pub decided : List ℕ → List Decision
decided p = decisions (length p / 4) p

-- what is made of each, one after the other
unfoldable pub pieces : (Decision → List ℕ) → List Decision → List ℕ
pieces f [] = []
pieces f (x ∷ xs) = f x ++ pieces f xs

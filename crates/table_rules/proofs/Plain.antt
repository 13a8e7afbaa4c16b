-- The row rules where siblings ascend strictly as they are named: what a table of keys keeps. What is proved of order is
-- proved of it.
use Rattle.std.proofs.Common.{Option, Some, None, option_map}
use mathlib.Core.List.{List, [], ◌∷◌}
use mathlib.Core.Bool.{Bool, true, false, cond, ◌&&◌}
use lib.Dec.{ltb}
use lib.ListN.{length}
use Prim.Native.Nat.{ℕ, suc, ◌/◌, compare}
use Rattle.tree.specs.Name.{Name, cmp, by_order}
use Rattle.tree.specs.Rules.{zeros, good_name}
use Rattle.table_row.specs.Table.{Row, rows, depth, name}
use Rattle.table_rules.specs.declared.Fault.{Fault}
use Rattle.table_rules.specs.declared.Fault.TheVariants.{BadLength, BadRow}
use Rattle.table_rules.specs.Rules.{depth_rule, kind_rule, sized}

-- siblings ascend strictly by name: of the rows before one of depth d and name n, the nearest first, a deeper one is
-- inside the sibling before it, and one less deep is its folder
unfoldable pub ascends : ℕ → Name → List Row → Bool
ascends d n [] = true
ascends d n (p ∷ ps) = by_order (compare (depth p) d) true (by_order (cmp (name p) n) true false false) (ascends d n ps)

-- row r may follow the rows ps, the nearest first; where there is none, r is row 0: a folder of depth 0 with an all-zero name
unfoldable pub ok_row : List Row → Row → Bool
ok_row [] r = zeros r
ok_row (p ∷ ps) r = depth_rule p r && good_name (name r) && kind_rule r && ascends (depth r) (name r) (p ∷ ps)

-- of the rows rs, which follow the rows ps, how many come before the lowest that may not follow those before it
unfoldable pub lead : List Row → List Row → ℕ
lead ps [] = 0
lead ps (r ∷ rs) = cond (ok_row ps r) (suc (lead (r ∷ ps) rs)) 0

-- the length first, then the lowest row that breaks the rules, of a pair the later
unfoldable pub checked : List ℕ → Option Fault
checked w = cond (sized w) (option_map BadRow (cond (ltb (lead [] (rows w)) (length w / 20)) (Some (lead [] (rows w))) None)) (Some BadLength)

-- The row rules where names are matched by a key: what a check of a table finds for numbers 1 and 2, and for number 16.
use Rattle.std.specs.Prelude.{◌≡◌, List, [], ◌∷◌, Bool, true, false, cond, ◌&&◌, not, ltb, length, Option, Some, None, option_map}
use Prim.Native.Nat.{ℕ, suc, ◌/◌, compare}
use Rattle.tree.specs.Name.{Name, cmp, by_order}
use Rattle.tree.specs.Rules.{zeros, good_name}
use Rattle.tree.specs.declared.Profile.{Profile}
use Rattle.tree.specs.declared.Profile.TheVariants.{Exact, Folded}
use Rattle.tree.specs.Key.{key}
use Rattle.std.specs.declared.cmp.Ordering.{Ordering as Order}
use Rattle.std.specs.declared.cmp.Ordering.TheVariants.{Less, Equal, Greater}
use Rattle.table_row.specs.Order.{ordered}
use Rattle.table_row.specs.Table.{Row, rows, depth, name}
use Rattle.table_rules.specs.declared.Fault.{Fault}
use Rattle.table_rules.specs.declared.Fault.TheVariants.{BadLength, BadRow}
use Rattle.table_rules.specs.Rules.{depth_rule, kind_rule, sized}

-- how the sibling before a row of depth d and name n stands to it, by their keys; less where there is none. Of the rows
-- before, the nearest first, a deeper one is inside that sibling, and one less deep is the folder
unfoldable pub sibling : Profile → ℕ → Name → List Row → Order
sibling p d n [] = Less
sibling p d n (q ∷ ps) = by_order (compare (depth q) d) Less (ordered (cmp (key p (name q)) (key p n))) (sibling p d n ps)

-- siblings ascend by key. Two of one key are number 2 where every byte counts; where letter case is ignored they are number 16
abbrev pub in_order : Profile → Order → Bool
in_order p Less = true
in_order Exact Equal = false
in_order Folded Equal = true
in_order p Greater = false

-- row r may follow the rows ps, the nearest first, as far as number 2 goes; where there is none, r is row 0: a folder of
-- depth 0 with an all-zero name
unfoldable pub ok_row_in : Profile → List Row → Row → Bool
ok_row_in p [] r = zeros r
ok_row_in p (q ∷ ps) r = depth_rule q r && good_name (name r) && kind_rule r && in_order p (sibling p (depth r) (name r) (q ∷ ps))

abbrev pub is_same : Order → Bool
is_same Less = false
is_same Equal = true
is_same Greater = false

-- the sibling before has another key
abbrev pub no_twin : Profile → List Row → Row → Bool
no_twin p ps r = not (is_same (sibling p (depth r) (name r) ps))

-- of the rows rs, which follow the rows ps, how many come before the lowest that fails a test
unfoldable pub lead_by : (List Row → Row → Bool) → List Row → List Row → ℕ
lead_by t ps [] = 0
lead_by t ps (r ∷ rs) = cond (t ps r) (suc (lead_by t (r ∷ ps) rs)) 0

-- the lowest row of a table that fails a test
unfoldable pub lowest : (List Row → Row → Bool) → List ℕ → Option ℕ
lowest t w = cond (ltb (lead_by t [] (rows w)) (length w / 20)) (Some (lead_by t [] (rows w))) None

-- numbers 1 and 2: the length first, then the lowest row that breaks the rules, of a pair the later
unfoldable pub checked_in : Profile → List ℕ → Option Fault
checked_in p w = cond (sized w) (option_map BadRow (lowest (ok_row_in p) w)) (Some BadLength)

-- number 16, asked after 1 and 2 of all the call's tables: the second of two siblings that are equal after folding. Where
-- every byte counts it is never due
unfoldable pub twins : Profile → List ℕ → Option ℕ
twins Exact w = None
twins Folded w = lowest (no_twin Folded) w

-- a table of which none of 1, 2 and 16 is due
pub record Passes (p : Profile) (w : List ℕ) : Type 0 where
  pub checked-fine : checked_in p w ≡ None
  pub no-twins : twins p w ≡ None

-- Where every byte counts, the check is the one of names as they are.
use mathlib.Core.Path.{◌≡◌, refl}
use mathlib.Core.List.{List, [], ◌∷◌}
use mathlib.Core.Bool.{true, false}
use Prim.Native.Nat.{ℕ, compare, Ordering}
use Rattle.tree.specs.Name.{Name, cmp, by_order}
use Rattle.tree.specs.declared.Profile.TheVariants.{Exact}
use Rattle.tree.specs.Key.{key}
use Rattle.std.specs.declared.cmp.Ordering.TheVariants.{Less}
use Rattle.table_row.specs.Order.{ordered}
use Rattle.table_row.specs.Table.{Row, rows, depth, name}
use Rattle.table_rules.proofs.Plain.{ascends, ok_row, lead, checked}
use Rattle.table_rules.specs.Keyed.{sibling, in_order, ok_row_in, lead_by, lowest, checked_in}

ascends-exact : (d : ℕ) (n : Name) (ps : List Row) → in_order Exact (sibling Exact d n ps) ≡ ascends d n ps
unfolding sibling ascends key
ascends-exact d n [] = refl
ascends-exact d n (q ∷ ps) = go (compare (depth q) d) (cmp (name q) n) (ascends-exact d n ps)
  where
    go : (w o : Ordering) → in_order Exact (sibling Exact d n ps) ≡ ascends d n ps → in_order Exact (by_order w Less (ordered o) (sibling Exact d n ps)) ≡ by_order w true (by_order o true false false) (ascends d n ps)
    go Ordering.lt o e = refl
    go Ordering.eq Ordering.lt e = refl
    go Ordering.eq Ordering.eq e = refl
    go Ordering.eq Ordering.gt e = refl
    go Ordering.gt o e = e

ok-exact : (ps : List Row) (r : Row) → ok_row_in Exact ps r ≡ ok_row ps r
unfolding ok_row_in ok_row
ok-exact [] r = refl
ok-exact (q ∷ ps) r = rw (ascends-exact (depth r) (name r) (q ∷ ps))

lead-exact : (ps rs : List Row) → lead_by (ok_row_in Exact) ps rs ≡ lead ps rs
unfolding lead_by lead
lead-exact ps [] = refl
lead-exact ps (r ∷ rs) = rw (ok-exact ps r, lead-exact (r ∷ ps) rs)

pub checked-exact : (w : List ℕ) → checked_in Exact w ≡ checked w
unfolding checked_in checked lowest
checked-exact w = rw (lead-exact [] (rows w))

-- What one pass over a table sees: how each row follows those before it, and what is wrong with the whole.
use Rattle.std.specs.Prelude.{◌≡◌, List, cond, ℕ, None, option_map}
use Rattle.tree.specs.declared.Profile.{Profile}
use Rattle.tree.specs.declared.Profile.TheVariants.{Exact, Folded}
use Rattle.std.specs.declared.cmp.Ordering.{Ordering as Order}
use Rattle.std.specs.declared.cmp.Ordering.TheVariants.{Less, Equal, Greater}
use Rattle.table_row.specs.Table.{Row}
use Rattle.table_rules.specs.declared.Fault.TheVariants.{BadRow}
use Rattle.table_rules.specs.declared.Fit.{Fit}
use Rattle.table_rules.specs.declared.Fit.TheVariants.{Good, Twin, Bad}
use Rattle.table_rules.specs.declared.Seen.{Seen}
use Rattle.table_rules.specs.Keyed.{ok_row_in, no_twin, lowest, checked_in, twins}

-- after a sibling that stands so to a row, as far as the two go
abbrev pub fit_after : Profile → Order → Fit
fit_after p Less = Good
fit_after Exact Equal = Bad
fit_after Folded Equal = Twin
fit_after p Greater = Bad

-- after all the rows before
abbrev pub fit_of : Profile → List Row → Row → Fit
fit_of p ps r = cond (ok_row_in p ps r) (cond (no_twin p ps r) Good Twin) Bad

-- number 16 is asked only where no row breaks the rules
pub record SeesRows (p : Profile) (w : List ℕ) (s : Seen) : Type 0 where
  pub lowest-bad : s.rows ≡ option_map BadRow (lowest (ok_row_in p) w)
  pub lowest-twin : s.rows ≡ None → s.twins ≡ lowest (no_twin p) w

pub record Sees (p : Profile) (w : List ℕ) (s : Seen) : Type 0 where
  pub seen-rows : s.rows ≡ checked_in p w
  pub seen-twins : checked_in p w ≡ None → s.twins ≡ twins p w

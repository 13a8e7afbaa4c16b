-- The examples of siblings, by computing.
use mathlib.Core.Path.{refl}
use Rattle.tree.specs.Name.{cmp}
use Rattle.tree.specs.Rules.{bytes, zeros, zero_filled, good_name}
use Rattle.tree.specs.Key.{lower, lower_word, key}
use Rattle.table_row.specs.Table.{rows_n, flat}
use Rattle.table_rules.specs.Rules.{depth_rule, kind_rule, sized}
use Rattle.table_rules.specs.Keyed.{sibling, ok_row_in, lead_by, lowest, checked_in, twins}
use Rattle.table_rules.specs.Faults.{first_refusal}
use Rattle.table_rules.specs.Contract.{check_due}
use Rattle.table_rules.specs.Examples.{PairsHold}

pub pairs-hold : PairsHold
unfolding cmp bytes zeros zero_filled good_name lower lower_word key rows_n flat depth_rule kind_rule sized sibling ok_row_in lead_by lowest checked_in twins first_refusal check_due
pairs-hold = (refl, refl)

-- C12 and C13 print what document 01 says, by computation.
use mathlib.Core.Path.{refl}
use Rattle.tree.specs.Name.{cmp}
use Rattle.tree.specs.Forest.{find}
use Rattle.tree.specs.Rules.{bytes}
use Rattle.tree.specs.Same.{same_words, same_forest, same_node}
use Rattle.settle.specs.Decision.{decide}
use Rattle.settle.specs.Names.{insert, into, names}
use Rattle.settle.specs.Plan.{plan_over, settle_in, plan}
use Rattle.settle.specs.Results.{list}
use Rattle.plan.specs.Items.{kind}
use Rattle.plan_tally.specs.Count.{tally_of}
use Rattle.listing.specs.Writing.{as_it_is, spell_byte, spell, decimal}
use Rattle.plan_text.specs.Text.{mark, marked, names_text, path_text, lines_text, counts_text, plan_text}
use Rattle.plan_text.specs.Cases.{PrintedAsDocumented}

pub printed-as-documented : PrintedAsDocumented
unfolding
    list plan decide same_node same_forest same_words plan_over settle_in names into insert find cmp bytes kind tally_of as_it_is spell_byte spell decimal mark marked names_text path_text lines_text counts_text plan_text
printed-as-documented = refl

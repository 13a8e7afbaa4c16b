-- `plan_text_put::put_plan` meets its contract: the entries, then the counts.
use Rattle.std.proofs.Common.{rules, ◌^◌}
use Rattle.listing_spell.proofs.Poured.{rest-all, rest_less, rest-last}
use Rattle.plan_text.specs.Words.{plan_bytes}
use Rattle.plan_text_put.proofs.put_plan.Goals as goal

pub returns : goal.returns
unfolding plan_bytes
returns c =
    rest-last (2 ^ 36) (rest_less _ (rest-all _ _) c.put_entries.ensures) c.put_counts.ensures (search rules)

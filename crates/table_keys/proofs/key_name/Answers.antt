-- `table_keys::key_name` meets its contract, profile by profile.
use Rattle.std.proofs.Common.{rules}
use native.Mathlib.Omega.{arith}
use Rattle.tree.specs.Key.{key, lower_word}
use Rattle.table_keys.proofs.Words.{by-places}
use Rattle.table_keys.proofs.key_name.Goals as goal

pub returns-in-Exact : goal.returns-in-Exact
unfolding key
returns-in-Exact c = rw c.in-Exact.is

pub returns-in-Folded : goal.returns-in-Folded
unfolding key
returns-in-Folded c =
    let m = c.map.ensures.items in
    rw c.in-Folded.is
    (by-places lower_word c.args.n c.map.result (omega (arith, m.long, c.well_formed)) (λ i h. let z = m.at i 0 0 (omega (arith, h, c.well_formed)) in search (rules, z.2.met)))

-- `table_path::key_names` meets its contract: each name is its key.
use Rattle.std.proofs.Common.{[], rules}
use native.Mathlib.Omega.{arith}
use Rattle.tree.specs.declared.Profile.TheVariants.{Folded}
use Rattle.table_moved.proofs.Names.{all-keys}
use Rattle.table_path.proofs.key_names.Goals as goal

pub returns : goal.returns
returns c =
    let m = c.map.ensures.items in
    all-keys Folded c.args.names c.map.result (omega (arith, m.long, c.well_formed)) (λ i h. let z = m.at i [] [] (omega (arith, h, c.well_formed)) in search (rules, z.2.met))

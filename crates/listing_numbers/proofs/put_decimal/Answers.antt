-- `listing_numbers::put_decimal` meets its contract: the digits that were filled in, at most twenty.
use mathlib.Core.Path.{◌≡◌, ap, ◌∙◌}
use mathlib.Core.List.{[]}
use native.Mathlib.Omega.{arith}
use lib.ListN.{length, drop, take, length-drop}
use lib.Seq.{take_all}
use Prim.Native.Nat.{◌-◌}
use Rattle.listing.specs.Writing.{decimal}
use Rattle.listing_spell.proofs.Poured.{wrote-within}
use Rattle.listing_numbers.proofs.put_decimal.Goals as goal

pub returns : goal.returns
returns c =
    let f = c.fill_digits-first in
    let n = c.args.n in
    let d = f.new.digits in
    let l = length-drop f.result d in
    let e : take (20 - f.result) (drop f.result d) ≡ decimal 20 n [] =
    take_all (20 - f.result) (drop f.result d) (omega (arith, l, f.ensures.1)) ∙ f.ensures.2 in
    wrote-within 20 (omega (arith, l, ap length f.ensures.2, f.ensures.1)) (rw e at c.put_all.ensures)

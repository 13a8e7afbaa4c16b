-- `line_ends` meets its contract: no LF is passed, and the rest are counted.
use mathlib.Core.Path.{sym, ◌∙◌}
use lib.ListN.{length, drop, length-drop}
use lib.Seq.{take_all}
use native.Mathlib.Omega.{arith}
use Prim.Native.Nat.{◌-◌, ◌≤◌}
use Rattle.listing_scan.proofs.Scan.{ends-count}
use Rattle.listing_scan.proofs.Plain.{ends-past}
use Rattle.std.specs.Bool.{◌==◌}
use Rattle.std.proofs.lemmas.List.Sums.{count_by-le-length}
use Rattle.listing_scan.proofs.line_ends.Goals as goal

pub returns : goal.returns
returns c =
    let t = c.args.part.now in
    let r = c.past_sixteens.result in
    let long : length (drop r t) ≤ length t - r = rw length-drop (omega arith) in
    let e = rw (take_all (length t - r) (drop r t) long) at c.count_lf.ensures in
    let n = rw length-drop at (count_by-le-length (λ b. b == 10) (drop r t)) in
    record { is = e ∙ sym (ends-past c.past_sixteens.ensures ∙ ends-count (drop r t)); fits = rw e (omega arith) }

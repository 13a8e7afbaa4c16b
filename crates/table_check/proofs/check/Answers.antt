-- `table_check::check` meets its contract: the length first, then the rows.
use Rattle.std.proofs.Common.{Some, None}
use mathlib.Core.Path.{◌≡◌, sym, ◌∙◌}
use native.Mathlib.Omega.{arith}
use Rattle.tree.proofs.Never.{never}
use Rattle.table_rules.specs.declared.Fault.TheVariants.{BadLength}
use Rattle.table_rules.proofs.Rows.{checked-length, checked-lowest}
use Rattle.table_rules.proofs.Keyed.{sized-parts, none-mapped, twins-lowest}
use Rattle.table_check.proofs.check.Goals as goal

pub check_rows-requires : goal.check_rows-requires
check_rows-requires c =
    omega (arith, (sized-parts c.args.profile c.args.t.now (sym c.is_sized.ensures ∙ c.if-is_sized.true)).some)

pub returns-then-is_sized : goal.returns-then-is_sized
returns-then-is_sized c =
    let a = c.args in
    let w = a.t.now in
    let e = checked-lowest a.profile w (sym c.is_sized.ensures ∙ c.if-is_sized.true) in
    let r = c.check_rows.ensures in
    record {
      seen-rows = r.lowest-bad ∙ sym e;
      seen-twins = λ f. r.lowest-twin (r.lowest-bad ∙ sym e ∙ f) ∙ twins-lowest a.profile w (none-mapped _ (sym e ∙ f));
    }

pub returns : goal.returns
returns c =
    let a = c.args in
    let e = checked-length a.profile a.t.now (sym c.is_sized.ensures ∙ c.if-is_sized.false) in
    record { seen-rows = sym e; seen-twins = λ f. let n : Some BadLength ≡ None = sym e ∙ f in never (cc) }

-- `table_check::check_rows` meets its contract: row 0 first, then the rows after it.
use Rattle.std.proofs.Common.{Some, None}
use mathlib.Core.Path.{◌≡◌, sym, ◌∙◌}
use lib.Seq.{length-take-le}
use Rattle.tree.proofs.Never.{never}
use Rattle.table_rules.specs.declared.Fault.TheVariants.{BadRow}
use Rattle.table_check.proofs.Last.{root-fails}
use Rattle.table_check.proofs.check_rows.Goals as goal

pub slice_bounds-all_zero-end : goal.slice_bounds-all_zero-end
slice_bounds-all_zero-end c = sym (length-take-le 20 c.args.t.now c.requires)

pub check_entries-requires : goal.check_entries-requires
check_entries-requires c = (c.requires, sym c.all_zero.ensures ∙ c.if-all_zero.true)

pub returns : goal.returns
returns c =
    record {
      lowest-bad = rw (root-fails c.args.profile c.args.t.now c.requires (sym c.all_zero.ensures ∙ c.if-all_zero.false));
      lowest-twin = λ g. let n : Some (BadRow 0) ≡ None = g in never (cc);
    }

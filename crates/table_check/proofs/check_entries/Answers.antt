-- `table_check::check_entries` meets its contract: the rows before row i are good, the lowest twin among them is told, and the
-- last row of each depth is remembered.
use Rattle.std.proofs.Common.{Some, None}
use mathlib.Core.Path.{◌≡◌, sym, ◌∙◌}
use mathlib.Core.Bool.{true}
use native.Mathlib.Omega.{arith}
use borrow.Author.Rules.{rules}
use Rattle.tree.proofs.Never.{never}
use Rattle.table_row.specs.Table.{row_at, depth}
use Rattle.table_rules.specs.Rules.{before}
use Rattle.table_rules.specs.Keyed.{ok_row_in, no_twin}
use Rattle.table_rules.specs.declared.Fault.TheVariants.{BadRow}
use Rattle.table_rules.proofs.Rows.{passed-next, lowest-row, lowest-fine, fit-good, fit-twin, fit-bad, told-next, told-row, told-all}
use Rattle.table_check.proofs.Last.{depth-most, lasts-first, lasts-next, root-passes, ok-depth}
use Rattle.table_check.proofs.check_entries.Goals as goal
use Rattle.table_check.proofs.check_entries.Goals.{in-Good, in-Twin}

pub loop-i-init : goal.loop-i-init
loop-i-init c =
    let a = c.args in
    let r = root-passes a.profile a.t.now c.requires.0 c.requires.1 in
    (search rules, search rules, lasts-first a.profile a.t.now c.requires.0 c.requires.1, r.0, r.1)

pub row_fit-requires : goal.row_fit-requires
row_fit-requires c = record { i_in_bounds = (search rules, search rules); lasts = c.loop-i.invariant.2 }

pub returns-in-Bad : goal.returns-in-Bad
returns-in-Bad c =
    let a = c.args in
    let w = a.t.now in
    let i = c.loop-i.i in
    let b = fit-bad a.profile _ _ (sym c.row_fit.ensures ∙ c.in-Bad.is) in
    let e = lowest-row (ok_row_in a.profile) w i (search rules) b c.loop-i.invariant.3 in
    record { lowest-bad = rw e; lowest-twin = λ g. let n : Some (BadRow i) ≡ None = g in never (cc) }

pub remember-requires : goal.remember-requires
remember-requires c =
    let a = c.args in
    let good : ok_row_in a.profile (before a.t.now c.loop-i.i) (row_at a.t.now c.loop-i.i) ≡ true =
    elim c.match-row_fit.branch [
      | in-Good z ↦ (fit-good _ _ _ (sym c.row_fit.ensures ∙ z.in-Good.is)).0
      | in-Twin z ↦ (fit-twin _ _ _ (sym c.row_fit.ensures ∙ z.in-Twin.is)).0
    ] in
    let is-depth : c.wide.result ≡ depth (row_at a.t.now c.loop-i.i) = c.wide.ensures.0 ∙ c.word.ensures in
    omega (arith, is-depth, (depth-most _ _ (ok-depth a.profile a.t.now c.loop-i.i c.loop-i.invariant.0 good)).0)

pub loop-i-preserved : goal.loop-i-preserved
loop-i-preserved c =
    let a = c.args in
    let good : ok_row_in a.profile (before a.t.now c.loop-i.i) (row_at a.t.now c.loop-i.i) ≡ true =
    elim c.match-row_fit.branch [
      | in-Good z ↦ (fit-good _ _ _ (sym c.row_fit.ensures ∙ z.in-Good.is)).0
      | in-Twin z ↦ (fit-twin _ _ _ (sym c.row_fit.ensures ∙ z.in-Twin.is)).0
    ] in
    let is-depth : c.wide.result ≡ depth (row_at a.t.now c.loop-i.i) = c.wide.ensures.0 ∙ c.word.ensures in
    let w = a.t.now in
    let i = c.loop-i.i in
    let p = a.profile in
    let fit = sym c.row_fit.ensures in (
      search rules,
      search rules,
      rw (c.remember.ensures, is-depth) (lasts-next p w i c.loop-i.last c.requires.0 c.loop-i.invariant.0 (ok-depth p w i c.loop-i.invariant.0 good) c.loop-i.invariant.2),
      passed-next (ok_row_in p) w i (search rules) good c.loop-i.invariant.3,
      elim c.match-row_fit.branch [
        | in-Good z ↦ rw z.twins-is (told-next (no_twin p) w i (search rules) c.loop-i.twins (fit-good p _ _ (fit ∙ z.in-Good.is)).1 c.loop-i.invariant.4)
        | in-Twin z ↦ rw (z.twins-is, z.or-twins.ensures) (told-row (no_twin p) w i (search rules) c.loop-i.twins (fit-twin p _ _ (fit ∙ z.in-Twin.is)).1 c.loop-i.invariant.4)
      ],
    )

pub returns : goal.returns
returns c =
    let a = c.args in
    let w = a.t.now in
    let i = c.loop-i.i in
    record {
      lowest-bad = rw (lowest-fine (ok_row_in a.profile) w i (search rules) c.loop-i.invariant.3);
      lowest-twin = λ g. told-all (no_twin a.profile) w i (search rules) c.loop-i.twins c.loop-i.invariant.4;
    }

-- A table whose siblings ascend as they are named: what the check without keys finds, and that a well-formed tree's is one.
use Rattle.std.proofs.Common.{Some, None, option_map}
use mathlib.Core.Path.{◌≡◌, refl}
use mathlib.Core.List.{List, []}
use mathlib.Core.Bool.{Bool, true, false, cond, ◌&&◌}
use native.Mathlib.Omega.{arith}
use lib.Dec.{eqb, leb, ltb}
use lib.ListN.{length}
use Prim.Native.Nat.{ℕ, suc, ◌/◌, ◌%◌, ◌≤◌}
use borrow.Author.Tests.{eqb-true, leb-true, ltb-false, le-ltb}
use Rattle.tree.specs.Forest.{Forest, size}
use Rattle.tree.specs.Rules.{WellFormed}
use Rattle.table_row.specs.Table.{rows}
use Rattle.table_row.specs.Tree.{table}
use Rattle.tree.proofs.Same.{and-true}
use Rattle.table_row.proofs.Table.{length-rows_n}
use Rattle.table_row.proofs.Tree.{length-table, rows-table}
use Rattle.table_rules.specs.declared.Fault.TheVariants.{BadLength, BadRow}
use Rattle.table_rules.specs.Rules.{sized}
use Rattle.table_rules.proofs.Plain.{lead, checked}
use Rattle.table_rules.proofs.Rows.{sized-true}
use Rattle.table_rules.proofs.Good.{Good, lead-good, good-lead}
use Rattle.table_rules.proofs.Trees.{table-good}

-- whole rows, 1 to 4,096, each of which may follow those before it
pub record Sound (w : List ℕ) : Type 0 where
  pub whole : length w % 20 ≡ 0
  pub some : 1 ≤ length w / 20
  pub most : length w / 20 ≤ 4096
  pub good : Good [] (rows w)

pub fine-sound : (w : List ℕ) → checked w ≡ None → Sound w
unfolding checked sized
fine-sound w = go (sized w) refl (ltb (lead [] (rows w)) (length w / 20)) refl
  where
    go : (s : Bool) → sized w ≡ s → (l : Bool) → ltb (lead [] (rows w)) (length w / 20) ≡ l → cond s (option_map BadRow (cond l (Some (lead [] (rows w))) None)) (Some BadLength) ≡ None → Sound w
    go true e true f h = absurd (let z : ◌≡◌ {A = ℕ} 0 1 = cc in omega arith)
    go true e false f h =
        let a = and-true (eqb (length w % 20) 0 && leb 1 (length w / 20)) (leb (length w / 20) 4096) e in
        let b = and-true (eqb (length w % 20) 0) (leb 1 (length w / 20)) a.0 in
        record {
          whole = eqb-true _ _ b.0;
          some = leb-true _ _ b.1;
          most = leb-true _ _ a.1;
          good = lead-good [] (rows w) (rw length-rows_n (ltb-false _ _ f));
        }
    go false e l f h = absurd (let z : ◌≡◌ {A = ℕ} 0 1 = cc in omega arith)

pub sound-fine : (w : List ℕ) → Sound w → checked w ≡ None
unfolding checked
sound-fine w S = rw (sized-true w S.whole S.some S.most, good-lead [] (rows w) S.good, length-rows_n, le-ltb (length w / 20) (length w / 20) (omega arith))

-- the table of a well-formed tree is fine
pub table-fine : (f : Forest) → WellFormed f → suc (size f) ≤ 4096 → checked (table f) ≡ None
table-fine f W h =
    let n = length-table f W.within in
    sound-fine (table f) (record { whole = omega arith; some = omega arith; most = omega arith; good = rw (rows-table f W.within) (table-good f W) })

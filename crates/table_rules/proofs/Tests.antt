-- A test of each row by the rows before it: the lowest row that fails, and that none does.
use Rattle.std.proofs.Common.{Some, None}
use mathlib.Core.Path.{◌≡◌, refl, ap}
use mathlib.Core.List.{List, [], ◌∷◌}
use mathlib.Core.Bool.{Bool, true, false, cond}
use native.Mathlib.Omega.{arith}
use lib.Dec.{ltb}
use lib.ListN.{length}
use Prim.Native.Nat.{ℕ, suc, ◌/◌, ◌≤◌}
use borrow.Author.Tests.{ltb-false, le-ltb}
use Rattle.tree.proofs.Never.{never}
use Rattle.table_row.specs.Table.{Row, rows}
use Rattle.table_row.proofs.Table.{length-rows_n}
use Rattle.table_rules.specs.Keyed.{lead_by, lowest}

-- every row passes a test
unfoldable pub AllBy : (List Row → Row → Bool) → List Row → List Row → Type 0
AllBy t ps [] = Unit {0}
AllBy t ps (r ∷ rs) = (t ps r ≡ true) × AllBy t (r ∷ ps) rs

lead-all : (t : List Row → Row → Bool) (ps rs : List Row) → length rs ≤ lead_by t ps rs → AllBy t ps rs
unfolding AllBy lead_by
lead-all t ps [] h = tt
lead-all t ps (r ∷ rs) h = go (t ps r) h (lead-all t (r ∷ ps) rs)
  where
    go : (b : Bool) → suc (length rs) ≤ cond b (suc (lead_by t (r ∷ ps) rs)) 0 → (length rs ≤ lead_by t (r ∷ ps) rs → AllBy t (r ∷ ps) rs) → (b ≡ true) × AllBy t (r ∷ ps) rs
    go true h ih = (refl, ih (omega arith))
    go false h ih = absurd (omega arith)

all-lead : (t : List Row → Row → Bool) (ps rs : List Row) → AllBy t ps rs → lead_by t ps rs ≡ length rs
unfolding AllBy lead_by
all-lead t ps [] g = refl
all-lead t ps (r ∷ rs) g = rw g.0 (ap suc (all-lead t (r ∷ ps) rs g.1))

pub lowest-all : (t : List Row → Row → Bool) (w : List ℕ) → lowest t w ≡ None → AllBy t [] (rows w)
unfolding lowest
lowest-all t w = go (ltb (lead_by t [] (rows w)) (length w / 20)) refl
  where
    go : (l : Bool) → ltb (lead_by t [] (rows w)) (length w / 20) ≡ l → cond l (Some (lead_by t [] (rows w))) None ≡ None → AllBy t [] (rows w)
    go true f h = never (cc)
    go false f h = lead-all t [] (rows w) (rw length-rows_n (ltb-false _ _ f))

pub all-lowest : (t : List Row → Row → Bool) (w : List ℕ) → AllBy t [] (rows w) → lowest t w ≡ None
unfolding lowest
all-lowest t w g = rw (all-lead t [] (rows w) g, length-rows_n, le-ltb (length w / 20) (length w / 20) (omega arith))

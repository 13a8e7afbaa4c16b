-- Rows each of which may follow those before it: what the rules say of them one by one.
use mathlib.Core.Path.{◌≡◌, refl, ap}
use mathlib.Core.List.{List, [], ◌∷◌, ◌++◌, reverse_aux}
use mathlib.Core.Bool.{Bool, true, false, cond, ◌&&◌}
use native.Mathlib.Omega.{arith}
use lib.Dec.{leb, eqb}
use lib.ListN.{length, drop}
use Prim.Native.Nat.{suc, ◌≤◌}
use borrow.Author.Tests.{eqb-true, le-leb, leb-true}
use Rattle.tree.specs.Rules.{zeros, good_name}
use Rattle.table_row.specs.Table.{Row, depth, kind, name}
use Rattle.tree.proofs.Same.{and-true}
use Rattle.table_row.proofs.Fits.{Formed}
use Rattle.table_rules.specs.Rules.{deepest, depth_rule, kind_rule}
use Rattle.table_rules.proofs.Plain.{ascends, ok_row, lead}

-- rows that follow the rows ps, the nearest first
unfoldable pub Good : List Row → List Row → Type 0
Good ps [] = Unit {0}
Good ps (r ∷ rs) = (ok_row ps r ≡ true) × Good (r ∷ ps) rs

-- no row is the lowest broken one
pub lead-good : (ps rs : List Row) → length rs ≤ lead ps rs → Good ps rs
unfolding Good lead
lead-good ps [] h = tt
lead-good ps (r ∷ rs) h = go (ok_row ps r) h (lead-good (r ∷ ps) rs)
  where
    go : (b : Bool) → suc (length rs) ≤ cond b (suc (lead (r ∷ ps) rs)) 0 → (length rs ≤ lead (r ∷ ps) rs → Good (r ∷ ps) rs) → (b ≡ true) × Good (r ∷ ps) rs
    go true h ih = (refl, ih (omega arith))
    go false h ih = absurd (omega arith)

pub good-lead : (ps rs : List Row) → Good ps rs → lead ps rs ≡ length rs
unfolding Good lead
good-lead ps [] g = refl
good-lead ps (r ∷ rs) g = rw g.0 (ap suc (good-lead (r ∷ ps) rs g.1))

pub good-append : (ps rs qs : List Row) → Good ps rs → Good (reverse_aux rs ps) qs → Good ps (rs ++ qs)
unfolding Good
good-append ps [] qs g h = h
good-append ps (r ∷ rs) qs g h = (g.0, good-append (r ∷ ps) rs qs g.1 h)

-- the rules for a row other than the first, one by one
pub record Follows (p : Row) (ps : List Row) (r : Row) : Type 0 where
  pub low : 1 ≤ depth r
  pub high : depth r ≤ 16
  pub step : depth r ≤ deepest p
  pub named : good_name (name r) ≡ true
  pub kinds : kind_rule r ≡ true
  pub order : ascends (depth r) (name r) (p ∷ ps) ≡ true

pub ok-follows : (p : Row) (ps : List Row) (r : Row) → ok_row (p ∷ ps) r ≡ true → Follows p ps r
unfolding ok_row depth_rule
ok-follows p ps r e =
    let a = and-true (depth_rule p r && good_name (name r) && kind_rule r) (ascends (depth r) (name r) (p ∷ ps)) e in
    let b = and-true (depth_rule p r && good_name (name r)) (kind_rule r) a.0 in
    let c = and-true (depth_rule p r) (good_name (name r)) b.0 in
    let d = and-true (leb 1 (depth r) && leb (depth r) 16) (leb (depth r) (deepest p)) c.0 in
    let f = and-true (leb 1 (depth r)) (leb (depth r) 16) d.0 in
    record { low = leb-true _ _ f.0; high = leb-true _ _ f.1; step = leb-true _ _ d.1; named = c.1; kinds = b.1; order = a.1 }

pub follows-ok : (p : Row) (ps : List Row) (r : Row) → Follows p ps r → ok_row (p ∷ ps) r ≡ true
unfolding ok_row depth_rule
follows-ok p ps r F = rw (le-leb _ _ F.low, le-leb _ _ F.high, le-leb _ _ F.step, F.named, F.kinds, F.order)

-- a row of a good kind has the form of a tree's row
pub rule-formed : (r : Row) → length r ≡ 20 → kind_rule r ≡ true → Formed r
unfolding kind_rule
rule-formed r h e = go (eqb (kind r) 0) refl e
  where
    go : (b : Bool) → eqb (kind r) 0 ≡ b → cond b (zeros (drop 10 r)) (eqb (kind r) 1) ≡ true → Formed r
    go true z e = let q = eqb-true (kind r) 0 z in record { twenty = h; kinds = omega arith; zeroed = λ x. e }
    go false z e = let q = eqb-true (kind r) 1 e in record { twenty = h; kinds = omega arith; zeroed = λ x. absurd (omega arith) }

-- The row rules in the words that the code reads: the row before, the sibling before, the lowest broken row.
use Rattle.std.proofs.Common.{Option, Some, None, option_map}
use mathlib.Core.Path.{◌≡◌, refl, sym, ◌∙◌}
use mathlib.Core.List.{List, []}
use mathlib.Core.Bool.{Bool, true, false, cond, not, ◌&&◌}
use native.Mathlib.Omega.{arith}
use native.Mathlib.Nat.{not-suc-le-zero, add-zero, zero-add}
use native.Mathlib.Numerals.{add-one, sub-one}
use lib.Dec.{leb}
use lib.ListN.{length, drop}
use Prim.Native.Nat.{ℕ, zero, suc, ◌+◌, ◌-◌, ◌/◌, ◌%◌, ◌≤◌, ◌<◌}
use borrow.Author.Tests.{eq-eqb, ne_eqb, lt-ltb, le-ltb, le-leb, lt-leb, leb-true, leb-false}
use Rattle.tree.specs.declared.Profile.{Profile}
use Rattle.tree.specs.declared.Profile.TheVariants.{Exact, Folded}
use Rattle.tree.specs.Rules.{zeros, good_name}
use Rattle.table_row.specs.Table.{Row, row_at, rows, depth, kind, name}
use Rattle.std.specs.declared.cmp.Ordering.{Ordering as Order}
use Rattle.std.specs.declared.cmp.Ordering.TheVariants.{Less, Equal, Greater}
use Rattle.tree.proofs.Never.{never}
use Rattle.table_row.proofs.Table.{rows-cons, rows-nil}
use Rattle.table_rules.specs.Rules.{depth_rule, kind_rule, sized, before}
use Rattle.table_rules.specs.Keyed.{sibling, in_order, ok_row_in, is_same, no_twin, lead_by, lowest, checked_in}
use Rattle.table_rules.specs.declared.Fault.TheVariants.{BadLength, BadRow}
use Rattle.table_rules.specs.declared.Fit.{Fit}
use Rattle.table_rules.specs.declared.Fit.TheVariants.{Good, Twin, Bad}
use Rattle.table_rules.specs.Seen.{fit_after, fit_of}
use Rattle.std.specs.Option.{option_or}

leb-down : (d e : ℕ) → 1 ≤ d → leb (d - 1) e ≡ leb d (e + 1)
leb-down d e h = go (leb d (e + 1)) refl
  where
    go : (b : Bool) → leb d (e + 1) ≡ b → leb (d - 1) e ≡ b
    go true p = let q : d ≤ e + 1 = leb-true _ _ p in le-leb (d - 1) e (omega arith)
    go false p = let q : e + 1 < d = leb-false _ _ p in lt-leb (d - 1) e (omega arith)

-- depth d, which is 1 to 16, after a row of depth e and kind k
module _ (p r : Row) {d e k : ℕ} (D : d ≡ depth r) (E : e ≡ depth p) (K : k ≡ kind p) (low : 1 ≤ d) (high : d ≤ 16) where
  pub depth-folder : k ≡ 0 → leb (d - 1) e ≡ depth_rule p r
  unfolding depth_rule
  depth-folder z = rw (← D, ← E, ← K, le-leb _ _ low, le-leb _ _ high, eq-eqb _ _ z) (leb-down d e low)

  pub depth-file : (k ≡ 0 → ⊥) → leb d e ≡ depth_rule p r
  unfolding depth_rule
  depth-file n = rw (← D, ← E, ← K, le-leb _ _ low, le-leb _ _ high, ne_eqb _ _ n)

-- how the sibling before row i stands to it
abbrev pub sibling_at : Profile → List ℕ → ℕ → Order
sibling_at p w i = sibling p (depth (row_at w i)) (name (row_at w i)) (before w i)

-- how a row follows those before it: the rules in turn, and then the sibling before
fit-turns : (p : Profile) (a b c : Bool) (o : Order) → cond (a && b && c && in_order p o) (cond (not (is_same o)) Good Twin) Bad ≡ cond a (cond b (cond c (fit_after p o) Bad) Bad) Bad
fit-turns p false b c o = refl
fit-turns p true false c o = refl
fit-turns p true true false o = refl
fit-turns p true true true Less = refl
fit-turns Exact true true true Equal = refl
fit-turns Folded true true true Equal = refl
fit-turns p true true true Greater = refl

-- row 0, and any other
module _ (p : Profile) (w : List ℕ) where
  pub fit-root : (i : ℕ) → i ≡ 0 → fit_of p (before w i) (row_at w i) ≡ cond (zeros (row_at w i)) Good Bad
  unfolding ok_row_in before sibling
  fit-root i h = rw h

  pub fit_row : (i : ℕ) → 0 < i → fit_of p (before w i) (row_at w i)
      ≡ cond (depth_rule (row_at w (i - 1)) (row_at w i)) (cond (good_name (name (row_at w i))) (cond (kind_rule (row_at w i)) (fit_after p (sibling_at p w i)) Bad) Bad) Bad
  unfolding ok_row_in before
  fit_row zero h = absurd (not-suc-le-zero h)
  fit_row (suc i) h = rw sub-one (fit-turns p (depth_rule (row_at w i) (row_at w (suc i))) (good_name (name (row_at w (suc i)))) (kind_rule (row_at w (suc i))) (sibling_at p w (suc i)))

-- what a row's fit says of the two tests
module _ (p : Profile) (ps : List Row) (r : Row) where
  abbrev Tells : Bool → Bool → Fit → Type 0
  Tells ok other f = (f ≡ Good → (ok ≡ true) × (other ≡ true)) × (f ≡ Twin → (ok ≡ true) × (other ≡ false)) × (f ≡ Bad → ok ≡ false)

  tells : (ok other : Bool) → Tells ok other (cond ok (cond other Good Twin) Bad)
  tells true true = (λ e. (refl, refl), λ e. never (cc), λ e. never (cc))
  tells true false = (λ e. never (cc), λ e. (refl, refl), λ e. never (cc))
  tells false other = (λ e. never (cc), λ e. never (cc), λ e. refl)

  pub fit-good : fit_of p ps r ≡ Good → (ok_row_in p ps r ≡ true) × (no_twin p ps r ≡ true)
  fit-good = (tells (ok_row_in p ps r) (no_twin p ps r)).0

  pub fit-twin : fit_of p ps r ≡ Twin → (ok_row_in p ps r ≡ true) × (no_twin p ps r ≡ false)
  fit-twin = (tells (ok_row_in p ps r) (no_twin p ps r)).1

  pub fit-bad : fit_of p ps r ≡ Bad → ok_row_in p ps r ≡ false
  fit-bad = (tells (ok_row_in p ps r) (no_twin p ps r)).2

-- 20 words times 1 to 4,096
module _ (w : List ℕ) where
  pub sized-odd : (length w % 20 ≡ 0 → ⊥) → sized w ≡ false
  unfolding sized
  sized-odd m = rw (ne_eqb _ _ m)

  pub sized-none : length w % 20 ≡ 0 → length w / 20 < 1 → sized w ≡ false
  unfolding sized
  sized-none m h = rw (eq-eqb _ _ m, lt-leb _ _ h)

  pub sized-true : length w % 20 ≡ 0 → 1 ≤ length w / 20 → length w / 20 ≤ 4096 → sized w ≡ true
  unfolding sized
  sized-true m h g = rw (eq-eqb _ _ m, le-leb _ _ h, le-leb _ _ g)

pub checked-length : (p : Profile) (w : List ℕ) → sized w ≡ false → checked_in p w ≡ Some BadLength
unfolding checked_in
checked-length p w e = rw e

pub checked-lowest : (p : Profile) (w : List ℕ) → sized w ≡ true → checked_in p w ≡ option_map BadRow (lowest (ok_row_in p) w)
unfolding checked_in
checked-lowest p w e = rw e

-- the rows before row i pass a test: the lowest that fails it is i or a later one
module _ (t : List Row → Row → Bool) (w : List ℕ) where
  abbrev pub Passed : ℕ → Type 0
  Passed i = lead_by t [] (rows w) ≡ i + lead_by t (before w i) (drop i (rows w))

  pub passed_none : Passed 0
  unfolding before
  passed_none = sym (zero-add (lead_by t [] (rows w)))

  module _ (i : ℕ) where
    pub passed-next : i < length w / 20 → t (before w i) (row_at w i) ≡ true → Passed i → Passed (i + 1)
    unfolding lead_by before
    passed-next h e p =
        let q : lead_by t (before w i) (drop i (rows w)) ≡ suc (lead_by t (before w (i + 1)) (drop (i + 1) (rows w))) = rw (rows-cons w i h, e, add-one) in
        omega arith

    pub lowest-row : i < length w / 20 → t (before w i) (row_at w i) ≡ false → Passed i → lowest t w ≡ Some i
    unfolding lead_by lowest
    lowest-row h e p =
        let q : lead_by t [] (rows w) ≡ i = p ∙ rw (rows-cons w i h, e, add-zero) in
        rw (q, lt-ltb _ _ h)

    pub lowest-fine : length w / 20 ≤ i → Passed i → lowest t w ≡ None
    unfolding lead_by lowest
    lowest-fine h p =
        let q : lead_by t [] (rows w) ≡ i = p ∙ rw (rows-nil w i h, add-zero) in
        rw (q, le-ltb _ _ h)

-- what is told of the rows before row i: the lowest that fails a test, or that all pass it
module _ (t : List Row → Row → Bool) (w : List ℕ) where
  abbrev pub Told : Option ℕ → ℕ → Type 0
  Told None i = Passed t w i
  Told (Some j) i = lowest t w ≡ Some j

  module _ (i : ℕ) (h : i < length w / 20) where
    pub told-next : (c : Option ℕ) → t (before w i) (row_at w i) ≡ true → Told c i → Told c (i + 1)
    told-next None e g = passed-next t w i h e g
    told-next (Some j) e g = g

    pub told-row : (c : Option ℕ) → t (before w i) (row_at w i) ≡ false → Told c i → Told (option_or c (Some i)) (i + 1)
    told-row None e g = lowest-row t w i h e g
    told-row (Some j) e g = g

  pub told-all : (i : ℕ) → length w / 20 ≤ i → (c : Option ℕ) → Told c i → c ≡ lowest t w
  told-all i h None g = sym (lowest-fine t w i h g)
  told-all i h (Some j) g = sym g

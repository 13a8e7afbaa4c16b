-- None of 1, 2 and 16 is due of a table exactly when neither 1 nor 2 is due, as names are, of its table of keys. What is proved
-- of the rules is used there.
use Rattle.std.proofs.Common.{Option, Some, None, option_map}
use mathlib.Core.Path.{◌≡◌, refl, sym, ap, ◌∙◌}
use mathlib.Core.List.{List, [], ◌∷◌, map}
use mathlib.Core.Bool.{Bool, true, false, cond, ◌&&◌, not}
use native.Mathlib.Omega.{arith}
use lib.Dec.{eqb, leb}
use lib.ListN.{length, take, drop, take-append-drop}
use Prim.Native.Nat.{ℕ, ◌/◌, ◌%◌, ◌≤◌, compare, Ordering}
use borrow.Author.Tests.{eqb-true, leb-true}
use Rattle.tree.specs.Name.{Name, cmp, by_order}
use Rattle.tree.specs.Rules.{zeros, good_name}
use Rattle.tree.specs.declared.Profile.{Profile}
use Rattle.tree.specs.declared.Profile.TheVariants.{Exact, Folded}
use Rattle.tree.specs.Key.{key}
use Rattle.tree.proofs.Keys.{good-key, zeros-same}
use Rattle.tree.proofs.Never.{never}
use Rattle.tree.proofs.Same.{and-true}
use Rattle.std.specs.declared.cmp.Ordering.{Ordering as Order}
use Rattle.std.specs.declared.cmp.Ordering.TheVariants.{Less, Equal, Greater}
use Rattle.table_row.specs.Order.{ordered}
use Rattle.table_row.specs.Table.{Row, rows, depth, name}
use Rattle.table_row.specs.Keyed.{keyed_row, keyed}
use Rattle.table_row.proofs.Flat.{Whole, whole-rows}
use Rattle.table_row.proofs.Keyed.{has_key, rows-keyed, length-keyed}
use Rattle.table_rules.specs.declared.Fault.TheVariants.{BadLength, BadRow}
use Rattle.table_rules.specs.Rules.{depth_rule, kind_rule, sized}
use Rattle.table_rules.proofs.Plain.{ascends, ok_row, checked}
use Rattle.table_rules.specs.Keyed.{sibling, in_order, ok_row_in, is_same, no_twin, lowest, checked_in, twins, Passes}
use Rattle.table_names.proofs.Words.{zeros-before}
use Rattle.table_rules.proofs.Rows.{sized-true}
use Rattle.table_rules.proofs.Good.{Good}
use Rattle.table_rules.proofs.Fine.{fine-sound, sound-fine}
use Rattle.table_rules.proofs.Tests.{AllBy, lowest-all, all-lowest}

abbrev is_less : Order → Bool
is_less Less = true
is_less Equal = false
is_less Greater = false

-- where every byte counts, a row that may follow has no twin
no-twin : (o : Order) → in_order Exact o ≡ true → not (is_same o) ≡ true
no-twin Less e = refl
no-twin Equal e = never (cc)
no-twin Greater e = refl

no-twins : (ps rs : List Row) → AllBy (ok_row_in Exact) ps rs → AllBy (no_twin Exact) ps rs
unfolding AllBy ok_row_in sibling
no-twins ps [] g = tt
no-twins [] (r ∷ rs) g = (refl, no-twins (r ∷ []) rs g.1)
no-twins (q ∷ ps) (r ∷ rs) g =
    let a = and-true (depth_rule q r && good_name (name r) && kind_rule r) (in_order Exact (sibling Exact (depth r) (name r) (q ∷ ps))) g.0 in
    (no-twin (sibling Exact (depth r) (name r) (q ∷ ps)) a.1, no-twins (r ∷ q ∷ ps) rs g.1)

-- no twins are found exactly where no row has one
twins-all : (p : Profile) (w : List ℕ) → AllBy (ok_row_in p) [] (rows w) → twins p w ≡ None → AllBy (no_twin p) [] (rows w)
unfolding twins
twins-all Exact w g e = no-twins [] (rows w) g
twins-all Folded w g e = lowest-all (no_twin Folded) w e

pub none-mapped : (x : Option ℕ) → option_map BadRow x ≡ None → x ≡ None
none-mapped None e = refl
none-mapped (Some i) e = never (cc)

pub twins-lowest : (p : Profile) (w : List ℕ) → lowest (ok_row_in p) w ≡ None → lowest (no_twin p) w ≡ twins p w
unfolding twins
twins-lowest Exact w e = all-lowest (no_twin Exact) w (no-twins [] (rows w) (lowest-all (ok_row_in Exact) w e))
twins-lowest Folded w e = refl

all-twins : (p : Profile) (w : List ℕ) → AllBy (no_twin p) [] (rows w) → twins p w ≡ None
unfolding twins
all-twins Exact w g = refl
all-twins Folded w g = all-lowest (no_twin Folded) w g

-- a row that may follow and has no twin is, by its key, one that may follow
module _ (p : Profile) where
  order-parts : (o : Order) → (in_order p o && not (is_same o)) ≡ is_less o
  order-parts = go p
    where
      go : (p : Profile) (o : Order) → (in_order p o && not (is_same o)) ≡ is_less o
      go Exact Less = refl
      go Exact Equal = refl
      go Exact Greater = refl
      go Folded Less = refl
      go Folded Equal = refl
      go Folded Greater = refl

  ascends-keyed : (d : ℕ) (n : Name) (ps : List Row) → Whole ps → is_less (sibling p d n ps) ≡ ascends d (key p n) (map (keyed_row p) ps)
  unfolding sibling ascends Whole
  ascends-keyed d n [] h = refl
  ascends-keyed d n (q ∷ ps) h =
      let K = has_key p q h.0 in
      rw (K.depth_is, K.name-is) (go (compare (depth q) d) (cmp (key p (name q)) (key p n)) (ascends-keyed d n ps h.1))
    where
      go : (w o : Ordering) → is_less (sibling p d n ps) ≡ ascends d (key p n) (map (keyed_row p) ps)
          → is_less (by_order w Less (ordered o) (sibling p d n ps)) ≡ by_order w true (by_order o true false false) (ascends d (key p n) (map (keyed_row p) ps))
      go Ordering.lt o e = refl
      go Ordering.eq Ordering.lt e = refl
      go Ordering.eq Ordering.eq e = refl
      go Ordering.eq Ordering.gt e = refl
      go Ordering.gt o e = e

  ascends-parts : (d : ℕ) (n : Name) (ps : List Row) → Whole ps → (in_order p (sibling p d n ps) && not (is_same (sibling p d n ps))) ≡ ascends d (key p n) (map (keyed_row p) ps)
  ascends-parts d n ps h = order-parts (sibling p d n ps) ∙ ascends-keyed d n ps h

  zeros-keyed : (r : Row) → length r ≡ 20 → zeros (keyed_row p r) ≡ zeros r
  unfolding zeros
  zeros-keyed [] h = absurd (omega arith)
  zeros-keyed (a ∷ []) h = absurd (omega arith)
  zeros-keyed (a ∷ b ∷ s) h =
      rw (zeros-before (key p (take 8 s)) (drop 8 s) ∙ rw (zeros-same p (take 8 s)) (sym (zeros-before (take 8 s) (drop 8 s))) ∙ ap zeros (take-append-drop 8 s))

  and_assoc : (a b c : Bool) → ((a && b) && c) ≡ (a && (b && c))
  and_assoc true b c = refl
  and_assoc false b c = refl

  and_yes : (a : Bool) → (a && true) ≡ a
  and_yes true = refl
  and_yes false = refl

  depth_same : (q r : Row) → length q ≡ 20 → length r ≡ 20 → depth_rule (keyed_row p q) (keyed_row p r) ≡ depth_rule q r
  unfolding depth_rule
  depth_same q r h e = let K = has_key p q h in let R = has_key p r e in rw (K.depth_is, K.kind-is, R.depth_is)

  kind-same : (r : Row) → length r ≡ 20 → kind_rule (keyed_row p r) ≡ kind_rule r
  unfolding kind_rule
  kind-same r e = let R = has_key p r e in rw (R.kind-is, R.rest-is)

  ok-parts : (ps : List Row) (r : Row) → Whole ps → length r ≡ 20 → (ok_row_in p ps r && no_twin p ps r) ≡ ok_row (map (keyed_row p) ps) (keyed_row p r)
  unfolding ok_row_in ok_row Whole sibling
  ok-parts [] r h e = and_yes (zeros r) ∙ sym (zeros-keyed r e)
  ok-parts (q ∷ ps) r h e =
      and_assoc (depth_rule q r && good_name (name r) && kind_rule r) (in_order p (sibling p (depth r) (name r) (q ∷ ps))) (no_twin p (q ∷ ps) r)
      ∙ (let R = has_key p r e in
      rw (depth_same q r h.0 e, kind-same r e, R.name-is, R.depth_is, good-key p (name r), ascends-parts (depth r) (name r) (q ∷ ps) h))

  good-all : (ps rs : List Row) → Whole ps → Whole rs → Good (map (keyed_row p) ps) (map (keyed_row p) rs) → AllBy (ok_row_in p) ps rs × AllBy (no_twin p) ps rs
  unfolding Good AllBy Whole
  good-all ps [] h e g = (tt, tt)
  good-all ps (r ∷ rs) h e g =
      let a = and-true (ok_row_in p ps r) (no_twin p ps r) (ok-parts ps r h e.0 ∙ g.0) in
      let b = good-all (r ∷ ps) rs (e.0, h) e.1 g.1 in
      ((a.0, b.0), (a.1, b.1))

  all-good : (ps rs : List Row) → Whole ps → Whole rs → AllBy (ok_row_in p) ps rs → AllBy (no_twin p) ps rs → Good (map (keyed_row p) ps) (map (keyed_row p) rs)
  unfolding Good AllBy Whole
  all-good ps [] h e a b = tt
  all-good ps (r ∷ rs) h e a b = (sym (ok-parts ps r h e.0) ∙ rw (a.0, b.0), all-good (r ∷ ps) rs (e.0, h) e.1 a.1 b.1)

  -- none of 1, 2 and 16 is due of a table exactly when neither 1 nor 2 is due, as names are, of its table of keys
  pub passes-sized : (w : List ℕ) → checked_in p w ≡ None → sized w ≡ true
  unfolding checked_in
  passes-sized w = go (sized w)
    where
      go : (s : Bool) → cond s (option_map BadRow (lowest (ok_row_in p) w)) (Some BadLength) ≡ None → s ≡ true
      go true h = refl
      go false h = never (cc)

  -- a length that is as it must be
  pub record Sized (w : List ℕ) : Type 0 where
    pub whole : length w % 20 ≡ 0
    pub some : 1 ≤ length w / 20
    pub most : length w / 20 ≤ 4096

  pub sized-parts : (w : List ℕ) → sized w ≡ true → Sized w
  unfolding sized
  sized-parts w e =
      let a = and-true (eqb (length w % 20) 0 && leb 1 (length w / 20)) (leb (length w / 20) 4096) e in
      let b = and-true (eqb (length w % 20) 0) (leb 1 (length w / 20)) a.0 in
      record { whole = eqb-true _ _ b.0; some = leb-true _ _ b.1; most = leb-true _ _ a.1 }

  pub passes-keyed : (w : List ℕ) → Passes p w → checked (keyed p w) ≡ None
  unfolding checked_in Whole
  passes-keyed w P =
      let e = passes-sized w P.checked-fine in
      let S = sized-parts w e in
      let n = length-keyed p w S.whole in
      let a : lowest (ok_row_in p) w ≡ None = none-mapped _ (rw e at P.checked-fine) in
      let h = whole-rows w S.whole in
      sound-fine (keyed p w) (record {
        whole = rw n S.whole;
        some = rw n S.some;
        most = rw n S.most;
        good = rw (rows-keyed p w) (let g = lowest-all (ok_row_in p) w a in all-good [] (rows w) tt h g (twins-all p w g P.no-twins));
      })

  pub keyed-passes : (w : List ℕ) → length w % 20 ≡ 0 → checked (keyed p w) ≡ None → Passes p w
  unfolding checked_in Whole
  keyed-passes w h f =
      let S = fine-sound (keyed p w) f in
      let n = length-keyed p w h in
      let g = good-all [] (rows w) tt (whole-rows w h) (rw (rows-keyed p w) at S.good) in
      record {
        checked-fine = rw (sized-true w h (rw n at S.some) (rw n at S.most), all-lowest (ok_row_in p) w g.0);
        no-twins = all-twins p w g.1;
      }

-- What passing the rules of a profile says of a table: it is the table of a tree that is well formed in the profile.
use mathlib.Core.Path.{◌≡◌, refl, sym, ap, ◌∙◌}
use mathlib.Core.List.{List, [], ◌∷◌}
use mathlib.Core.Bool.{true, ◌&&◌}
use native.Mathlib.Omega.{arith}
use lib.Dec.{leb}
use lib.ListN.{length, drop}
use Prim.Native.Nat.{ℕ, ◌*◌, suc, ◌/◌, ◌%◌, ◌-◌, ◌≤◌, compare, Ordering}
use borrow.Author.Tests.{leb-true}
use Rattle.tree.specs.Name.{by_order}
use Rattle.tree.specs.Forest.{Forest, Forest.end, Node.folder, size, Sorted}
use Rattle.tree.specs.Rules.{good_name, Words32, Within, NameRule, ContentRule}
use Rattle.tree.specs.declared.Profile.{Profile}
use Rattle.tree.specs.Key.{fold, FormedIn}
use Rattle.tree.proofs.Folds.{formed-fold, size-fold}
use Rattle.tree.proofs.Order.{Cmp, Cmp.less, Cmp.same, Cmp.more, view}
use Rattle.tree.proofs.Same.{and-true}
use Rattle.table_row.specs.Table.{Row, rows, flat, depth, name}
use Rattle.table_row.specs.Tree.{folder_row, node_rows, root_name, table, entry_of, siblings, tree_of}
use Rattle.table_row.specs.Keyed.{keyed}
use Rattle.table_row.proofs.Table.{length-rows_n}
use Rattle.table_row.proofs.Flat.{Whole, whole-rows, flat_rows, length-flat}
use Rattle.table_row.proofs.Tree.{whole-rows_of, length-rows}
use Rattle.table_row.proofs.Fits.{zeros-all, Fits, rows-siblings}
use Rattle.table_row.proofs.Keyed.{tree-keyed, table-keyed}
use Rattle.table_rules.specs.Rules.{deepest, depth_rule, kind_rule}
use Rattle.table_rules.specs.Keyed.{sibling, in_order, ok_row_in, checked_in, Passes}
use Rattle.table_rules.proofs.Good.{Good, rule-formed}
use Rattle.table_rules.proofs.Small.{Small, small-rows}
use Rattle.table_rules.proofs.Sorted.{good-sorted}
use Rattle.table_rules.proofs.Within.{within-entry}
use Rattle.table_rules.proofs.Fine.{fine-sound, table-fine}
use Rattle.table_rules.proofs.Tests.{AllBy, lowest-all}
use Rattle.table_rules.proofs.Keyed.{Sized, sized-parts, passes-sized, passes-keyed, keyed-passes, none-mapped}

module _ (p : Profile) where
  -- the rules of a row but for the order of names
  record Fair (q r : Row) : Type 0 where
    low : 1 ≤ depth r
    high : depth r ≤ 16
    step : depth r ≤ deepest q
    named : good_name (name r) ≡ true
    kinds : kind_rule r ≡ true

  ok-fair : (q : Row) (ps : List Row) (r : Row) → ok_row_in p (q ∷ ps) r ≡ true → Fair q r
  unfolding ok_row_in depth_rule
  ok-fair q ps r e =
      let a = and-true (depth_rule q r && good_name (name r) && kind_rule r) (in_order p (sibling p (depth r) (name r) (q ∷ ps))) e in
      let b = and-true (depth_rule q r && good_name (name r)) (kind_rule r) a.0 in
      let c = and-true (depth_rule q r) (good_name (name r)) b.0 in
      let d = and-true (leb 1 (depth r) && leb (depth r) 16) (leb (depth r) (deepest q)) c.0 in
      let f = and-true (leb 1 (depth r)) (leb (depth r) 16) d.0 in
      record { low = leb-true _ _ f.0; high = leb-true _ _ f.1; step = leb-true _ _ d.1; named = c.1; kinds = b.1 }

  all-fits : (q : Row) (ps rs : List Row) → Whole rs → AllBy (ok_row_in p) (q ∷ ps) rs → Fits (deepest q) rs
  unfolding Whole AllBy Fits
  all-fits q ps [] h g = tt
  all-fits q ps (r ∷ rs) h g =
      let F = ok-fair q ps r g.0 in
      (F.low, F.step, rule-formed r h.0 F.kinds, all-fits r (q ∷ ps) rs h.1 g.1)

  all-within : (q : Row) (ps rs : List Row) (d : ℕ) → Whole rs → Small rs → AllBy (ok_row_in p) (q ∷ ps) rs → Within NameRule ContentRule (17 - d) (siblings d rs)
  unfolding AllBy Whole Small siblings Within
  all-within q ps [] d h w g = tt
  all-within q ps (r ∷ rs) d h w g =
      go (compare (depth r) d) (view (depth r) d) (all-within r (q ∷ ps) rs d h.1 w.1 g.1) (all-within r (q ∷ ps) rs (suc d) h.1 w.1 g.1)
    where
      F : Fair q r
      F = ok-fair q ps r g.0

      go : (o : Ordering) → Cmp (depth r) d o → Within NameRule ContentRule (17 - d) (siblings d rs) → Within NameRule ContentRule (17 - suc d) (siblings (suc d) rs)
          → Within NameRule ContentRule (17 - d) (by_order o end (entry_of r (siblings (suc d) rs) (siblings d rs)) (siblings d rs))
      go Ordering.lt (less e) a b = tt
      go Ordering.eq (same e) a b =
          let i : 17 - d ≡ suc (17 - suc d) = omega (arith, F.high) in
          rw i (within-entry r h.0 w.0 (17 - suc d) (siblings (suc d) rs) (siblings d rs) F.named F.kinds b (rw i at a))
      go Ordering.gt (more e) a b = a

  -- row 0 is the root's, and the rows are those of the tree that they are read as
  all-root : (rs : List Row) → 1 ≤ length rs → Whole rs → AllBy (ok_row_in p) [] rs → rs ≡ node_rows 0 root_name (folder (siblings 1 (drop 1 rs)))
  unfolding Whole AllBy node_rows ok_row_in
  all-root [] n h g = absurd (omega arith)
  all-root (r ∷ rs) n h g =
      let e : r ≡ folder_row 0 root_name = zeros-all r g.0 ∙ rw h.0 in
      let f : Fits 1 rs = all-fits (folder_row 0 root_name) [] rs h.1 (rw e at g.1) in
      rw (e, rows-siblings rs f)

  all-root-within : (rs : List Row) → Whole rs → Small rs → AllBy (ok_row_in p) [] rs → Within NameRule ContentRule 16 (siblings 1 (drop 1 rs))
  unfolding Whole Small AllBy siblings Within
  all-root-within [] h s g = tt
  all-root-within (r ∷ rs) h s g = all-within r [] rs 1 h.1 s.1 g.1

  root-sorted : (rs : List Row) → Good [] rs → Sorted (siblings 1 (drop 1 rs))
  unfolding Good siblings Sorted
  root-sorted [] g = tt
  root-sorted (r ∷ rs) g = good-sorted r [] rs 1 g.1

  -- WHAT THE RULES ARE FOR, IN EITHER PROFILE
  module _ (w : List ℕ) (P : Passes p w) where
    S : Sized p w
    S = sized-parts p w (passes-sized p w P.checked-fine)

    A : AllBy (ok_row_in p) [] (rows w)
    unfolding checked_in
    A = lowest-all (ok_row_in p) w (none-mapped _ (rw (passes-sized p w P.checked-fine) at P.checked-fine))

    pub passed-whole : length w % 20 ≡ 0
    passed-whole = S.whole

    pub passed-some : 20 ≤ length w
    passed-some = omega (arith, S.some)

    -- at most 4,096 rows
    pub passed_words : length w ≤ 81920
    passed_words = omega (arith, S.whole, S.most)

    -- its rows are those of its tree
    pub passed-rows : rows w ≡ node_rows 0 root_name (folder (tree_of w))
    unfolding tree_of
    passed-rows = all-root (rows w) (rw length-rows_n S.some) (whole-rows w S.whole) A

    pub passed_length : length w ≡ 20 * suc (size (tree_of w))
    unfolding node_rows
    passed_length =
        let e : length (rows w) ≡ suc (size (tree_of w)) = ap length passed-rows ∙ ap suc (length-rows 1 (tree_of w)) in
        omega (arith, S.whole, length-rows_n (length w / 20) w)

    pub passed-table : table (tree_of w) ≡ w
    unfolding table
    passed-table = ap flat (sym passed-rows) ∙ flat_rows w S.whole

    pub passed-formed : Words32 w → FormedIn p (tree_of w)
    unfolding tree_of
    passed-formed s = record {
      sorted = rw (tree-keyed p w) at (root-sorted (rows (keyed p w)) (fine-sound (keyed p w) (passes-keyed p w P)).good);
      within = all-root-within (rows w) (whole-rows w S.whole) (small-rows w s) A;
    }

    pub passed-most : suc (size (tree_of w)) ≤ 4096
    passed-most = omega (arith, passed_length, S.most)

  pub table-passes : (f : Forest) → FormedIn p f → suc (size f) ≤ 4096 → Passes p (table f)
  unfolding table node_rows Whole
  table-passes f F h =
      let n = length-flat (node_rows 0 root_name (folder f)) (refl, whole-rows_of 16 1 f F.within) in
      keyed-passes p (table f) (omega arith) (rw (table-keyed p f F.within) (table-fine (fold p f) (formed-fold p f F) (rw (size-fold p f) h)))

-- Three tables of at most 128 rows: 382 rows and as many entries hold every result, and the list's text is short.
use Rattle.std.proofs.Common.{Ok}
use mathlib.Core.Path.{◌≡◌, ap, ◌∙◌}
use mathlib.Core.List.{List}
use native.Mathlib.Omega.{arith}
use lib.ListN.{length, take}
use Prim.Native.Nat.{ℕ, ◌+◌, ◌*◌, ◌≤◌}
use Rattle.tree.specs.Forest.{Forest, Node, Sorted, size}
use Rattle.tree.specs.Rules.{Words32}
use Rattle.tree.specs.declared.Profile.{Profile}
use Rattle.tree.specs.Key.{fold, FormedIn}
use Rattle.tree.proofs.Size.{row_count}
use Rattle.tree.proofs.Folds.{size-fold, size-respell}
use Rattle.settle.specs.Decision.{Decision, Decision.agreed, Decision.left_gets, Decision.right_gets, Decision.clash}
use Rattle.settle.specs.Results.{for_archive, for_left, for_right, new_archive, new_left, new_right}
use Rattle.settle.specs.Spelled.{new_archive_in, new_left_in, new_right_in}
use Rattle.table_row.specs.Buffer.{over}
use Rattle.table_row.specs.Tree.{tree_of}
use Rattle.table_row.proofs.Tree.{length-table, tree-table}
use Rattle.table_rules.specs.Keyed.{Passes}
use Rattle.table_rules.proofs.Passed.{table-passes}
use Rattle.listing_spell.specs.Puts.{Puts}
use Rattle.plan.specs.Items.{list_words}
use Rattle.plan.proofs.Bound.{Takes, result-bound, lines-bound}
use Rattle.plan_tally.specs.Count.{tally_of}
use Rattle.plan_run.specs.declared.Counts.{Counts}
use Rattle.plan_run.specs.Answer.{Reconciled}
use Rattle.plan_run.specs.Run.{given, counts_of, Lent, ReconcileContract, run_due, run_of}
use Rattle.plan_run.proofs.Accepted.{Room, accepted}
use Rattle.plan_text.specs.Words.{plan_bytes}
use Rattle.plan_text.specs.Spelled.{run_text}
use Rattle.plan_text.proofs.Length.{run_length}
use Rattle.plan_text.proofs.Lines.{list-part, run-text}
use Rattle.printout_text.specs.Tables.{IsTable}

-- an answer is accepted with one count
one_count : (a : Reconciled) (n m : Counts) → a ≡ Ok n → a ≡ Ok m → n ≡ m
one_count a n m e f = cc

-- a table's tree
module _ (p : Profile) (w : List ℕ) (T : IsTable p w) where
  tree_is : tree_of w ≡ T.tree
  tree_is = rw T.words (tree-table T.tree T.good.within)

  formed : FormedIn p (tree_of w)
  formed = rw tree_is T.good

  few : size (tree_of w) ≤ 127
  few = let h = T.few in rw tree_is (omega arith)

  passes : Passes p w
  passes = let h = T.few in rw T.words (table-passes p T.tree T.good (omega arith))

  pub short : length w ≤ 2560
  short = let h = T.few in rw (T.words, length-table T.tree T.good.within) (omega arith)

-- what a result takes is what one of the three has
takes-by : (pk : Decision → Node → Node → Node → Node)
    → ((o l r : Node) → let n = row_count o + row_count l + row_count r in
    (row_count (pk agreed o l r) ≤ n) × (row_count (pk left_gets o l r) ≤ n) × (row_count (pk right_gets o l r) ≤ n) × (row_count (pk clash o l r) ≤ n))
    → Takes pk
takes-by pk h = record { rows = λ d o l r. go d o l r }
  where
    go : (d : Decision) (o l r : Node) → row_count (pk d o l r) ≤ row_count o + row_count l + row_count r
    go agreed o l r = (h o l r).0
    go left_gets o l r = (h o l r).1
    go right_gets o l r = (h o l r).2
    go clash o l r = (h o l r).3

-- what code lends for the results
pub record Ample (b : Lent) : Type 0 where
  pub archive : length b.archive ≡ 7640
  pub left : length b.left ≡ 7640
  pub right : length b.right ≡ 7640
  pub list : length b.list ≡ 1146

module _ (p : Profile) (o l r : List ℕ) (O : IsTable p o) (L : IsTable p l) (R : IsTable p r) where
  -- the trees of keys
  abbrev fo : Forest
  fo = fold p (tree_of o)

  abbrev fl : Forest
  fl = fold p (tree_of l)

  abbrev fr : Forest
  fr = fold p (tree_of r)

  so : Sorted fo
  so = (formed p o O).sorted

  sl : Sorted fl
  sl = (formed p l L).sorted

  sr : Sorted fr
  sr = (formed p r R).sorted

  sum : size fo + size fl + size fr ≤ 381
  sum = omega (arith, few p o O, few p l L, few p r R, size-fold p (tree_of o), size-fold p (tree_of l), size-fold p (tree_of r))

  -- spelling changes no size
  archive-size : size (new_archive_in p (tree_of o) (tree_of l) (tree_of r)) ≡ size (new_archive fo fl fr)
  unfolding new_archive_in
  archive-size = size-respell p _ _ ∙ size-respell p _ _

  left-size : size (new_left_in p (tree_of o) (tree_of l) (tree_of r)) ≡ size (new_left fo fl fr)
  unfolding new_left_in
  left-size = size-respell p _ _ ∙ size-respell p _ _

  right-size : size (new_right_in p (tree_of o) (tree_of l) (tree_of r)) ≡ size (new_right fo fl fr)
  unfolding new_right_in
  right-size = size-respell p _ _ ∙ size-respell p _ _

  room : (b : Lent) → Ample b → Room (given p o l r) b
  unfolding new_archive new_left new_right
  room b A =
      let h = sum in
      let x = result-bound for_archive (takes-by for_archive (λ x y z. (omega arith, omega arith, omega arith, omega arith))) fo fl fr so sl sr in
      let y = result-bound for_left (takes-by for_left (λ x y z. (omega arith, omega arith, omega arith, omega arith))) fo fl fr so sl sr in
      let z = result-bound for_right (takes-by for_right (λ x y z. (omega arith, omega arith, omega arith, omega arith))) fo fl fr so sl sr in
      let n = lines-bound fo fl fr so sl sr in
      let u = archive-size in
      let v = left-size in
      let w = right-size in
      record {
        archive = (omega arith, rw A.archive (omega arith));
        left = (omega arith, rw A.left (omega arith));
        right = (omega arith, rw A.right (omega arith));
        list = rw A.list (omega arith);
      }

  -- the run is accepted
  module _ (b a : Lent) (A : Ample b) (answer : Reconciled) (C : ReconcileContract p o l r b a answer) where
    due : run_due p o l r b ≡ Ok 0
    due = accepted p o l r b (record { archive-passes = passes p o O; left-passes = passes p l L; right-passes = passes p r R; room = room b A })

    pub accepts : answer ≡ Ok (counts_of (given p o l r))
    unfolding run_of
    accepts = rw (C.answered, due)

    listed : a.list ≡ over b.list (list_words fl fr (given p o l r).lines)
    unfolding run_of
    listed = rw (C.left_in, due)

    counted : a.tally ≡ tally_of (given p o l r).lines
    unfolding run_of
    counted = rw (C.left_in, due)

    -- the counts that it is accepted with
    module _ (n : Counts) (is : answer ≡ Ok n) where
      entries : n.list ≡ length (given p o l r).lines
      entries = ap (λ (m : Counts). m.list) (one_count answer n (counts_of (given p o l r)) is accepts)

      pub entries-few : 3 * n.list ≤ 1146
      entries-few = let h = sum in let m = lines-bound fo fl fr so sl sr in rw entries (omega arith)

      -- what is put for the entries that the answer counts is the plan
      pub put-plan : (d : List ℕ) (most next : ℕ) (after : List ℕ) → Words32 l → Words32 r → Puts d 0 (plan_bytes l r (take (3 * n.list) a.list) a.tally) most next after
          → Puts d 0 (run_text p (tree_of o) (tree_of l) (tree_of r)) 1048576 next after
      put-plan d most next after wl wr q =
          let e : plan_bytes l r (take (3 * n.list) a.list) a.tally ≡ run_text p (tree_of o) (tree_of l) (tree_of r) =
          rw (entries, listed, counted, list-part fl fr b.list (given p o l r).lines) (run-text p l r (passes p l L) (passes p r R) wl wr o) in
          let u = rw e at q in
          let m = run_length p (tree_of o) (tree_of l) (tree_of r) (formed p o O) (formed p l L) (formed p r R) in
          let c = u.counted in
          record { counted = c; near = omega (arith, few p o O, few p l L, few p r R); holds = u.holds }

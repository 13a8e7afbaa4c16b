-- What the plan of three tables of keys gives, at the start of a buffer: the new tables and the list, with the counts of the
-- trees' outcome.
use mathlib.Core.Path.{◌≡◌, refl, ap, ◌∙◌}
use mathlib.Core.List.{List, [], ◌∷◌}
use native.Mathlib.Omega.{arith}
use lib.ListN.{length, take, get_or}
use Prim.Native.Nat.{ℕ, suc, ◌*◌, ◌/◌, ◌%◌, ◌≤◌}
use Rattle.tree.specs.Forest.{Forest, size}
use Rattle.tree.specs.declared.Profile.{Profile}
use Rattle.tree.specs.Key.{fold, FormedIn}
use Rattle.tree.proofs.Folds.{size-fold}
use Rattle.settle.specs.Plan.{plan}
use Rattle.settle.specs.Results.{Line.line, Lines}
use Rattle.table_row.specs.Tree.{table, tree_of}
use Rattle.table_row.specs.Keyed.{keyed}
use Rattle.table_rules.specs.Keyed.{Passes}
use Rattle.plan.specs.Items.{items, words_of, list_words, plan_words}
use Rattle.plan_cursor.specs.Three.{Three}
use Rattle.plan.specs.Settle.{settled}
use Rattle.plan.specs.Writes.{Fills}
use Rattle.plan_results.specs.declared.Tree.{Tree}
use Rattle.plan_results.specs.declared.Tree.TheVariants.{Archive, Left, Right}
use Rattle.plan_results.specs.Decisions.{decisions, decided, pieces}
use Rattle.plan_results.specs.Pieces.{new_tree, piece_list}
use mir.Syntax.{w32}
use mir.Val.{Fits}
use Rattle.table_row.proofs.Tree.{length-table}
use Rattle.table_rules.proofs.Small.{small_all}
use Rattle.table_rules.proofs.Passed.{passed-whole, passed_words, passed-rows, passed_length, passed-formed}
use Rattle.settle.proofs.Spelled.{formed-left, formed-right, formed-archive}
use Rattle.plan.proofs.Keyed.{IsTableIn, settled-keyed}
use Rattle.plan.proofs.Bound.{plan-length, plan-bound}
use Rattle.plan_results.proofs.Read.{decisions-over, decided-front}
use Rattle.plan_results.proofs.Whole.{list-words}
use Rattle.plan_results.proofs.Named.{new-table-in}
use Rattle.plan_run.specs.Run.{given, counts_of}
use Rattle.plan_run.specs.Steps.{Words, rows_of, planned_words, planned_counts}

-- a table that keeps the rules of the profile, whose words are of 32 bits
pub record Sound (p : Profile) (w : List ℕ) : Type 0 where
  pub passes : Passes p w
  pub small : (k : ℕ) → Fits w32 (get_or w k 0)

list_length : (l r : Forest) (xs : Lines) → length (list_words l r xs) ≡ 3 * length xs
unfolding words_of
list_length l r [] = refl
list_length l r (line p d ∷ xs) = omega (arith, list_length l r xs)

module _ (p : Profile) where
  formed : (w : List ℕ) → Sound p w → FormedIn p (tree_of w)
  formed w s = passed-formed p w s.passes (small_all w (λ k. omega (arith, s.small k)))

  is-table : (w : List ℕ) → Sound p w → IsTableIn p w (tree_of w)
  is-table w s = record { rows_are = passed-rows p w s.passes; formed = formed w s }

  -- the words of the outcome
  abbrev pub outcome_words : List ℕ → List ℕ → List ℕ → Words
  outcome_words o l r = record {
    archive = table (given p o l r).archive;
    left = table (given p o l r).left;
    right = table (given p o l r).right;
    list = list_words (fold p (tree_of l)) (fold p (tree_of r)) (given p o l r).lines;
  }

  pub three : (o l r : List ℕ) → Passes p o → Passes p l → Passes p r → Three o l r
  three o l r a b c = record {
    o-small = passed_words p o a;
    l-small = passed_words p l b;
    r_small = passed_words p r c;
    o-whole = passed-whole p o a;
    l-whole = passed-whole p l b;
    r-whole = passed-whole p r c;
  }

  module _ (o l r : List ℕ) (so : Sound p o) (sl : Sound p l) (sr : Sound p r) where
    T : Three o l r
    T = three o l r so.passes sl.passes sr.passes

    abbrev O : Forest
    O = fold p (tree_of o)

    abbrev L : Forest
    L = fold p (tree_of l)

    abbrev R : Forest
    R = fold p (tree_of r)

    words : settled (keyed p o) (keyed p l) (keyed p r) ≡ plan_words O L R
    words = settled-keyed p o l r (tree_of o) (tree_of l) (tree_of r) T (is-table o so) (is-table l sl) (is-table r sr)

    abbrev count : ℕ
    count = length (items (plan O L R))

    long : length (settled (keyed p o) (keyed p l) (keyed p r)) ≡ 4 * count
    long = ap length words ∙ plan-length O L R

    -- no more items than rows
    most : count ≤ rows_of o l r
    most =
        let b = plan-bound O L R (formed o so).sorted (formed l sl).sorted (formed r sr).sorted in
        let x = size-fold p (tree_of o) in let y = size-fold p (tree_of l) in let z = size-fold p (tree_of r) in
        omega (arith, plan-length O L R, passed_length p o so.passes, passed_length p l sl.passes, passed_length p r sr.passes)

    -- a scratch array of four words for each row is long enough
    pub settled-fits : length (settled (keyed p o) (keyed p l) (keyed p r)) ≤ 4 * rows_of o l r
    settled-fits = omega (arith, long, most)

    new_in : Tree → Forest
    new_in Archive = (given p o l r).archive
    new_in Left = (given p o l r).left
    new_in Right = (given p o l r).right

    formed-in : (t : Tree) → FormedIn p (new_in t)
    unfolding new_in
    formed-in Archive = formed-archive p (tree_of o) (tree_of l) (tree_of r) (formed o so) (formed l sl) (formed r sr)
    formed-in Left = formed-left p (tree_of o) (tree_of l) (tree_of r) (formed o so) (formed l sl) (formed r sr)
    formed-in Right = formed-right p (tree_of o) (tree_of l) (tree_of r) (formed o so) (formed l sl) (formed r sr)

    module _ (b e : List ℕ) (q : ℕ) (f : Fills b (settled (keyed p o) (keyed p l) (keyed p r)) e q) where
      items-are : q / 4 ≡ count
      items-are = omega (arith, f.count, long)

      pub items-fit : q ≤ 4 * rows_of o l r
      items-fit = omega (arith, f.count, long, most)

      pub items-most : q ≤ 49152
      items-most = omega (arith, items-fit, passed_words p o so.passes, passed_words p l sl.passes, passed_words p r sr.passes)

    module _ (b e : List ℕ) (q : ℕ) (f : Fills b (settled (keyed p o) (keyed p l) (keyed p r)) e q) (fits : q ≤ length e) where
      read : decided (take q e) ≡ decisions count (plan_words O L R)
      read = decided-front q e fits ∙ rw (items-are b e q f, f.words) (decisions-over count b (settled (keyed p o) (keyed p l) (keyed p r)) (omega (arith, long)) ∙ ap (decisions count) words)

      tree : (t : Tree) → new_tree t o l r (decided (take q e)) ≡ table (new_in t)
      unfolding new_in
      tree t = ap (new_tree t o l r) read ∙ go t
        where
          go : (t : Tree) → new_tree t o l r (decisions count (plan_words O L R)) ≡ table (new_in t)
          go Archive = new-table-in p o l r (tree_of o) (tree_of l) (tree_of r) T (is-table o so) (is-table l sl) (is-table r sr) Archive
          go Left = new-table-in p o l r (tree_of o) (tree_of l) (tree_of r) T (is-table o so) (is-table l sl) (is-table r sr) Left
          go Right = new-table-in p o l r (tree_of o) (tree_of l) (tree_of r) T (is-table o so) (is-table l sl) (is-table r sr) Right

      lines : pieces piece_list (decided (take q e)) ≡ (outcome_words o l r).list
      lines = ap (pieces piece_list) read ∙ list-words O L R

      -- the rows of a table of n rows
      rows-of : (t : Tree) → length (new_tree t o l r (decided (take q e))) / 20 ≡ suc (size (new_in t))
      rows-of t = let x = ap length (tree t) in let y = length-table (new_in t) (formed-in t).within in omega arith

      pub planned-words : planned_words o l r (decided (take q e)) ≡ outcome_words o l r
      unfolding new_in
      planned-words = rw (tree Archive, tree Left, tree Right, lines) refl

      pub planned-counts : planned_counts o l r (decided (take q e)) ≡ counts_of (given p o l r)
      unfolding new_in
      planned-counts =
          let n : length (pieces piece_list (decided (take q e))) / 3 ≡ length (given p o l r).lines = omega (arith, ap length lines, list_length L R (given p o l r).lines) in
          rw (rows-of Archive, rows-of Left, rows-of Right, n) refl

      -- whole rows, and whole entries
      pub whole-rows : (t : Tree) → length (new_tree t o l r (decided (take q e))) % 20 ≡ 0
      whole-rows t = let x = ap length (tree t) in let y = length-table (new_in t) (formed-in t).within in omega arith

      pub whole-lines : length (pieces piece_list (decided (take q e))) % 3 ≡ 0
      whole-lines = omega (arith, ap length lines, list_length L R (given p o l r).lines)

-- The words of a list of two trees' lines give the text of the lines.
use mathlib.Core.Path.{◌≡◌, refl, ap, ◌∙◌}
use mathlib.Core.List.{List, [], ◌∷◌, map}
use mathlib.Core.Logic.{◌⊎◌, inl, inr}
use native.Mathlib.Omega.{arith}
use lib.ListN.{length, take, drop}
use lib.Seq.{take_at}
use Prim.Native.Nat.{ℕ, ◌*◌, ◌/◌, ◌≤◌, ◌<◌}
use Rattle.tree.specs.Forest.{TreePath, Forest, Node, Node.absent, Node.file, Node.folder, Present, at}
use Rattle.tree.specs.Rules.{Words32}
use Rattle.tree.specs.declared.Profile.{Profile}
use Rattle.tree.specs.Key.{fold}
use Rattle.table_row.specs.Buffer.{over}
use Rattle.table_row.specs.Tree.{tree_of}
use Rattle.table_rules.specs.Keyed.{Passes}
use Rattle.table_rules.proofs.Passed.{passed_words, passed-table, passed-formed}
use Rattle.settle.specs.Decision.{Decision.agreed, Decision.left_gets, Decision.right_gets, Decision.clash}
use Rattle.settle.specs.Results.{Line.line, Lines}
use Rattle.settle.specs.Spelled.{outcome_in}
use Rattle.table_stands.specs.Around.{row_in}
use Rattle.plan.specs.Items.{row_of, words_of, list_words}
use Rattle.plan.proofs.Least.{or-present}
use Rattle.plan_tally.specs.Count.{tally_of}
use Rattle.table_route.specs.Route.{path_of, spelled_in}
use Rattle.table_route.proofs.Path.{row_is, path-of}
use Rattle.plan_text.specs.Text.{path_text, lines_text, plan_text}
use Rattle.plan_text.specs.Words.{side_text, entry_text, entries_text, plan_bytes}
use Rattle.plan_text.specs.Sides.{Sided}
use Rattle.plan_text.specs.Spelled.{spelled_by, spelled_line, run_text}
use Rattle.plan_text.proofs.Words.{side_left, side_right}
use Rattle.plan_text.proofs.Sides.{listed-sided}

-- three words a line
module _ (l r : Forest) where
  pub length-list : (xs : Lines) → length (list_words l r xs) ≡ 3 * length xs
  unfolding words_of
  length-list [] = refl
  length-list (line p d ∷ xs) = omega (arith, length-list xs)

  -- the list in a buffer that it was written over, as the part that code lends
  pub list-part : (d : List ℕ) (xs : Lines) → take (3 * length xs) (over d (list_words l r xs)) ≡ list_words l r xs
  unfolding over
  list-part d xs = take_at (list_words l r xs) (drop (length (list_words l r xs)) d) (3 * length xs) (length-list xs)

-- the row that a list names for a path of keys, in a table that passes
module _ (p : Profile) (w : List ℕ) (P : Passes p w) (small : Words32 w) (q : TreePath) where
  abbrev here : Node
  here = at (folder (fold p (tree_of w))) q

  there : Present here → (row_of (fold p (tree_of w)) q < length w / 20) × (path_of w (row_of (fold p (tree_of w)) q) ≡ spelled_in p (folder (tree_of w)) q)
  there h =
      let f = tree_of w in
      let F = passed-formed p w P small in
      let e = passed-table p w P in
      rw (or-present here (row_in (folder (fold p f)) q) h) (rw e at (row_is p f F q h), rw e at (path-of p f F q h))

  nowhere : here ≡ absent → length w / 20 ≤ row_of (fold p (tree_of w)) q
  nowhere e = rw e (omega (arith, passed_words p w P))

module _ (p : Profile) (w v : List ℕ) (W : Passes p w) (U : Passes p v) (w-small : Words32 w) (v-small : Words32 v) where
  abbrev l : Forest
  l = fold p (tree_of w)

  abbrev r : Forest
  r = fold p (tree_of v)

  side-text : (q : TreePath) → Present (at (folder l) q) ⊎ Present (at (folder r) q)
      → side_text w v (row_of l q) (row_of r q) ≡ path_text (spelled_by (at (folder l) q) (spelled_in p (folder (tree_of w)) q) (spelled_in p (folder (tree_of v)) q))
  side-text q s = go (at (folder l) q) refl s
    where
      own : Present (at (folder l) q) → side_text w v (row_of l q) (row_of r q) ≡ path_text (spelled_in p (folder (tree_of w)) q)
      own h = let t = there p w W w-small q h in side_left w v (row_of l q) (row_of r q) t.0 ∙ ap path_text t.1

      go : (x : Node) → at (folder l) q ≡ x → Present x ⊎ Present (at (folder r) q)
          → side_text w v (row_of l q) (row_of r q) ≡ path_text (spelled_by x (spelled_in p (folder (tree_of w)) q) (spelled_in p (folder (tree_of v)) q))
      go absent e (inl h) = absurd h
      go absent e (inr h) = let t = there p v U v-small q h in side_right w v (row_of l q) (row_of r q) (nowhere p w W w-small q e) t.0 ∙ ap path_text t.1
      go (file c) e s = own (rw e tt)
      go (folder k) e s = own (rw e tt)

  entries-text : (xs : Lines) → Sided l r xs → entries_text w v (length xs) (list_words l r xs) ≡ lines_text (map (spelled_line p (tree_of w) (tree_of v)) xs)
  unfolding entries_text entry_text lines_text words_of Sided
  entries-text [] s = refl
  entries-text (line q d ∷ xs) s = rw (side-text q s.0, entries-text xs s.1)

  -- spelling changes no kind
  same-tally : (xs : Lines) → tally_of (map (spelled_line p (tree_of w) (tree_of v)) xs) ≡ tally_of xs
  unfolding tally_of
  same-tally [] = refl
  same-tally (line q agreed ∷ xs) = same-tally xs
  same-tally (line q left_gets ∷ xs) = rw (same-tally xs)
  same-tally (line q right_gets ∷ xs) = rw (same-tally xs)
  same-tally (line q clash ∷ xs) = rw (same-tally xs)

  -- the list of any lines that stand on a side each
  plan-text : (xs : Lines) → Sided l r xs → plan_bytes w v (list_words l r xs) (tally_of xs) ≡ plan_text (map (spelled_line p (tree_of w) (tree_of v)) xs)
  unfolding plan_bytes plan_text
  plan-text xs s =
      let n : length (list_words l r xs) / 3 ≡ length xs = omega (arith, length-list l r xs) in
      rw (n, entries-text xs s, same-tally xs)

  -- the list of a run
  pub run-text : (o : List ℕ)
      → let xs = (outcome_in p (tree_of o) (tree_of w) (tree_of v)).lines in
      plan_bytes w v (list_words l r xs) (tally_of xs) ≡ run_text p (tree_of o) (tree_of w) (tree_of v)
  unfolding run_text
  run-text o = plan-text (outcome_in p (tree_of o) (tree_of w) (tree_of v)).lines (listed-sided (fold p (tree_of o)) l r)

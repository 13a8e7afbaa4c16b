-- DEMAND 3 over calls: for all words, all rooms, any choice of the listed moves in any order, each accepted, in either profile.
use mathlib.Core.Path.{◌≡◌, ap, ap₂, ◌∙◌}
use mathlib.Core.List.{List, [], ◌∷◌, map}
use mathlib.Core.Bool.{Bool, true, false}
use native.Mathlib.Omega.{arith}
use lib.ListN.{length}
use Prim.Native.Nat.{ℕ, suc, ◌≤◌}
use Rattle.tree.specs.Forest.{Forest}
use Rattle.tree.specs.Rules.{Words32}
use Rattle.tree.specs.declared.Profile.{Profile}
use Rattle.tree.specs.Key.{fold}
use Rattle.settle.specs.Spelled.{fold_outcome, fold_line}
use Rattle.settle.specs.Results.{Line, Line.line, Lines, Outcome}
use Rattle.settle.specs.Resume.{Sides, keep_if, keep, elsewhere, minus, is_clash, with_lines}
use Rattle.table_row.specs.Buffer.{over}
use Rattle.table_row.specs.Tree.{table, tree_of}
use Rattle.table_rules.specs.Answer.{is_accepted}
use Rattle.plan.specs.Items.{list_words}
use Rattle.plan_run.specs.Run.{given, Lent, run_due, run_of}
use Rattle.tree.proofs.Folds.{size-fold}
use Rattle.settle.proofs.Spelled.{resumes_in, finishes_in, closes_in, formed-left, formed-right, formed-archive}
use Rattle.plan_run.proofs.Accepted.{Room, Passed, passed, accepted}
use Rattle.demands.specs.Demand3.{others, AsMuch, Reruns, Finishing, Closing}
use Rattle.demands.proofs.Tab.{Tab, tab-tree, tab-passes, passes-tab, formed-tab}
use Rattle.demands.proofs.Made.{carried-all}

-- a list with some lines left out is no longer
keep-length : (f : Line → Bool) (xs : Lines) → length (keep f xs) ≤ length xs
unfolding keep
keep-length f [] = omega arith
keep-length f (x ∷ xs) = go (f x) (keep-length f xs)
  where
    go : (w : Bool) → length (keep f xs) ≤ length xs → length (keep_if w x (keep f xs)) ≤ suc (length xs)
    go true h = omega arith
    go false h = omega arith

minus-length : (ms xs : Lines) → length (minus ms xs) ≤ length xs
unfolding minus
minus-length [] xs = omega arith
minus-length (line p d ∷ ms) xs = let a = minus-length ms (keep (elsewhere p) xs) in let b = keep-length (elsewhere p) xs in omega arith

-- the same trees and no longer a list have room where there is as much
as-much : (u : Outcome) (xs : Lines) (b c : Lent) → length xs ≤ length u.lines → AsMuch b c → Room u b → Room (with_lines xs u) c
as-much u xs b c h M R = record {
  archive = (R.archive.0, let a = R.archive.1 in let m = M.archive in omega arith);
  left = (R.left.0, let a = R.left.1 in let m = M.left in omega arith);
  right = (R.right.0, let a = R.right.1 in let m = M.right in omega arith);
  list = let a = R.list in let m = M.list in omega arith;
}

-- trees have as many entries after folding
fold-room : (p : Profile) (u : Outcome) (b : Lent) → Room u b → Room (fold_outcome p u) b
fold-room p u b R = record {
  archive = rw (size-fold p u.archive) R.archive;
  left = rw (size-fold p u.left) R.left;
  right = rw (size-fold p u.right) R.right;
  list = R.list;
}

unfold-room : (p : Profile) (u : Outcome) (b : Lent) → Room (fold_outcome p u) b → Room u b
unfold-room p u b R = record {
  archive = rw (size-fold p u.archive) at R.archive;
  left = rw (size-fold p u.left) at R.left;
  right = rw (size-fold p u.right) at R.right;
  list = R.list;
}

-- a run whose outcome is another's after folding, but for the lines xs, has room where there is as much
again : (p : Profile) (u v : Outcome) (xs : Lines) (b c : Lent) → fold_outcome p v ≡ with_lines xs (fold_outcome p u) → length xs ≤ length u.lines → AsMuch b c → Room u b → Room v c
again p u v xs b c e h M R = unfold-room p v c (rw e (as-much (fold_outcome p u) xs b c h M (fold-room p u b R)))

module _ (p : Profile) (o l r : List ℕ) (b : Lent) (wo : Words32 o) (wl : Words32 l) (wr : Words32 r) (h : is_accepted (run_due p o l r b) ≡ true) where
  P : Passed p o l r b
  P = passed p o l r b h

  to : Tab p o (tree_of o)
  to = passes-tab p o wo P.archive-passes

  tl : Tab p l (tree_of l)
  tl = passes-tab p l wl P.left-passes

  tr : Tab p r (tree_of r)
  tr = passes-tab p r wr P.right-passes

  pub rerun : Reruns p o l r b
  unfolding run_of
  rerun ms t c chosen carried much =
      let u = given p o l r in
      let v = given p o t.left t.right in
      let s : Sides = record { left = tree_of l; right = tree_of r } in
      let B = carried-all p ms (record { left = l; right = r }) t s carried (record { left = tl; right = tr }) in
      let same : fold_outcome p v ≡ with_lines (others p ms o l r) (fold_outcome p u) =
      rw (tab-tree p t.left _ B.left, tab-tree p t.right _ B.right)
      (resumes_in p (tree_of o) (tree_of l) (tree_of r) to.formed.sorted tl.formed.sorted tr.formed.sorted ms chosen) in
      let due = accepted p o t.left t.right c (record {
        archive-passes = P.archive-passes;
        left-passes = tab-passes p t.left _ B.left;
        right-passes = tab-passes p t.right _ B.right;
        room = again p u v (others p ms o l r) b c same (minus-length (map (fold_line p) ms) u.lines) much P.room;
      }) in
      record {
        accepted = rw due;
        lines = ap (λ (x : Outcome). x.lines) same;
        list = rw due (ap (λ (x : Outcome). over c.list (list_words (fold p (tree_of t.left)) (fold p (tree_of t.right)) x.lines)) same);
        archive = record { tree = v.archive; words = rw due; same = ap (λ (x : Outcome). x.archive) same };
        left = record { tree = v.left; words = rw due; same = ap (λ (x : Outcome). x.left) same };
        right = record { tree = v.right; words = rw due; same = ap (λ (x : Outcome). x.right) same };
      }

  pub finishing : Finishing p o l r
  finishing ms t chosen carried all =
      let s : Sides = record { left = tree_of l; right = tree_of r } in
      let B = carried-all p ms (record { left = l; right = r }) t s carried (record { left = tl; right = tr }) in
      let e = finishes_in p (tree_of o) (tree_of l) (tree_of r) to.formed.sorted tl.formed.sorted tr.formed.sorted ms chosen all in
      record {
        left = record { tree = _; words = B.left.is; same = ap (λ (x : Sides). x.left) e };
        right = record { tree = _; words = B.right.is; same = ap (λ (x : Sides). x.right) e };
      }

  pub closing : (c : Lent) → AsMuch b c → Closing p o l r c
  unfolding run_of
  closing c much =
      let u = given p o l r in
      let v = given p (table u.archive) (table u.left) (table u.right) in
      let ta = formed-tab p u.archive (formed-archive p (tree_of o) (tree_of l) (tree_of r) to.formed tl.formed tr.formed) P.room.archive.0 in
      let tb = formed-tab p u.left (formed-left p (tree_of o) (tree_of l) (tree_of r) to.formed tl.formed tr.formed) P.room.left.0 in
      let tc = formed-tab p u.right (formed-right p (tree_of o) (tree_of l) (tree_of r) to.formed tl.formed tr.formed) P.room.right.0 in
      let same : fold_outcome p v ≡ with_lines (keep is_clash u.lines) (fold_outcome p u) =
      rw (tab-tree p (table u.archive) u.archive ta, tab-tree p (table u.left) u.left tb, tab-tree p (table u.right) u.right tc)
      (closes_in p (tree_of o) (tree_of l) (tree_of r) to.formed.sorted tl.formed.sorted tr.formed.sorted) in
      let due = accepted p (table u.archive) (table u.left) (table u.right) c (record {
        archive-passes = tab-passes p (table u.archive) u.archive ta;
        left-passes = tab-passes p (table u.left) u.left tb;
        right-passes = tab-passes p (table u.right) u.right tc;
        room = again p u v (keep is_clash u.lines) b c same (keep-length is_clash u.lines) much P.room;
      }) in
      record {
        accepted = rw due;
        lines = ap (λ (x : Outcome). x.lines) same;
        list = rw due
            (ap (λ (x : Outcome). over c.list (list_words (fold p (tree_of (table u.left))) (fold p (tree_of (table u.right))) x.lines)) same
            ∙ ap₂ (λ (x y : Forest). over c.list (list_words (fold p x) (fold p y) (keep is_clash u.lines))) (tab-tree p (table u.left) u.left tb)
            (tab-tree p (table u.right) u.right tc));
        archive = record { tree = v.archive; words = rw due; same = ap (λ (x : Outcome). x.archive) same };
        left = record { tree = v.left; words = rw due; same = ap (λ (x : Outcome). x.left) same };
        right = record { tree = v.right; words = rw due; same = ap (λ (x : Outcome). x.right) same };
      }

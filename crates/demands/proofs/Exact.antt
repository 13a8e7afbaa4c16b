-- DEMANDS 2 AND 3 where every byte counts, from the demands in either profile: there a name is its own key.
use mathlib.Core.Path.{◌≡◌, refl, ap, ap₂, sym, ◌∙◌}
use mathlib.Core.List.{List, [], ◌∷◌, map}
use Prim.Native.Nat.{ℕ}
use Rattle.tree.specs.Forest.{Forest}
use Rattle.tree.specs.declared.Profile.TheVariants.{Exact}
use Rattle.tree.specs.Key.{fold}
use Rattle.tree.proofs.Folds.{fold-exact, path-exact}
use Rattle.settle.specs.Results.{Line, Line.line, Lines}
use Rattle.settle.specs.Spelled.{fold_line}
use Rattle.settle.proofs.Spelled.{left-exact, right-exact, archive-exact}
use Rattle.table_row.specs.Buffer.{over}
use Rattle.table_row.specs.Tree.{table, tree_of}
use Rattle.plan_run.specs.Run.{Lent}
use Rattle.demands.specs.Demand2.{Demand2}
use Rattle.demands.specs.Demand3.{Spells, Holds, Reruns, Finishing, Closing}
use Rattle.demands.specs.Exact.{Demand2Exact, RerunsExact, FinishingExact, ClosingExact}

same-exact : (f g : Forest) → fold Exact f ≡ fold Exact g → f ≡ g
same-exact f g e = sym (fold-exact f) ∙ e ∙ fold-exact g

spells-exact : (f : Forest) (w : List ℕ) → Spells Exact f w → w ≡ table f
spells-exact f w s = s.words ∙ ap table (same-exact s.tree f s.same)

holds_exact : (f : Forest) (before after : List ℕ) → Holds Exact f before after → after ≡ over before (table f)
holds_exact f before after s = s.words ∙ ap (λ (g : Forest). over before (table g)) (same-exact s.tree f s.same)

lines-exact : (ms : Lines) → map (fold_line Exact) ms ≡ ms
lines-exact [] = refl
lines-exact (line q d ∷ ms) = ap₂ (λ (x : Line) (xs : Lines). x ∷ xs) (ap (λ x. line x d) (path-exact q)) (lines-exact ms)

pub exact-2 : (o l r : List ℕ) (b : Lent) → Demand2 Exact o l r b → Demand2Exact o l r b
exact-2 o l r b D =
    let S = D.settled in
    record {
      c = D.c;
      d = D.d;
      n = D.n;
      left = D.left;
      right = D.right;
      archive = D.archive;
      synchronized = simp fold-exact at S.synchronized;
      remembered = simp fold-exact at S.remembered;
      only = λ c' d' sc sd h.
          let e = S.only c' d' (rw (fold-exact c') sc) (rw (fold-exact d') sd) (simp fold-exact h) in
          (same-exact c' D.c e.0, same-exact d' D.d e.1);
      only-archive = λ n' sn h. same-exact n' D.n (S.only-archive n' (rw (fold-exact n') sn) (simp fold-exact h));
    }

pub exact-rerun : (o l r : List ℕ) (b : Lent) → Reruns Exact o l r b → RerunsExact o l r b
exact-rerun o l r b R ms t c chosen carried much =
    let X = R ms t c (simp (lines-exact, fold-exact) chosen) carried much in
    record {
      accepted = X.accepted;
      lines = simp (lines-exact, fold-exact) at X.lines;
      list = simp (lines-exact, fold-exact) at X.list;
      archive = rw (archive-exact (tree_of o) (tree_of l) (tree_of r)) at (holds_exact _ _ _ X.archive);
      left = rw (left-exact (tree_of o) (tree_of l) (tree_of r)) at (holds_exact _ _ _ X.left);
      right = rw (right-exact (tree_of o) (tree_of l) (tree_of r)) at (holds_exact _ _ _ X.right);
    }

pub exact-finishing : (o l r : List ℕ) → Finishing Exact o l r → FinishingExact o l r
exact-finishing o l r F ms t chosen carried all =
    let X = F ms t (simp (lines-exact, fold-exact) chosen) carried (simp (lines-exact, fold-exact) all) in
    record {
      left = rw (left-exact (tree_of o) (tree_of l) (tree_of r)) at (spells-exact _ _ X.left);
      right = rw (right-exact (tree_of o) (tree_of l) (tree_of r)) at (spells-exact _ _ X.right);
    }

pub exact-closing : (o l r : List ℕ) (c : Lent) → Closing Exact o l r c → ClosingExact o l r c
exact-closing o l r c C = record {
  accepted = simp (archive-exact, left-exact, right-exact) at C.accepted;
  lines = simp (archive-exact, left-exact, right-exact, fold-exact) at C.lines;
  list = simp (archive-exact, left-exact, right-exact, fold-exact) at C.list;
  archive = simp (archive-exact, left-exact, right-exact) at (holds_exact _ _ _ C.archive);
  left = simp (archive-exact, left-exact, right-exact) at (holds_exact _ _ _ C.left);
  right = simp (archive-exact, left-exact, right-exact) at (holds_exact _ _ _ C.right);
}

-- A move by keys: its inputs are ready to be put in at the parent's row, and what is put in are the words of the moved tree.
use Rattle.table_rules.specs.Answer.{Answer}
use Rattle.std.proofs.Common.{Option, Some, None}
use mathlib.Core.Path.{◌≡◌, refl, sym, ap, ◌∙◌}
use mathlib.Core.List.{List, [], map}
use mathlib.Core.Bool.{true, false}
use native.Mathlib.Omega.{arith}
use lib.ListN.{length, take, drop, get_or, length-take, length-drop}
use Prim.Native.Nat.{ℕ, ◌+◌, ◌*◌, ◌-◌, ◌≤◌}
use Rattle.tree.specs.Name.{Name}
use Rattle.tree.specs.Forest.{Node.folder, at}
use Rattle.tree.specs.Rules.{Words32}
use Rattle.tree.specs.declared.Profile.{Profile}
use Rattle.tree.specs.declared.Profile.TheVariants.{Exact, Folded}
use Rattle.tree.specs.Key.{key}
use Rattle.tree.proofs.Never.{never}
use Rattle.tree.proofs.Folds.{path-exact}
use Rattle.table_row.specs.Tree.{tree_of}
use Rattle.table_row.specs.Keyed.{keyed}
use Rattle.table_row.proofs.Keyed.{tree-keyed, length-keyed, keyed-exact}
use Rattle.table_rules.specs.Keyed.{twins, Passes}
use Rattle.table_rules.proofs.Keyed.{passes-keyed}
use Rattle.table_rules.proofs.Passed.{passed-whole, passed_words}
use Rattle.table_rules.proofs.Exact.{checked-exact}
use Rattle.table_find.specs.Subtree.{end_of}
use Rattle.table_follow.specs.Follow.{follow}
use Rattle.table_moved.specs.declared.Span.{Span}
use Rattle.table_moved.specs.Path.{parent_of, path_of}
use Rattle.table_moved.specs.Move.{is_folder, parent_rule, moved_words}
use Rattle.table_moved.specs.Pieces.{folder_at, pieces, Rows, Ready, Spans, Inputs, ByKeys, CarriedOut}
use Rattle.table_moved.proofs.Names.{path-own, keys-own, carried-keys}
use Rattle.table_moved.proofs.Source.{span-words}
use Rattle.table_moved.proofs.Pieces.{is-folder, no-folder, ready, moved-words}

-- a table of keys passes where every byte counts
pub keys-pass : (p : Profile) (w : List ℕ) → Passes p w → Passes Exact (keyed p w)
unfolding twins
keys-pass p w P = record { checked-fine = checked-exact (keyed p w) ∙ passes-keyed p w P; no-twins = refl }

-- a part that is found is rows
pub span-rows : (w u : List ℕ) (f : Option ℕ) (S : Span) → Spans u f S → length u ≡ length w → length w ≤ 81920 → Rows (take (S.to - S.from) (drop S.from w))
span-rows w u (Some i) S h e m =
    let a : S.from ≡ 20 * i = ap (λ (s : Span). s.from) h.span in
    let b : S.to ≡ 20 * end_of u i = ap (λ (s : Span). s.to) h.span in
    let l : length (take (S.to - S.from) (drop S.from w)) ≡ 20 * end_of u i - 20 * i = simp (length-take, length-drop) (omega (arith, h.first, h.last)) in
    record { whole = omega arith; most = omega (arith, h.last) }
span-rows w u None S h e m =
    let a : S.from ≡ 0 = ap (λ (s : Span). s.from) h.span in
    let b : S.to ≡ 0 = ap (λ (s : Span). s.to) h.span in
    let l : length (take (S.to - S.from) (drop S.from w)) ≡ 0 = simp (length-take, length-drop) (omega arith) in
    record { whole = omega arith; most = omega arith }

module _ (p : Profile) (target keys source : List ℕ) (span : Span) (names : List Name) (depth : ℕ) (I : Inputs p target keys source span names depth) where
  pub keys-exact : Passes Exact keys
  keys-exact = rw I.keyed-target (keys-pass p target I.target-passes)

  pub span-inside : span.to ≤ length source
  span-inside = omega (arith, I.spanned.last, length-keyed p source (passed-whole p source I.source-passes))

  -- number 4
  parent-rule : is_folder (at (folder (tree_of keys)) (parent_of names depth)) ≡ parent_rule p target names depth
  parent-rule = rw (I.keyed-target, tree-keyed p target, path-own p names I.named (depth - 1))

  pub parent-there : (i : ℕ) → folder_at (tree_of keys) (parent_of names depth) ≡ Some i → parent_rule p target names depth ≡ true
  parent-there i e = sym parent-rule ∙ is-folder (tree_of keys) (parent_of names depth) i e

  pub parent-gone : folder_at (tree_of keys) (parent_of names depth) ≡ None → parent_rule p target names depth ≡ false
  parent-gone e = sym parent-rule ∙ no-folder (tree_of keys) (parent_of names depth) e

  module _ (t : Words32 target) (s : Words32 source) (sixteen : length names ≡ 16) (i : ℕ) (e : folder_at (tree_of keys) (parent_of names depth) ≡ Some i) (inside : 20 * (i + 1) ≤ length keys) where
    abbrev words : List ℕ
    words = take (span.to - span.from) (drop span.from source)

    abbrev n : Name
    n = get_or names (depth - 1) []

    both : Ready p target keys i n words × (moved_words p target source names depth ≡ pieces p target keys i n words)
    both =
        let K = I.keyed-target in
        let S = I.source-passes in
        let a = rw K at e in
        let b = rw K at inside in
        let q = span-words p source S s (path_of names depth) span I.spanned in
        let R = span-rows source (keyed p source) (follow (path_of names depth) (keyed p source)) span I.spanned (length-keyed p source (passed-whole p source S)) (passed_words p source S) in
        rw K (
          ready p target I.target-passes t names I.named sixteen depth I.low I.high i a b source S s words q R,
          moved-words p target I.target-passes t names I.named sixteen depth I.low I.high i a b source S s words q R,
        )

    pub inputs-ready : Ready p target keys i n words
    inputs-ready = both.0

    pub inputs-moved : moved_words p target source names depth ≡ pieces p target keys i n words
    inputs-moved = both.1

-- where every byte counts the tables and the names are their own keys
pub exact-inputs : (p : Profile) (target source : List ℕ) (span : Span) (names : List Name) (depth : ℕ) → p ≡ Exact → Passes p target → Passes p source → 1 ≤ depth → depth ≤ 16
    → Spans source (follow (path_of names depth) source) span → Inputs p target target source span names depth
exact-inputs Exact target source span names depth e T S l h a = record {
  target-passes = T;
  source-passes = S;
  keyed-target = sym (keyed-exact target (passed-whole Exact target T));
  spanned = rw (keyed-exact source (passed-whole Exact source S)) a;
  named = path-exact names;
  low = l;
  high = h;
}
exact-inputs Folded target source span names depth e T S l h a = never (cc)

-- a path of keys leads where its names do
pub by-keys : (target keys source : List ℕ) (names path : List Name) (depth : ℕ) → Passes Folded target × Passes Folded source × (1 ≤ depth) × (depth ≤ 16)
    → path ≡ map (key Folded) names → keys ≡ keyed Folded target → ByKeys target keys source path depth
by-keys target keys source names path depth h k v =
    record { target-passes = h.0; source-passes = h.1; keyed-target = v; named = rw k (keys-own Folded names); low = h.2; high = h.3 }

pub folded-carried : (target source : List ℕ) (names keys : List Name) (depth : ℕ) (lent result : List ℕ) (answer : Answer) → keys ≡ map (key Folded) names
    → CarriedOut Folded target source keys depth lent result answer → CarriedOut Folded target source names depth lent result answer
folded-carried target source names keys depth lent result answer k C = carried-keys Folded target source names depth lent result answer (rw k at C)

-- A path of at most sixteen good names, given in slots: it is the path that the slots hold, and no slot is bad.
use mathlib.Core.Path.{◌≡◌, refl, ap, ◌∙◌}
use mathlib.Core.List.{List, [], ◌∷◌, ◌++◌}
use mathlib.Core.Bool.{true}
use native.Mathlib.Omega.{arith}
use lib.ListN.{length, replicate, length-append, length-replicate}
use lib.Seq.{take_at}
use Prim.Native.Nat.{ℕ, zero, suc, ◌-◌, ◌≤◌}
use borrow.Author.Rules.{rules}
use borrow.Author.Tests.{le-leb}
use Rattle.tree.specs.Forest.{TreePath}
use Rattle.tree.specs.Rules.{Words32, zeros, NameRule, AllNames}
use Rattle.tree.specs.declared.Profile.{Profile}
use Rattle.settle.specs.Spelled.{moved_in}
use Rattle.table_row.specs.Tree.{root_name, table, tree_of}
use Rattle.table_moved.specs.Path.{Eights, path_of, slots_of, slots, path_rule}
use Rattle.table_moved.specs.Move.{moved_words}

-- k slots of zeros
empty-slots : (k : ℕ) → slots 0 (replicate k root_name) ≡ true
unfolding slots zeros
empty-slots zero = refl
empty-slots (suc k) = empty-slots k

empty-eights : (k : ℕ) → Eights (replicate k root_name)
unfolding Eights Words32
empty-eights zero = tt
empty-eights (suc k) = (refl, search rules, empty-eights k)

-- names before them
named-slots : (p : TreePath) (k : ℕ) → AllNames NameRule p → slots (length p) (p ++ replicate k root_name) ≡ true
unfolding slots AllNames
named-slots [] k N = empty-slots k
named-slots (n ∷ p) k N = rw N.0.good (named-slots p k N.1)

named-eights : (p : TreePath) (k : ℕ) → AllNames NameRule p → Eights (p ++ replicate k root_name)
unfolding Eights AllNames
named-eights [] k N = empty-eights k
named-eights (n ∷ p) k N = (N.0.eight, N.0.small, named-eights p k N.1)

module _ (p : TreePath) where
  pub given-path : path_of (slots_of p) (length p) ≡ p
  given-path = take_at p (replicate (16 - length p) root_name) (length p) refl

  pub given-length : length p ≤ 16 → length (slots_of p) ≡ 16
  given-length h = length-append p (replicate (16 - length p) root_name) ∙ (let e = length-replicate (16 - length p) root_name in omega arith)

  pub given-words : (r : Profile) (target source : List ℕ) → moved_words r target source (slots_of p) (length p) ≡ table (moved_in r p (tree_of source) (tree_of target))
  given-words r target source = ap (λ (q : TreePath). table (moved_in r q (tree_of source) (tree_of target))) given-path

  module _ (N : AllNames NameRule p) where
    pub given-rule : 1 ≤ length p → length p ≤ 16 → path_rule (slots_of p) (length p) ≡ true
    unfolding path_rule
    given-rule a b = rw (le-leb 1 (length p) a, le-leb (length p) 16 b) (named-slots p (16 - length p) N)

    pub given-eights : Eights (slots_of p)
    given-eights = named-eights p (16 - length p) N

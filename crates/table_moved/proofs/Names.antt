-- A path's names and their keys: a path of keys is its own, and what a move is turns on a path's keys alone.
use mathlib.Core.Path.{◌≡◌, refl, sym, ap, ap₂, ◌∙◌}
use mathlib.Core.List.{List, [], ◌∷◌, map}
use native.Mathlib.Omega.{arith}
use native.Mathlib.Nat.{le_of_suc-le-suc}
use lib.ListN.{length, take, get_or}
use Prim.Native.Nat.{ℕ, zero, suc, ◌-◌, ◌<◌}
use Rattle.table_rules.specs.Answer.{Answer}
use Rattle.tree.specs.Name.{Name}
use Rattle.tree.specs.Forest.{TreePath}
use Rattle.tree.specs.declared.Profile.{Profile}
use Rattle.tree.specs.Key.{key, fold_path}
use Rattle.tree.proofs.Keys.{key-idem}
use Rattle.settle.specs.Spelled.{moved_in}
use Rattle.table_moved.specs.Pieces.{CarriedOut}

module _ (p : Profile) where
  take-keys : (n : ℕ) (ms : List Name) → fold_path p (take n ms) ≡ take n (map (key p) ms)
  take-keys zero ms = refl
  take-keys (suc n) [] = refl
  take-keys (suc n) (m ∷ ms) = ap (λ (x : List Name). key p m ∷ x) (take-keys n ms)

  path-idem : (q : TreePath) → fold_path p (fold_path p q) ≡ fold_path p q
  path-idem [] = refl
  path-idem (n ∷ q) = ap₂ (λ (m : Name) (x : TreePath). m ∷ x) (key-idem p n) (path-idem q)

  pub length-path : (q : TreePath) → length (fold_path p q) ≡ length q
  length-path [] = refl
  length-path (n ∷ q) = ap suc (length-path q)

  key-at : (ms : List Name) (i : ℕ) → i < length ms → get_or (map (key p) ms) i [] ≡ key p (get_or ms i [])
  key-at [] i h = absurd (omega arith)
  key-at (m ∷ ms) zero h = refl
  key-at (m ∷ ms) (suc i) h = key-at ms i (le_of_suc-le-suc h)

  -- names that are all their own keys
  module _ (ms : List Name) (e : map (key p) ms ≡ ms) where
    pub path-own : (n : ℕ) → fold_path p (take n ms) ≡ take n ms
    path-own n = take-keys n ms ∙ ap (take n) e

    pub name-own : (i : ℕ) → i < length ms → key p (get_or ms i []) ≡ get_or ms i []
    name-own i h = sym (key-at ms i h) ∙ ap (λ (x : List Name). get_or x i []) e

  pub keys-own : (ms : List Name) → map (key p) (map (key p) ms) ≡ map (key p) ms
  keys-own = path-idem

  -- names and their keys give one move
  pub carried-keys : (target source : List ℕ) (ms : List Name) (n : ℕ) (lent result : List ℕ) (answer : Answer)
      → CarriedOut p target source (map (key p) ms) n lent result answer → CarriedOut p target source ms n lent result answer
  unfolding moved_in
  carried-keys target source ms n lent result answer C = rw (path n, path (n - 1)) at C
    where
      path : (n : ℕ) → fold_path p (take n (map (key p) ms)) ≡ fold_path p (take n ms)
      path n = ap (fold_path p) (sym (take-keys n ms)) ∙ path-idem (take n ms)

-- a list of keys, name by name
pub all-keys : (p : Profile) (ms ks : List Name) → length ks ≡ length ms → ((i : ℕ) → i < length ms → get_or ks i [] ≡ key p (get_or ms i [])) → ks ≡ map (key p) ms
all-keys p ms ks e h = go ms ks e h
  where
    go : (ms ks : List Name) → length ks ≡ length ms → ((i : ℕ) → i < length ms → get_or ks i [] ≡ key p (get_or ms i [])) → ks ≡ map (key p) ms
    go [] [] e h = refl
    go [] (k ∷ ks) e h = absurd (omega arith)
    go (m ∷ ms) [] e h = absurd (omega arith)
    go (m ∷ ms) (k ∷ ks) e h = ap₂ (λ (x : Name) (y : List Name). x ∷ y) (h 0 (omega arith)) (go ms ks (omega arith) (λ i l. h (suc i) (omega arith)))

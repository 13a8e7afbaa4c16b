-- An entry put into the folder last opened keeps what is known of the state.
use mathlib.Core.Bool.{Bool, cond, false, false≢true, true}
use mathlib.Core.List.{[], ◌++◌, ◌∷◌}
use mathlib.Core.Path.{◌∙◌, ◌≡◌, ap, refl}
use native.Mathlib.Omega.{arith}
use lib.Dec.{leb, ltb}
use lib.ListN.{length, length-append}
use Prim.Native.Nat.{ℕ, suc, ◌+◌, ◌-◌, ◌<◌, ◌≤◌}
use borrow.Author.Tests.{leb-false, ltb-true}
use Rattle.tree.specs.Name.{Name}
use Rattle.tree.specs.Forest.{Present, Forest, Node, Node.absent, Node.file, Node.folder, Sorted, SortedNode, TreePath, at, kids, size}
use Rattle.tree.specs.Put.{put, Reaches}
use Rattle.tree.specs.Key.{fold, fold_node, fold_path, key, put_in}
use Rattle.tree.specs.declared.Profile.{Profile}
use Rattle.tree.specs.Rules.{ContentRule, NameRule, Within, AllNames}
use Rattle.tree.proofs.Put.{put-here, sorted-put, put-folder}
use Rattle.tree.proofs.Size.{size-put, row_count}
use Rattle.tree.proofs.Rules.{under, under-length, WithinNode}
use Rattle.tree.proofs.Folds.{size-fold}
use Rattle.tree.proofs.Spots.{fold-put-last, path-append, put_in-folder, within-put_in}
use Rattle.listing.specs.Accepted.{Fit, GoodState, GoodStep, Inside, IsFolder}
use Rattle.listing.specs.Entries.{Entry.holds, Said}
use Rattle.listing.specs.Reading.{Step.goes, Step.stops, at_key, is_absent, opened, placed}
use Rattle.listing.proofs.Parent.{folder-above, parent-last}
use Rattle.listing.proofs.Kept.{GoodEntry, all-last}

-- what an entry holds is one row
pub record OneRow (x : Node) : Type 0 where
  pub one : row_count x ≡ 1
  pub sorted : SortedNode x
  pub within : (d : ℕ) → WithinNode NameRule ContentRule d x
  pub there : Present x
  pub nameless : (p : Profile) → fold_node p x ≡ x

pub one-row : (x : Node) → GoodEntry (holds x) → OneRow x
unfolding fold Sorted Within size
one-row absent h = absurd h
one-row (file c) h = record { one = refl; sorted = tt; within = λ d. h; there = tt; nameless = λ p. refl }
one-row (folder k) h =
    record { one = ap (λ (j : Forest). suc (size j)) h; sorted = rw h tt; within = λ d. rw h tt; there = tt; nameless = λ p. rw h }

pub is-absent : (x : Node) → is_absent x ≡ true → x ≡ absent
is-absent absent e = refl
is-absent (file c) e = absurd (false≢true e)
is-absent (folder k) e = absurd (false≢true e)

-- an entry of a free name, put into the folder last opened: by key it is put into the tree of keys
module _ (p : Profile) (most : ℕ) (n : Name) (x : Node) (f : Forest) (q : TreePath)
    (rule : NameRule n) (row : OneRow x) (h : Inside p most f q)
    (less : length q < 16) (free : at_key p f (q ++ (n ∷ [])) ≡ absent) (room : suc (size f) < most) where
  path : TreePath
  path = q ++ (n ∷ [])

  keys : TreePath
  keys = fold_path p q ++ (key p n ∷ [])

  keys-path : fold_path p path ≡ keys
  unfolding path keys
  keys-path = path-append p q (n ∷ [])

  grown : Forest
  grown = kids (put_in p path x (folder f))

  fold-grown : folder (fold p grown) ≡ put keys x (folder (fold p f))
  unfolding grown path keys
  fold-grown = ap folder (fold-put-last p q n x f) ∙ rw (keys-path, row.nameless p) (put-folder (fold_path p q) (key p n) x (fold p f))

  parent : Reaches keys (folder (fold p f))
  unfolding keys
  parent = parent-last (fold_path p q) (key p n) (folder (fold p f)) h.here

  at_new : at (folder (fold p grown)) keys ≡ x
  at_new = rw fold-grown (put-here keys x (folder (fold p f)) h.fit.good.sorted parent)

  all-path : AllNames NameRule path
  unfolding path
  all-path = all-last NameRule q n h.named rule

  sorted-new : Sorted (fold p grown)
  sorted-new = rw (← fold-grown) at (sorted-put keys x (folder (fold p f)) row.sorted h.fit.good.sorted)

  within_new : Within NameRule ContentRule 16 grown
  unfolding grown path
  within_new =
      let e : under path (15 - length q) ≡ 16 = omega (arith, under-length path (15 - length q), length-append q (n ∷ [])) in
      let k : WithinNode NameRule ContentRule (under path (15 - length q)) (folder f) = rw e h.fit.good.within in
      rw (e, ← put_in-folder p q n x f) at (within-put_in p NameRule ContentRule (15 - length q) path x (folder f) all-path (row.within (15 - length q)) k)

  size-new : suc (size grown) ≤ most
  unfolding path
  size-new =
      let e : at (folder (fold p f)) keys ≡ absent = rw (← keys-path) free in
      omega (arith, size-put keys x (folder (fold p f)) h.fit.good.sorted parent, row.one, ap row_count e, ap row_count fold-grown, size-fold p grown, size-fold p f)

  fit-new : Fit p most grown
  fit-new = record { good = record { sorted = sorted-new; within = within_new }; room = size-new }

  good-file : Inside p most grown q
  unfolding keys
  good-file =
      record { fit = fit-new; here = folder-above (fold_path p q) (key p n) (folder (fold p grown)) (rw at_new row.there); named = h.named; deep = h.deep }

  good-folder : IsFolder x → Inside p most grown path
  unfolding path
  good-folder folders =
      record {
        fit = fit-new;
        here = rw (keys-path, at_new) folders;
        named = all-path;
        deep = omega (arith, length-append q (n ∷ []));
      }

good-opened : (p : Profile) (most : ℕ) (n : Name) (x : Node) (f : Forest) (q : TreePath) (d : Said) → NameRule n → OneRow x → Inside p most f q
    → length q < 16 → at_key p f (q ++ (n ∷ [])) ≡ absent → suc (size f) < most
    → GoodState p most (opened n x (kids (put_in p (q ++ (n ∷ [])) x (folder f))) q d)
unfolding grown path
good-opened p most n absent f q d rule row h less free room = absurd row.there
good-opened p most n (file c) f q d rule row h less free room = good-file p most n (file c) f q rule row h less free room
good-opened p most n (folder k) f q d rule row h less free room = good-folder p most n (folder k) f q rule row h less free room tt

pub good_placed : (p : Profile) (most : ℕ) (n : Name) (x : Node) (f : Forest) (q : TreePath) (d : Said) → NameRule n → OneRow x → Inside p most f q
    → GoodStep p most (placed p most n x f q d)
unfolding placed
good_placed p most n x f q d rule row h =
    go (leb 16 (length q)) (is_absent (at_key p f (q ++ (n ∷ [])))) (ltb (suc (size f)) most) refl refl refl
  where
    go : (t u v : Bool) → leb 16 (length q) ≡ t → is_absent (at_key p f (q ++ (n ∷ []))) ≡ u → ltb (suc (size f)) most ≡ v
        → GoodStep p most (cond t (stops 14) (cond u (cond v (goes (opened n x (kids (put_in p (q ++ (n ∷ [])) x (folder f))) q d)) (stops 3)) (stops 13)))
    go true u v a e r = tt
    go false true true a e r = good-opened p most n x f q d rule row h (leb-false 16 (length q) a) (is-absent _ e) (ltb-true _ most r)
    go false true false a e r = tt
    go false false v a e r = tt

-- An entry placed in a folder whose entries are known, and a folder closed, below any path; and the open folder of a tree once other
-- entries were merged with those of its root.
use mathlib.Core.Path.{◌≡◌, refl, ap, sym, subst, ◌∙◌}
use mathlib.Core.List.{[], ◌∷◌, ◌++◌, append_assoc}
use mathlib.Core.Bool.{Bool, true, false, cond}
use native.Mathlib.Omega.{arith}
use lib.Dec.{leb, ltb}
use lib.ListN.{length, get_or, length-append}
use Prim.Native.Nat.{ℕ, suc, ◌+◌, ◌-◌, ◌<◌}
use borrow.Author.Tests.{lt-leb, lt-ltb, leb-false, ltb-true}
use Rattle.tree.specs.Name.{Name}
use Rattle.tree.specs.Forest.{Forest, Node, Node.absent, Node.file, Node.folder, TreePath, Present, Sorted, kids, size}
use Rattle.tree.specs.Key.{key, fold, fold_node, fold_path, entry, put_in, update_in}
use Rattle.tree.specs.declared.Profile.{Profile}
use Rattle.tree.proofs.Never.{never}
use Rattle.tree.proofs.Folds.{entry-fold, fold-absent, reach, reach-absent, reach-fold}
use Rattle.tree.proofs.Size.{row_count}
use Rattle.listing.specs.Accepted.{Inside, IsFolder}
use Rattle.listing.specs.Entries.{Said}
use Rattle.listing.specs.Reading.{State, State.inside, State.closed, Step.stops, Step.goes, at_key, close, front, is_absent, opened, placed}
use Rattle.listing.proofs.Kept.{split-last}
use Rattle.listing.proofs.Entered.{is-absent}
use Rattle.listing.proofs.Steps.{front-last}
use Rattle.listing_layout.proofs.Siblings.{Compared, Compared.one, Compared.two, compared, entry_other, entry-same}
use Rattle.listing_layout.proofs.Merge.{Apart, entry-there, free-both, merge, merge_free, merge-update, size-new, sorted_merge}
use Rattle.listing_layout.proofs.Fill.{fill, Has, has-sorted, has-entry, fill-last, put-present, size-fill}

folder-of : (p : Profile) (x : Node) → IsFolder (fold_node p x) → x ≡ folder (kids x)
folder-of p absent h = absurd h
folder-of p (file c) h = absurd h
folder-of p (folder k) h = refl

-- the entries of the folder last opened
pub inside-has : (p : Profile) (most : ℕ) (f : Forest) (q : TreePath) → Inside p most f q → Has p q (kids (reach p (folder f) (fold_path p q))) f
inside-has p most f q h =
    record { sorted = h.fit.good.sorted; here = folder-of p (reach p (folder f) (fold_path p q)) (rw (reach-fold p (fold_path p q) (folder f)) h.here) }

-- there is a place for one row more, called n
pub record Place (p : Profile) (most : ℕ) (q : TreePath) (k f : Forest) (n : Name) : Type 0 where
  pub less : length q < 16
  pub free : entry p (key p n) k ≡ absent
  pub room : suc (size f) < most

module _ {p : Profile} {q : TreePath} {k f : Forest} (h : Has p q k f) (n : Name) where
  found : at_key p f (q ++ (n ∷ [])) ≡ fold_node p (entry p (key p n) k)
  found = has-entry h n ∙ sym (entry-fold p (key p n) k)

  pub size-placed : (x : Node) → entry p (key p n) k ≡ absent → size (fill p q (update_in p n x k) f) ≡ size f + row_count x
  size-placed x e = omega (arith, size-fill h (update_in p n x k), size-new p n x k (has-sorted h) e)

module _ {p : Profile} {most : ℕ} {q : TreePath} {k f : Forest} (h : Has p q k f) (n : Name) (x : Node) (d : Said) where
  pub placed-goes : Place p most q k f n → placed p most n x f q d ≡ goes (opened n x (fill p q (update_in p n x k) f) q d)
  unfolding placed
  placed-goes P = rw (lt-leb 16 (length q) P.less, found h n, P.free, lt-ltb (suc (size f)) most P.room, fill-last h n x)

  pub placed-back : (s : State) → placed p most n x f q d ≡ goes s → Place p most q k f n
  unfolding placed
  placed-back s e = go (leb 16 (length q)) (is_absent (at_key p f (q ++ (n ∷ [])))) (ltb (suc (size f)) most) refl refl refl e
    where
      go : (t u v : Bool) → leb 16 (length q) ≡ t → is_absent (at_key p f (q ++ (n ∷ []))) ≡ u → ltb (suc (size f)) most ≡ v
          → cond t (stops 14) (cond u (cond v (goes (opened n x (kids (put_in p (q ++ (n ∷ [])) x (folder f))) q d)) (stops 3)) (stops 13)) ≡ goes s
          → Place p most q k f n
      go true u v a b c z = never (cc)
      go false false v a b c z = never (cc)
      go false true false a b c z = never (cc)
      go false true true a b c z =
          record { less = leb-false 16 (length q) a; free = fold-absent p _ (sym (found h n) ∙ is-absent _ b); room = ltb-true (suc (size f)) most c }

-- the open path after an entry: a folder opens itself
abbrev pub path_after : Name → Node → TreePath → TreePath
path_after n absent r = r
path_after n (file c) r = r
path_after n (folder k) r = r ++ (n ∷ [])

pub opens : (n : Name) (x : Node) (q r : TreePath) (f : Forest) (d : Said) → opened n x f (q ++ r) d ≡ inside f (q ++ path_after n x r) d
opens n absent q r f d = refl
opens n (file c) q r f d = refl
opens n (folder k) q r f d = rw (append_assoc q r (n ∷ []))

-- what closes is the root, or a folder that is not
pub data Shut (f : Forest) (q : TreePath) (d : Said) : Type 0 where
  root-shut : close f q d ≡ closed f → Shut f q d
  folder-shut : 0 < length q → close f q d ≡ inside f (front q) d → Shut f q d

pub shut : (f : Forest) (q : TreePath) (d : Said) → Shut f q d
shut f [] d = root-shut refl
shut f (n ∷ q) d = folder-shut (omega arith) refl

pub front_below : (q r : TreePath) → 0 < length r → front (q ++ r) ≡ q ++ front r
front_below q r some =
    let m : Name = get_or r (length r - 1) [] in
    ap (λ (u : TreePath). front (q ++ u)) (split-last r some) ∙ ap front (sym (append_assoc q (front r) (m ∷ []))) ∙ front-last (q ++ front r) m

close-below : (f : Forest) (q : TreePath) (d : Said) → 0 < length q → close f q d ≡ inside f (front q) d
close-below f [] d some = absurd (omega arith)
close-below f (n ∷ q) d some = refl

pub closes : (q r : TreePath) → 0 < length r → (f : Forest) (d : Said) → close f (q ++ r) d ≡ inside f (q ++ front r) d
closes q r some f d = close-below f (q ++ r) d (omega (arith, length-append q r)) ∙ ap (λ (u : TreePath). inside f u d) (front_below q r some)

-- an entry more, and what stood in the folder stands there still
pub new-keeps : (p : Profile) (n : Name) (x : Node) (k : Forest) → Present x → entry p (key p n) k ≡ absent → (c : TreePath) → Present (reach p (folder k) c)
    → Present (reach p (folder (update_in p n x k)) c)
unfolding reach
new-keeps p n x k h free [] there = tt
new-keeps p n x k h free (m ∷ c) there = go (compared m (key p n))
  where
    go : Compared m (key p n) → Present (reach p (entry p m (update_in p n x k)) c)
    go (one e) = absurd (rw (e, free, reach-absent p c) at there)
    go (two d) = rw (entry_other p n m d x h k) there

-- what has something below it is there
pub reach-there : (p : Profile) (c : TreePath) (x : Node) → Present (reach p x c) → Present x
reach-there p c absent u = rw (reach-absent p c) at u
reach-there p c (file b) u = tt
reach-there p c (folder k) u = tt

-- the entries of the open folder, once j was merged with the entries of the root
abbrev pub among : Profile → Forest → TreePath → Forest → Forest
among p j [] k = merge p j k
among p j (m ∷ r) k = k

module _ (p : Profile) (j : Forest) where
  pub has-among : Sorted (fold p j) → (r : TreePath) (k f : Forest) → Has p r k f → Has p r (among p j r k) (merge p j f)
  unfolding reach
  has-among sj [] k f h =
      let e = h.here in
      let same : f ≡ k = cc in
      record { sorted = sorted_merge p j sj f h.sorted; here = rw same }
  has-among sj (m ∷ r) k f h =
      let same = entry-there p (key p m) j f (reach-there p (fold_path p r) _ (subst Present (sym h.here) tt)) in
      record { sorted = sorted_merge p j sj f h.sorted; here = ap (λ (x : Node). reach p x (fold_path p r)) same ∙ h.here }

  pub fill-among : (r : TreePath) (k f i : Forest) → Has p r k f → fill p r (among p j r i) (merge p j f) ≡ merge p j (fill p r i f)
  unfolding reach put_in
  fill-among [] k f i h = refl
  fill-among (m ∷ r) k f i h =
      rw (entry-there p (key p m) j f (reach-there p (fold_path p r) _ (subst Present (sym h.here) tt)))
      (sym (merge-update p j m _ (put-present p r (folder i) (entry p (key p m) f) k tt h.here) f))

  pub new-among : (r : TreePath) (n : Name) (x : Node) (k : Forest) → Present x → among p j r (update_in p n x k) ≡ update_in p n x (among p j r k)
  new-among [] n x k h = merge-update p j n x h k
  new-among (m ∷ r) n x k h = refl

  -- a new name is free among all, or was so in j
  pub free-among : (r : TreePath) (n : Name) (x : Node) (k f : Forest) → Present x → Has p r k f → entry p (key p n) k ≡ absent → Apart p j (fill p r (update_in p n x k) f)
      → entry p (key p n) (among p j r k) ≡ absent
  unfolding put_in
  free-among [] n x k f h H free a = merge_free p (key p n) j k free (a (key p n) (rw (entry-same p n x h k) h))
  free-among (m ∷ r) n x k f h H free a = free

  pub free-here : (r : TreePath) (n : Name) (k : Forest) → entry p (key p n) (among p j r k) ≡ absent → entry p (key p n) k ≡ absent
  free-here [] n k free = (free-both p (key p n) j k free).0
  free-here (m ∷ r) n k free = free

  apart-update : (n : Name) (x : Node) (f : Forest) → Present x → entry p (key p n) j ≡ absent → Apart p j f → Apart p j (update_in p n x f)
  apart-update n x f h free a c there = go (compared c (key p n))
    where
      go : Compared c (key p n) → entry p c j ≡ absent
      go (one e) = rw e free
      go (two d) = a c (rw (entry_other p n c d x h f) at there)

  pub apart-among : (r : TreePath) (n : Name) (x : Node) (k f : Forest) → Present x → Has p r k f → entry p (key p n) (among p j r k) ≡ absent → Apart p j f
      → Apart p j (fill p r (update_in p n x k) f)
  unfolding put_in reach
  apart-among [] n x k f h H free a =
      let e = H.here in
      let same : f ≡ k = cc in
      apart-update n x k h (free-both p (key p n) j k free).1 (rw same at a)
  apart-among (m ∷ r) n x k f h H free a =
      apart-update m _ f (put-present p r (folder (update_in p n x k)) (entry p (key p m) f) k tt H.here)
      (a (key p m) (reach-there p (fold_path p r) _ (subst Present (sym H.here) tt))) a

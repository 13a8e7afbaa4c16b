-- A part does in any open folder what it does in an empty root: where its entries have a place it puts them among the folder's, and
-- where it is accepted they had one.
use mathlib.Core.Path.{◌≡◌, refl, ap, sym, ◌∙◌}
use mathlib.Core.List.{List, [], ◌∷◌, ◌++◌, append-nil}
use native.Mathlib.Omega.{arith}
use lib.ListN.{length, length-append, length-map}
use Prim.Native.Nat.{ℕ, zero, suc, ◌+◌, ◌<◌, ◌≤◌}
use Rattle.tree.specs.Name.{Name}
use Rattle.tree.specs.Forest.{Forest, Forest.end, Forest.leaf, Forest.dir, Node, Node.absent, Node.folder, TreePath, Present, Sorted, kids, size}
use Rattle.tree.specs.Key.{entry, key, fold, fold_path, update_in}
use Rattle.tree.specs.declared.Profile.{Profile}
use Rattle.tree.specs.Rules.{ContentRule, NameRule, Within}
use Rattle.tree.proofs.Folds.{reach, reach-absent, within-entry}
use Rattle.tree.proofs.Rules.{WithinNode, within-kids}
use Rattle.tree.proofs.Spots.{path-append}
use Rattle.listing.specs.Accepted.{Inside}
use Rattle.listing.specs.Entries.{Said}
use Rattle.listing.specs.Reading.{State, State.inside, State.closed, Step.goes, close, front, line_does, opened, placed}
use Rattle.listing.proofs.Entered.{OneRow}
use Rattle.listing.proofs.Kept.{root-state}
use Rattle.listing_layout.specs.Parts.{through, Part}
use Rattle.listing_layout.proofs.Does.{Does, Does.setting, Does.closing, Does.entering, does, closed-stays}
use Rattle.listing_layout.proofs.Good.{good-line, good-through}
use Rattle.listing_layout.proofs.Runs.{both}
use Rattle.listing_layout.proofs.Siblings.{entry-same, sorted-update_in}
use Rattle.listing_layout.proofs.Merge.{Apart, entry-there, merge, size-merge, sorted_merge}
use Rattle.listing_layout.proofs.Fill.{fill, Has, has-sorted, has-below, fill-below, fill-fill, fill-has, fill-keeps, fill-same, reach-append, size-fill}
use Rattle.listing_layout.proofs.Place.{Place, among, apart-among, closes, fill-among, free-among, has-among, inside-has, new-among, new-keeps, opens, path_after, placed-back, placed-goes, reach-there, shut, Shut, Shut.folder-shut, Shut.root-shut, size-placed}

-- l has all that k has
pub record Grows (p : Profile) (k l : Forest) : Type 0 where
  pub there : (c : TreePath) → Present (reach p (folder k) c) → Present (reach p (folder l) c)
  pub more : size k ≤ size l

grows_same : (p : Profile) (k : Forest) → Grows p k k
grows_same p k = record { there = λ c h. h; more = omega arith }

grows-on : (p : Profile) (k l m : Forest) → Grows p k l → Grows p l m → Grows p k m
grows-on p k l m g h = let a = g.more in let b = h.more in record { there = λ c u. h.there c (g.there c u); more = omega arith }

-- the tree f, whose folder at q has the entries j, may be given k there too
pub record Suits (p : Profile) (most : ℕ) (q : TreePath) (j f k : Forest) : Type 0 where
  pub apart : Apart p j k
  pub deep : (c : TreePath) → Present (reach p (folder k) c) → length q + length c ≤ 16
  pub room : suc (size f + size k) ≤ most

suits-less : {p : Profile} {most : ℕ} {q : TreePath} {j f : Forest} {k l : Forest} → Grows p k l → Suits p most q j f l → Suits p most q j f k
unfolding reach
suits-less g s =
    let a = g.more in
    let b = s.room in
    record { apart = λ c h. s.apart c (g.there (c ∷ []) h); deep = λ c h. s.deep c (g.there c h); room = omega arith }

-- f with the entries k among those of j
abbrev pub given : Profile → TreePath → Forest → Forest → Forest → Forest
given p q j f k = fill p q (merge p j k) f

-- where a line takes the empty root from k, r and d to l, u and e, it does the like where they are given to a folder at q
pub record Twin (p : Profile) (most : ℕ) (q : TreePath) (j f : Forest) (line : List ℕ) (k : Forest) (r : TreePath) (d : Said) (l : Forest) (u : TreePath) (e : Said) : Type 0 where
  pub grows : Grows p k l
  pub onward : Suits p most q j f l → line_does p most line (inside (given p q j f k) (q ++ r) d) ≡ goes (inside (given p q j f l) (q ++ u) e)
  pub back : Apart p j k → (s : State) → line_does p most line (inside (given p q j f k) (q ++ r) d) ≡ goes s → (s ≡ inside (given p q j f l) (q ++ u) e) × Apart p j l

-- a line that was tried closes the root, or has such a twin
pub data Tried (p : Profile) (most : ℕ) (q : TreePath) (j f : Forest) (line : List ℕ) (k : Forest) (r : TreePath) (d : Said) (s : State) : Type 0 where
  ends : s ≡ closed k → Tried p most q j f line k r d s
  twin : (l : Forest) (u : TreePath) (e : Said) → s ≡ inside l u e → Twin p most q j f line k r d l u e → Tried p most q j f line k r d s

module _ {p : Profile} {q : TreePath} {j f : Forest} (h : Has p q j f) where
  pub size-given : (k : Forest) → Sorted (fold p k) → Apart p j k → size (given p q j f k) ≡ size f + size k
  size-given k sk a = omega (arith, size-fill h (merge p j k), size-merge p j (has-sorted h) k sk a)

  pub has-given : (k : Forest) → Sorted (fold p k) → Has p q (merge p j k) (given p q j f k)
  has-given k sk = fill-has h (merge p j k) (sorted_merge p j (has-sorted h) k sk)

  pub has_there : {r : TreePath} {i k : Forest} → Has p r i k → Has p (q ++ r) (among p j r i) (given p q j f k)
  has_there {r} {i} {k} t = has-below (has-given k t.sorted) (has-among p j (has-sorted h) r i k t)

-- an entry n, which is x, in the folder at r of the tree k, which has the entries i
module _ {p : Profile} {most : ℕ} {q : TreePath} {j f : Forest} (h : Has p q j f) {r : TreePath} {i k : Forest} (t : Has p r i k) (n : Name) (x : Node) (row : OneRow x)
    (P : Place p most r i k n) where
  abbrev grown : Forest
  grown = fill p r (update_in p n x i) k

  more_rows : size grown ≡ suc (size k)
  more_rows = let one = row.one in omega (arith, size-placed t n x P.free)

  grown-more : Grows p k grown
  grown-more = record { there = fill-keeps t (update_in p n x i) (new-keeps p n x i row.there P.free); more = omega (arith, more_rows) }

  given-grown : fill p (q ++ r) (update_in p n x (among p j r i)) (given p q j f k) ≡ given p q j f grown
  given-grown =
      fill-below (has-given h k t.sorted) r (update_in p n x (among p j r i)) ∙ fill-fill h (merge p j k) _
      ∙ ap (λ (z : Forest). fill p q z f) (ap (λ (z : Forest). fill p r z (merge p j k)) (sym (new-among p j r n x i row.there)) ∙ fill-among p j r i k (update_in p n x i) t)

  own-path : Present (reach p (folder grown) (fold_path p (r ++ (n ∷ []))))
  unfolding reach
  own-path =
      let g = fill-has t (update_in p n x i) (sorted-update_in p n x (rw (row.nameless p) row.sorted) i (has-sorted t)) in
      rw (path-append p r (n ∷ []), reach-append p (fold_path p r) (key p n ∷ []) (folder grown), g.here, entry-same p n x row.there i) row.there

  placed_on : Suits p most q j f grown → Place p most (q ++ r) (among p j r i) (given p q j f k) n
  placed_on s =
      let room = s.room in
      let deep = s.deep (fold_path p (r ++ (n ∷ []))) own-path in
      record {
        less = omega (arith, length-append q r, length-append r (n ∷ []), length-map (r ++ (n ∷ [])) (key p));
        free = free-among p j r n x i k row.there t P.free s.apart;
        room = omega (arith, size-given h k t.sorted (suits-less grown-more s).apart, more_rows);
      }

  entry-twin : (line : List ℕ) (d : Said) → ((f : Forest) (q : TreePath) → line_does p most line (inside f q d) ≡ placed p most n x f q d)
      → Twin p most q j f line k r d grown (path_after n x r) d
  entry-twin line d puts =
      record {
        grows = grown-more;
        onward = λ s. puts (given p q j f k) (q ++ r) ∙ goes_on (placed_on s);
        back = λ a s e.
            let Q = placed-back (has_there h t) n x d s (sym (puts (given p q j f k) (q ++ r)) ∙ e) in
            let first = puts (given p q j f k) (q ++ r) ∙ goes_on Q in
            (cc, apart-among p j r n x i k row.there t Q.free a);
      }
    where
      goes_on : Place p most (q ++ r) (among p j r i) (given p q j f k) n → placed p most n x (given p q j f k) (q ++ r) d ≡ goes (inside (given p q j f grown) (q ++ path_after n x r) d)
      goes_on Q = placed-goes (has_there h t) n x d Q ∙ ap goes (ap (λ (z : Forest). opened n x z (q ++ r) d) given-grown ∙ opens n x q r (given p q j f grown) d)

module _ {p : Profile} {most : ℕ} {q : TreePath} {j f : Forest} (h : Has p q j f) where
  pub tried : (line : List ℕ) (k : Forest) (r : TreePath) (d : Said) (s : State) → Inside p most k r → line_does p most line (inside k r d) ≡ goes s → Tried p most q j f line k r d s
  tried line k r d s t e = go (does p most line k r d s e)
    where
      closed-tried : ((f : Forest) (q : TreePath) → line_does p most line (inside f q d) ≡ goes (close f q d)) → Shut k r d → Tried p most q j f line k r d s
      closed-tried shuts (root-shut z) = let one = shuts k r in ends (cc)
      closed-tried shuts (folder-shut some z) =
          let one = shuts k r in
          let real = shuts (given p q j f k) (q ++ r) ∙ ap goes (closes q r some (given p q j f k) d) in
          twin k (front r) d (cc) (record { grows = grows_same p k; onward = λ a. real; back = λ a t b. (cc, a) })

      go : Does p d line → Tried p most q j f line k r d s
      go (setting v sets) =
          let z = sets most k r in
          let real = sets most (given p q j f k) (q ++ r) in
          twin k r v (cc) (record { grows = grows_same p k; onward = λ a. real; back = λ a t b. (cc, a) })
      go (closing shuts) = closed-tried (shuts most) (shut k r d)
      go (entering n x rule row puts) =
          let g = inside-has p most k r t in
          let P = placed-back g n x d s (sym (puts most k r) ∙ e) in
          let z = puts most k r ∙ placed-goes g n x d P ∙ ap goes (opens n x [] r (grown h g n x row P) d) in
          twin (grown h g n x row P) (path_after n x r) d (cc) (entry-twin h g n x row P line d (puts most))

-- lines that take an empty root from k, r and d to l and e, and leave no other folder open
record Twins (p : Profile) (most : ℕ) (q : TreePath) (j f : Forest) (ls : List (List ℕ)) (k : Forest) (r : TreePath) (d : Said) (l : Forest) (e : Said) : Type 0 where
  grows : Grows p k l
  onward : Suits p most q j f l → through p most ls (inside (given p q j f k) (q ++ r) d) ≡ goes (inside (given p q j f l) q e)
  back : Apart p j k → (s : State) → through p most ls (inside (given p q j f k) (q ++ r) d) ≡ goes s → (s ≡ inside (given p q j f l) q e) × Apart p j l

module _ {p : Profile} {most : ℕ} {q : TreePath} {j f : Forest} (h : Has p q j f) where
  first-twin : (line : List ℕ) (ls : List (List ℕ)) (k : Forest) (r : TreePath) (d : Said) (m : Forest) (u : TreePath) (v : Said) (l : Forest) (e : Said)
      → Twin p most q j f line k r d m u v → Twins p most q j f ls m u v l e → Twins p most q j f (line ∷ ls) k r d l e
  unfolding through
  first-twin line ls k r d m u v l e w ws =
      record {
        grows = grows-on p k m l w.grows ws.grows;
        onward = λ a. rw (w.onward (suits-less ws.grows a)) (ws.onward a);
        back = λ a s g.
            let b = both (line_does p most line (inside (given p q j f k) (q ++ r) d)) _ s g in
            let one = w.back a b.between b.first in
            ws.back one.1 s (rw one.0 at b.second);
      }

  twins : (ls : List (List ℕ)) (k : Forest) (r : TreePath) (d : Said) (l : Forest) (e : Said) → Inside p most k r → through p most ls (inside k r d) ≡ goes (inside l [] e)
      → Twins p most q j f ls k r d l e
  unfolding through
  twins [] k r d l e t g =
      let root : r ≡ [] = cc in
      let same : k ≡ l = cc in
      let kept : d ≡ e = cc in
      rw (root, same, kept) (record { grows = grows_same p l; onward = λ a. rw (append-nil q); back = λ a s b. let z = append-nil q in (cc, a) })
  twins (line ∷ ls) k r d l e t g =
      let b = both (line_does p most line (inside k r d)) _ (inside l [] e) g in
      go b.between b.first b.second (tried h line k r d b.between t b.first) (twins ls)
    where
      go : (s : State) → line_does p most line (inside k r d) ≡ goes s → through p most ls s ≡ goes (inside l [] e) → Tried p most q j f line k r d s
          → ((m : Forest) (u : TreePath) (v : Said) (l : Forest) (e : Said) → Inside p most m u → through p most ls (inside m u v) ≡ goes (inside l [] e) → Twins p most q j f ls m u v l e)
          → Twins p most q j f (line ∷ ls) k r d l e
      go s first second (ends z) ih = closed-stays p most ls k (rw z at second)
      go s first second (twin m u v z w) ih =
          let good = good-line p most line (inside k r d) (inside m u v) t (first ∙ ap goes z) in
          first-twin line ls k r d m u v l e w (ih m u v l e good (rw z at second))

-- what is given nothing is as it was
pub given-none : {p : Profile} {q : TreePath} {j f : Forest} → Has p q j f → (d : Said) → inside (given p q j f end) (q ++ []) d ≡ inside f q d
unfolding merge
given-none {q = q} h d = rw (append-nil q, fill-same h)

-- a part, in an open folder at q of the tree f that has the entries j
module _ {p : Profile} {most : ℕ} {q : TreePath} {j f : Forest} (h : Has p q j f) (room : 0 < most) (ls : List (List ℕ)) (d : Said) {k : Forest} {e : Said}
    (P : Part p most d k e ls) where
  all : Twins p most q j f ls end [] d k e
  all = twins h ls end [] d k e (root-state p most room) P

  pub part-sorted : Sorted (fold p k)
  part-sorted = (good-through p most ls (inside end [] d) (inside k [] e) (root-state p most room) P).fit.good.sorted

  pub part-on : Suits p most q j f k → through p most ls (inside f q d) ≡ goes (inside (given p q j f k) q e)
  part-on s = rw (given-none h d) at (all.onward s)

  pub part-back : (s : State) → through p most ls (inside f q d) ≡ goes s → (s ≡ inside (given p q j f k) q e) × Apart p j k
  unfolding entry
  part-back s g = all.back (λ c u. absurd u) s (rw (given-none h d) g)

-- what stands in a tree stands at most so deep
no-level : (p : Profile) (m : Name) (f : Forest) → Within NameRule ContentRule 0 f → entry p m f ≡ absent
unfolding entry Within
no-level p m end w = refl
no-level p m (leaf n c s) w = absurd w
no-level p m (dir n k s) w = absurd w

reach-deep : (p : Profile) (n : ℕ) (c : TreePath) (x : Node) → WithinNode NameRule ContentRule n x → Present (reach p x c) → length c ≤ n
unfolding reach
reach-deep p n [] x w u = omega arith
reach-deep p zero (m ∷ c) x w u = absurd (rw (no-level p m (kids x) (within-kids NameRule ContentRule 0 x w), reach-absent p c) at u)
reach-deep p (suc n) (m ∷ c) x w u =
    let l = reach-deep p n c (entry p m (kids x)) (within-entry p NameRule ContentRule n m (kids x) (within-kids NameRule ContentRule (suc n) x w)) u in
    omega arith

merge_keeps : (p : Profile) (j k : Forest) (c : TreePath) → Present (reach p (folder k) c) → Present (reach p (folder (merge p j k)) c)
unfolding reach
merge_keeps p j k [] u = tt
merge_keeps p j k (m ∷ c) u = rw (entry-there p m j k (reach-there p c (entry p m k) u)) u

pub given-deep : {p : Profile} {most : ℕ} {q : TreePath} {j f : Forest} (h : Has p q j f) (k : Forest) → Sorted (fold p k) → Inside p most (given p q j f k) q → (c : TreePath)
    → Present (reach p (folder k) c) → length q + length c ≤ 16
given-deep {p} {most} {q} {j} {f} h k sk t c u =
    let there : Present (reach p (folder (given p q j f k)) (fold_path p q ++ c)) = rw (reach-append p (fold_path p q) c (folder (given p q j f k)), (has-given h k sk).here) (merge_keeps p j k c u) in
    let l = reach-deep p 16 (fold_path p q ++ c) (folder (given p q j f k)) t.fit.good.within there in
    omega (arith, length-append (fold_path p q) c, length-map q (key p))

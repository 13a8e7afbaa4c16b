-- Lines that take an open folder back to itself are a part: it was not closed between, since a folder that has closed is never opened
-- again, and what they did in it they do in an empty root.
use mathlib.Core.Path.{◌≡◌, refl, ap, sym, subst, ◌∙◌}
use mathlib.Core.List.{List, [], ◌∷◌, ◌++◌, append_assoc, append-nil}
use native.Mathlib.Omega.{arith}
use lib.ListN.{length, get_or, length-append, length-take}
use Prim.Native.Nat.{ℕ, ◌-◌, ◌<◌}
use Rattle.tree.specs.Name.{Name}
use Rattle.tree.specs.Forest.{Forest, Forest.end, Node, Node.absent, Node.file, Node.folder, TreePath, Present, kids}
use Rattle.tree.specs.Key.{entry, key, fold_path, update_in}
use Rattle.tree.specs.declared.Profile.{Profile}
use Rattle.tree.proofs.Never.{never}
use Rattle.tree.proofs.Folds.{reach}
use Rattle.tree.proofs.Spots.{path-append}
use Rattle.listing.specs.Accepted.{GoodState, Inside}
use Rattle.listing.specs.Entries.{Said}
use Rattle.listing.specs.Reading.{State, State.inside, State.closed, Step, Step.goes, close, front, line_does}
use Rattle.listing.proofs.Entered.{OneRow}
use Rattle.listing.proofs.Kept.{root-state, split-last}
use Rattle.listing.proofs.Steps.{front-last}
use Rattle.listing_layout.specs.Parts.{and_then, through, EveryStretchIsAPart}
use Rattle.listing_layout.proofs.Does.{Does, Does.setting, Does.closing, Does.entering, does, closed-stays}
use Rattle.listing_layout.proofs.Good.{good-line}
use Rattle.listing_layout.proofs.Runs.{both}
use Rattle.listing_layout.proofs.Merge.{Apart}
use Rattle.listing_layout.proofs.Parts.{Tried, Tried.ends, Tried.twin, given, given-none, has-given, has_there, size-given, tried}
use Rattle.listing_layout.proofs.Fill.{fill, fill-keeps, Has, reach-append}
use Rattle.listing_layout.proofs.Place.{Place, among, free-here, front_below, inside-has, new-keeps, opens, path_after, placed-back, placed-goes, shut, Shut, Shut.folder-shut, Shut.root-shut}

-- s is neither q nor a folder below it
abbrev Away : TreePath → TreePath → Type 0
Away q s = (r : TreePath) → s ≡ q ++ r → ⊥

away-front : (q s : TreePath) → Away q s → 0 < length s → Away q (front s)
away-front q s a some r e =
    let z : Name = get_or s (length s - 1) [] in
    a (r ++ (z ∷ [])) (split-last s some ∙ ap (λ (u : TreePath). u ++ (z ∷ [])) e ∙ append_assoc q r (z ∷ []))

away-last : (q s : TreePath) (n : Name) → Away q s → (s ++ (n ∷ []) ≡ q → ⊥) → Away q (s ++ (n ∷ []))
away-last q s n a other [] e = other (e ∙ append-nil q)
away-last q s n a other (m ∷ r) e = a (front (m ∷ r)) (sym (front-last s n) ∙ ap front e ∙ front_below q (m ∷ r) (omega arith))

away-after : (q : TreePath) (n : Name) (x : Node) (s : TreePath) → Away q s → (s ++ (n ∷ []) ≡ q → ⊥) → Away q (path_after n x s)
away-after q n absent s a other = a
away-after q n (file c) s a other = a
away-after q n (folder k) s a other = away-last q s n a other

-- an entry more in the folder at s: what is at q is there still, and is not opened
module _ {p : Profile} {most : ℕ} {s : TreePath} {i f : Forest} (h : Has p s i f) (n : Name) (x : Node) (row : OneRow x) (P : Place p most s i f n) (q : TreePath)
    (there : Present (reach p (folder f) (fold_path p q))) where
  still-there : Present (reach p (folder (fill p s (update_in p n x i) f)) (fold_path p q))
  still-there = fill-keeps h (update_in p n x i) (new-keeps p n x i row.there P.free) (fold_path p q) there

  not_opened : s ++ (n ∷ []) ≡ q → ⊥
  unfolding reach
  not_opened e =
      let free : reach p (folder f) (fold_path p (s ++ (n ∷ []))) ≡ absent = rw (path-append p s (n ∷ []), reach-append p (fold_path p s) (key p n ∷ []) (folder f), h.here) P.free in
      subst Present (ap (λ (u : TreePath). reach p (folder f) (fold_path p u)) (sym e) ∙ free) there

-- lines that begin elsewhere, where something is at q, do not end there
module _ (p : Profile) (most : ℕ) (q : TreePath) where
  away : (ls : List (List ℕ)) (f : Forest) (s : TreePath) (d : Said) (g : Forest) (e : Said) → Inside p most f s → Present (reach p (folder f) (fold_path p q)) → Away q s
      → through p most ls (inside f s d) ≡ goes (inside g q e) → ⊥
  unfolding through
  away [] f s d g e t there a z = let same : s ≡ q = cc in a [] (same ∙ sym (append-nil q))
  away (l ∷ ls) f s d g e t there a z =
      let b = both (line_does p most l (inside f s d)) _ (inside g q e) z in
      go b.between b.first b.second (does p most l f s d b.between b.first) (away ls)
    where
      good : (x : State) → line_does p most l (inside f s d) ≡ goes x → GoodState p most x
      good x z = good-line p most l (inside f s d) x t z

      go : (x : State) → line_does p most l (inside f s d) ≡ goes x → through p most ls x ≡ goes (inside g q e) → Does p d l
          → ((f : Forest) (s : TreePath) (d : Said) (g : Forest) (e : Said) → Inside p most f s → Present (reach p (folder f) (fold_path p q)) → Away q s
          → through p most ls (inside f s d) ≡ goes (inside g q e) → ⊥) → ⊥
      go x first rest (setting v sets) ih =
          let z = sets most f s in
          let same : x ≡ inside f s v = cc in
          ih f s v g e (good (inside f s v) z) there a (rw same at rest)
      go x first rest (closing shuts) ih = closed-off (shut f s d)
        where
          closed-off : Shut f s d → ⊥
          closed-off (root-shut z) =
              let one = shuts most f s in
              let same : x ≡ closed f = cc in
              closed-stays p most ls f (rw same at rest)
          closed-off (folder-shut some z) =
              let one = shuts most f s ∙ ap goes z in
              let same : x ≡ inside f (front s) d = cc in
              ih f (front s) d g e (good (inside f (front s) d) one) there (away-front q s a some) (rw same at rest)
      go x first rest (entering n y rule row puts) ih =
          let grown : Forest = fill p s (update_in p n y (kids (reach p (folder f) (fold_path p s)))) f in
          let h = inside-has p most f s t in
          let P = placed-back h n y d x (sym (puts most f s) ∙ first) in
          let one = puts most f s ∙ placed-goes h n y d P ∙ ap goes (opens n y [] s grown d) in
          let same : x ≡ inside grown (path_after n y s) d = cc in
          ih grown (path_after n y s) d g e (good (inside grown (path_after n y s) d) one) (still-there h n y row P q there) (away-after q n y s a (not_opened h n y row P q there)) (rw same at rest)

no_more : (q r : TreePath) → q ++ r ≡ q → r ≡ []
no_more q [] e = refl
no_more q (m ∷ r) e = let z = ap length e in absurd (omega (arith, length-append q (m ∷ r)))

above : (q : TreePath) → 0 < length q → Away q (front q)
above q some r e = let z = ap length e in omega (arith, length-append q r, length-take (length q - 1) q)

-- a line that goes on where k was given to the folder at q closes that folder, or goes on in an empty root too
data Back (p : Profile) (most : ℕ) (q : TreePath) (g : Forest) (line : List ℕ) (k : Forest) (r : TreePath) (d : Said) (x : State) : Type 0 where
  leaves : x ≡ close g q d → Back p most q g line k r d x
  goes-too : (l : Forest) (u : TreePath) (v : Said) → line_does p most line (inside k r d) ≡ goes (inside l u v) → Back p most q g line k r d x

module _ {p : Profile} {most : ℕ} {q : TreePath} {j f : Forest} (h : Has p q j f) where
  -- what has a place there has one here
  place-back : {r : TreePath} {i k : Forest} → Has p r i k → Apart p j k → (n : Name) → Place p most (q ++ r) (among p j r i) (given p q j f k) n → Place p most r i k n
  place-back {r} {i} {k} t a n P =
      let less = P.less in
      let room = P.room in
      record { less = omega (arith, length-append q r); free = free-here p j r n i P.free; room = omega (arith, size-given h k t.sorted a) }

  line-back : (line : List ℕ) (k : Forest) (r : TreePath) (d : Said) (x : State) → Inside p most k r → Apart p j k
      → line_does p most line (inside (given p q j f k) (q ++ r) d) ≡ goes x → Back p most q (given p q j f k) line k r d x
  line-back line k r d x t a e = go (does p most line (given p q j f k) (q ++ r) d x e)
    where
      closed-off : ((f : Forest) (q : TreePath) → line_does p most line (inside f q d) ≡ goes (close f q d)) → (u : TreePath) → r ≡ u → Back p most q (given p q j f k) line k r d x
      closed-off shuts [] z =
          let one = shuts (given p q j f k) (q ++ r) in
          let here : x ≡ close (given p q j f k) (q ++ r) d = cc in
          leaves (here ∙ rw (z, append-nil q))
      closed-off shuts (m ∷ u) z = goes-too k (front r) d (shuts k r ∙ rw z)

      go : Does p d line → Back p most q (given p q j f k) line k r d x
      go (setting v sets) = goes-too k r v (sets most k r)
      go (closing shuts) = closed-off (shuts most) r refl
      go (entering n y rule row puts) =
          let g = inside-has p most k r t in
          let P = place-back g a n (placed-back (has_there h g) n y d x (sym (puts most (given p q j f k) (q ++ r)) ∙ e)) in
          goes-too _ (path_after n y r) d (puts most k r ∙ placed-goes g n y d P ∙ ap goes (opens n y [] r _ d))

  -- lines that end in the folder at q, begun there or below it, were they begun in an empty root
  retried : (ls : List (List ℕ)) (k : Forest) (r : TreePath) (d : Said) (g : Forest) (e : Said) → Inside p most k r → Apart p j k → Inside p most (given p q j f k) (q ++ r)
      → through p most ls (inside (given p q j f k) (q ++ r) d) ≡ goes (inside g q e) → (l : Forest) × (through p most ls (inside k r d) ≡ goes (inside l [] e))
  unfolding through
  retried [] k r d g e t a real z =
      let same : q ++ r ≡ q = cc in
      let none = no_more q r same in
      let kept : d ≡ e = cc in
      (k, rw (none, kept))
  retried (l ∷ ls) k r d g e t a real z =
      let b = both (line_does p most l (inside (given p q j f k) (q ++ r) d)) _ (inside g q e) z in
      go b.between b.first b.second (line-back l k r d b.between t a b.first) (retried ls)
    where
      good : (x : State) → line_does p most l (inside (given p q j f k) (q ++ r) d) ≡ goes x → GoodState p most x
      good x first = good-line p most l (inside (given p q j f k) (q ++ r) d) x real first

      gone : (x : State) → through p most ls x ≡ goes (inside g q e) → GoodState p most x → x ≡ close (given p q j f k) q d → Shut (given p q j f k) q d → ⊥
      gone x rest u c (root-shut v) = closed-stays p most ls (given p q j f k) (rw (c ∙ v) at rest)
      gone x rest u c (folder-shut some v) =
          away p most q ls (given p q j f k) (front q) d g e (subst (GoodState p most) (c ∙ v) u) (rw (has-given h k t.fit.good.sorted).here tt) (above q some) (rw (c ∙ v) at rest)

      go : (x : State) → line_does p most l (inside (given p q j f k) (q ++ r) d) ≡ goes x → through p most ls x ≡ goes (inside g q e) → Back p most q (given p q j f k) l k r d x
          → ((k : Forest) (r : TreePath) (d : Said) (g : Forest) (e : Said) → Inside p most k r → Apart p j k → Inside p most (given p q j f k) (q ++ r)
          → through p most ls (inside (given p q j f k) (q ++ r) d) ≡ goes (inside g q e) → (l : Forest) × (through p most ls (inside k r d) ≡ goes (inside l [] e)))
          → (m : Forest) × (through p most (l ∷ ls) (inside k r d) ≡ goes (inside m [] e))
      go x first rest (leaves c) ih = absurd (gone x rest (good x first) c (shut (given p q j f k) q d))
      go x first rest (goes-too m u v c) ih = again (tried h l k r d (inside m u v) t c)
        where
          again : Tried p most q j f l k r d (inside m u v) → (o : Forest) × (through p most (l ∷ ls) (inside k r d) ≡ goes (inside o [] e))
          again (ends z) = never (cc)
          again (twin o w y z W) =
              let one = W.back a x first in
              let trial = c ∙ ap goes z in
              let next = ih o w y g e (good-line p most l (inside k r d) (inside o w y) t trial) one.1 (subst (GoodState p most) one.0 (good x first)) (rw one.0 at rest) in
              (next.0, ap (λ (s : Step). and_then s (λ t. through p most ls t)) trial ∙ next.1)

pub every-stretch-is-a-part : EveryStretchIsAPart
unfolding entry
every-stretch-is-a-part p most ls f g q d e t z =
    let h = inside-has p most f q t in
    let full = t.fit.room in
    retried h ls end [] d g e (root-state p most (omega arith)) (λ c u. absurd u) (subst (GoodState p most) (sym (given-none h d)) t) (rw (given-none h d) z)

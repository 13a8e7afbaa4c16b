-- What a line that goes on does in every open folder where the default is the same.
use mathlib.Core.Path.{◌≡◌, refl, sym, ◌∙◌}
use mathlib.Core.List.{List, [], ◌∷◌}
use Prim.Native.Nat.{ℕ}
use Rattle.tree.specs.Name.{Name}
use Rattle.tree.specs.Forest.{Forest, Node, TreePath}
use Rattle.tree.specs.declared.Profile.{Profile}
use Rattle.tree.specs.Rules.{NameRule}
use Rattle.tree.proofs.Never.{never}
use Rattle.listing.specs.Names.{name_of}
use Rattle.listing.specs.Entries.{Said, Entry, Entry.faulty, Entry.holds, entry_of, type_in}
use Rattle.listing.specs.Reading.{State, State.inside, State.closed, Step.goes, close, close_line, root_line, placed, entered, entry_line, line_does}
use Rattle.listing.proofs.Kept.{GoodEntry, entry-good}
use Rattle.listing.proofs.Entered.{OneRow, one-row}
use Rattle.listing.proofs.Ruled.{name-rule}
use Rattle.listing_layout.specs.Parts.{through}
use Rattle.listing_layout.proofs.Runs.{both}
use Rattle.listing_layout.proofs.Sorts.{stops-never, Kind, Kind.skips, Kind.sets, Kind.closes, Kind.roots, Kind.enters, Kind.fails, kind}

-- it sets the default, closes the folder, or puts an entry in
pub data Does (p : Profile) (d : Said) (l : List ℕ) : Type 0 where
  setting : (v : Said) → ((most : ℕ) (f : Forest) (q : TreePath) → line_does p most l (inside f q d) ≡ goes (inside f q v)) → Does p d l
  closing : ((most : ℕ) (f : Forest) (q : TreePath) → line_does p most l (inside f q d) ≡ goes (close f q d)) → Does p d l
  entering : (n : Name) (x : Node) → NameRule n → OneRow x → ((most : ℕ) (f : Forest) (q : TreePath) → line_does p most l (inside f q d) ≡ placed p most n x f q d)
      → Does p d l

module _ (p : Profile) (most : ℕ) (l : List ℕ) where
  does-by : (f : Forest) (q : TreePath) (d : Said) (s : State) → line_does p most l (inside f q d) ≡ goes s → Kind p (λ m t. line_does p m l t) → Does p d l
  unfolding close_line root_line entry_line entry_of
  does-by f q d s h (skips k) = setting d (λ m g r. k m (inside g r d))
  does-by f q d s h (sets v k) = setting v (λ m g r. k m (inside g r d))
  does-by f q d s h (closes k) = closing (λ m g r. k m (inside g r d))
  does-by f q d s h (roots ws k) = let r = k most (inside f q d) in never (cc)
  does-by f q d s h (fails k) = stops-never _ (k most (inside f q d)) h
  does-by f q d s h (enters w ws t k) = go (entry_of d ws) refl (rw t at (sym (k most (inside f q d)) ∙ h))
    where
      go : (y : Entry) → entry_of d ws ≡ y → entered p most (name_of w) y f q d ≡ goes s → Does p d l
      go (faulty m) e q = never (cc)
      go (holds y) e q =
          let good : GoodEntry (holds y) = rw e at (entry-good (type_in d ws) ws) in
          entering (name_of w) y (name-rule w t) (one-row y good) (λ m g r. k m (inside g r d) ∙ rw (t, e))

  pub does : (f : Forest) (q : TreePath) (d : Said) (s : State) → line_does p most l (inside f q d) ≡ goes s → Does p d l
  does f q d s h = does-by f q d s h (kind l)

  stays_by : (f : Forest) (s : State) → line_does p most l (closed f) ≡ goes s → Kind p (λ m t. line_does p m l t) → s ≡ closed f
  unfolding close_line root_line entry_line
  stays_by f s h (skips k) = let r = k most (closed f) in cc
  stays_by f s h (sets v k) = let r = k most (closed f) in cc
  stays_by f s h (closes k) = let r = k most (closed f) in never (cc)
  stays_by f s h (roots ws k) = let r = k most (closed f) in never (cc)
  stays_by f s h (enters w ws t k) = let r = k most (closed f) in never (cc)
  stays_by f s h (fails k) = stops-never _ (k most (closed f)) h

-- once the root has closed no folder is open again
pub closed-stays : {P : Type 0} (p : Profile) (most : ℕ) (ls : List (List ℕ)) (f : Forest) {g : Forest} {q : TreePath} {d : Said}
    → through p most ls (closed f) ≡ goes (inside g q d) → P
unfolding through
closed-stays p most [] f e = never (cc)
closed-stays p most (l ∷ ls) f e =
    let b = both (line_does p most l (closed f)) _ _ e in
    let same = stays_by p most l f b.between b.first (kind l) in
    closed-stays p most ls f (rw same at b.second)

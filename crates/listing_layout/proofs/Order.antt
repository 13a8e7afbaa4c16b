-- The order in which two parts of a folder are listed changes nothing, where each gives the same entries either way.
use mathlib.Core.Path.{◌≡◌, refl, ap, sym, subst, ◌∙◌}
use mathlib.Core.List.{List, ◌++◌, append_assoc}
use native.Mathlib.Omega.{arith}
use lib.ListN.{length, length-append}
use Prim.Native.Nat.{ℕ, suc, ◌+◌, ◌<◌, ◌≤◌}
use Rattle.tree.specs.Forest.{Forest, Node, Node.absent, Node.file, Node.folder, TreePath, Present, kids, size}
use Rattle.tree.specs.Key.{entry, fold_path}
use Rattle.tree.specs.declared.Profile.{Profile}
use Rattle.tree.proofs.Folds.{reach}
use Rattle.listing.specs.Accepted.{GoodState, Inside}
use Rattle.listing.specs.Lines.{lines}
use Rattle.listing.specs.Entries.{Said, Said.none}
use Rattle.listing.specs.Reading.{State, State.before, State.inside, Step.goes, Outcome.accepted, ends_in_lf, most_rows, reading}
use Rattle.listing_layout.specs.Whole.{pieces}
use Rattle.listing_layout.specs.Parts.{through}
use Rattle.listing_layout.specs.Order.{InTurn, Neighbours, Reordered, Reordered.same, Reordered.swapped, OrderChangesNothing}
use Rattle.listing_layout.proofs.Whole.{pieces-append, ends-after}
use Rattle.listing_layout.proofs.Good.{good-through}
use Rattle.listing_layout.proofs.Runs.{both, through-append, run-goes, run-back, passed}
use Rattle.listing_layout.proofs.Merge.{Apart, free-both, merge, merge_free, merge-swap}
use Rattle.listing_layout.proofs.Fill.{fill, Has, fill-fill}
use Rattle.listing_layout.proofs.Place.{inside-has}
use Rattle.listing_layout.proofs.Parts.{Suits, given, given-deep, has-given, part-back, part-on, part-sorted, size-given}

-- two parts in turn, x first, in the folder at q of the tree f, which has the entries j
module _ (p : Profile) (most : ℕ) (q : TreePath) (j f : Forest) (h : Has p q j f) (room : 0 < most) (d : Said) (x y : List ℕ) (k l : Forest) (e : Said)
    (X : InTurn p most d x k y l e) where
  -- they were taken, one after the other
  record Taken : Type 0 where
    apart-x : Apart p j k
    apart-y : Apart p (merge p j k) l
    last : Inside p most (fill p q (merge p (merge p j k) l) f) q

  mid : Has p q (merge p j k) (given p q j f k)
  mid = has-given h k (part-sorted h room (pieces x) d X.first)

  both-back : Inside p most f q → (s : State) → through p most (pieces x ++ pieces y) (inside f q d) ≡ goes s
      → (s ≡ inside (fill p q (merge p (merge p j k) l) f) q e) × Taken
  both-back t s g =
      let b = both _ _ s (rw (through-append p most (pieces x) (pieces y) (inside f q d)) at g) in
      let one = part-back h room (pieces x) d X.first b.between b.first in
      let two = part-back mid room (pieces y) X.between X.second s (rw one.0 at b.second) in
      let same = fill-fill h (merge p j k) (merge p (merge p j k) l) in
      let end_is : s ≡ inside (fill p q (merge p (merge p j k) l) f) q e = two.0 ∙ ap (λ (z : Forest). inside z q e) same in (
        end_is,
        record {
          apart-x = one.1;
          apart-y = two.1;
          last = subst (GoodState p most) end_is (good-through p most (pieces x ++ pieces y) (inside f q d) s t g);
        },
      )

  both-on : Suits p most q j f k → Suits p most q (merge p j k) (given p q j f k) l
      → through p most (pieces x ++ pieces y) (inside f q d) ≡ goes (inside (fill p q (merge p (merge p j k) l) f) q e)
  both-on a b =
      rw (through-append p most (pieces x) (pieces y) (inside f q d), part-on h room (pieces x) d X.first a)
      (part-on mid room (pieces y) X.between X.second b ∙ ap (λ (z : Forest). goes (inside z q e)) (fill-fill h (merge p j k) (merge p (merge p j k) l)))

-- no key is both one of k and one of l
apart-both : (p : Profile) (j k l : Forest) → Apart p (merge p j k) l → Apart p l k
apart-both p j k l a c u = go (entry p c l) (λ v. subst Present (free-both p c j k (a c v)).0 u)
  where
    go : (z : Node) → (Present z → ⊥) → z ≡ absent
    go absent gone = refl
    go (file b) gone = absurd (gone tt)
    go (folder i) gone = absurd (gone tt)

-- either may come first
swap-parts : (p : Profile) (most : ℕ) (q : TreePath) (f : Forest) (d : Said) (x y : List ℕ) (k l : Forest) (e : Said) → Inside p most f q
    → InTurn p most d x k y l e → InTurn p most d y l x k e → (s : State) → through p most (pieces x ++ pieces y) (inside f q d) ≡ goes s
    → through p most (pieces y ++ pieces x) (inside f q d) ≡ goes s
swap-parts p most q f d x y k l e t X Y s g =
    let j = kids (reach p (folder f) (fold_path p q)) in
    let h = inside-has p most f q t in
    let full = t.fit.room in
    let room : 0 < most = omega arith in
    let b = both-back p most q j f h room d x y k l e X t s g in
    let B = b.1 in
    let sk = part-sorted h room (pieces x) d X.first in
    let sl = part-sorted h room (pieces y) d Y.first in
    let apart-l : Apart p j l = λ c u. (free-both p c j k (B.apart-y c u)).1 in
    let apart = apart-both p j k l B.apart-y in
    let swap : merge p (merge p j k) l ≡ merge p (merge p j l) k = merge-swap p j l k apart in
    let rows = B.last.fit.room in
    let same = fill-fill h (merge p j k) (merge p (merge p j k) l) in
    let all : suc (size f + size k + size l) ≤ most = omega (arith, ap size same, size-given (has-given h k sk) l sl B.apart-y, size-given h k sk B.apart-x) in
    let one : Suits p most q j f l = record {
      apart = apart-l;
      deep = given-deep {most = most} (has-given h k sk) l sl (rw same B.last);
      room = omega arith;
    } in
    let two : Suits p most q (merge p j l) (given p q j f l) k = record {
      apart = λ c u. merge_free p c j l (apart c u) (B.apart-x c u);
      deep = given-deep {most = most} (has-given h l sl) k sk (rw (fill-fill h (merge p j l) (merge p (merge p j l) k), ← swap) B.last);
      room = omega (arith, size-given h l sl apart-l);
    } in
    both-on p most q j f h room d y x l k e Y one two ∙ rw (← swap) (ap goes (sym b.0))

-- two neighbours, between any lines
swap-lines : (p : Profile) (most : ℕ) (ls bs : List (List ℕ)) (f : Forest) (q : TreePath) (d : Said) (x y : List ℕ) (k l : Forest) (e : Said)
    → through p most ls (before none) ≡ goes (inside f q d) → InTurn p most d x k y l e → InTurn p most d y l x k e → (s : State)
    → through p most (ls ++ (pieces x ++ (pieces y ++ bs))) (before none) ≡ goes s → through p most (ls ++ (pieces y ++ (pieces x ++ bs))) (before none) ≡ goes s
swap-lines p most ls bs f q d x y k l e leads X Y s g =
    let good : Inside p most f q = good-through p most ls (before none) (inside f q d) tt leads in
    let rest = rw (through-append p most ls (pieces x ++ (pieces y ++ bs)), leads, ← append_assoc (pieces x) (pieces y) bs, through-append p most (pieces x ++ pieces y) bs) at g in
    let b = both _ _ s rest in
    rw (
      through-append p most ls (pieces y ++ (pieces x ++ bs)),
      leads,
      ← append_assoc (pieces y) (pieces x) bs,
      through-append p most (pieces y ++ pieces x) bs,
      swap-parts p most q f d x y k l e good X Y b.between b.first,
    ) b.second

module _ (p : Profile) (most : ℕ) (a x y b : List ℕ) (N : Neighbours p most a x y) where
  pieces-before : pieces (a ++ (x ++ (y ++ b))) ≡ pieces a ++ (pieces x ++ (pieces y ++ pieces b))
  pieces-before =
      rw (
        pieces-append a (x ++ (y ++ b)) N.whole-a,
        pieces-append x (y ++ b) N.whole-x,
        pieces-append y b N.whole-y,
      )

  length-swapped : length (a ++ (y ++ (x ++ b))) ≡ length (a ++ (x ++ (y ++ b)))
  length-swapped = simp length-append (omega arith)

  ends-swapped : ends_in_lf (a ++ (y ++ (x ++ b))) ≡ ends_in_lf (a ++ (x ++ (y ++ b)))
  ends-swapped =
      rw (
        ends-after a y (x ++ b) N.whole-a N.whole-y,
        ends-after a x b N.whole-a N.whole-x,
        ends-after a x (y ++ b) N.whole-a N.whole-x,
        ends-after a y b N.whole-a N.whole-y,
      )

turned : {p : Profile} {most : ℕ} {a x y : List ℕ} → Neighbours p most a x y → Neighbours p most a y x
turned N =
    record {
      whole-a = N.whole-a;
      whole-x = N.whole-y;
      whole-y = N.whole-x;
      tree = N.tree;
      path = N.path;
      default = N.default;
      open-there = N.open-there;
      entries-x = N.entries-y;
      entries-y = N.entries-x;
      left = N.left;
      x-first = N.y-first;
      y-first = N.x-first;
    }

swap-text : (p : Profile) (a x y b : List ℕ) (room : ℕ) (f : Forest) → Neighbours p (most_rows room) a x y → reading p (a ++ (x ++ (y ++ b))) room ≡ accepted f
    → reading p (a ++ (y ++ (x ++ b))) room ≡ accepted f
unfolding reading
swap-text p a x y b room f N e =
    let most = most_rows room in
    let P = passed p (a ++ (x ++ (y ++ b))) room f e in
    let R = run-back p most (lines (a ++ (x ++ (y ++ b)))) (before none) f P.runs in
    let swap = swap-lines p most (pieces a) (pieces b) N.tree N.path N.default x y N.entries-x N.entries-y N.left N.open-there N.x-first N.y-first R.0
    (rw (pieces-before p most a x y b N) at R.1) in
    let goes_on : through p most (pieces (a ++ (y ++ (x ++ b)))) (before none) ≡ goes R.0 = rw (pieces-before p most a y x b (turned N)) swap in
    rw (ends-swapped p most a x y b N, length-swapped p most a x y b N, P.form) (run-goes p most (lines (a ++ (y ++ (x ++ b)))) (before none) R.0 goes_on ∙ R.2)

order-kept : (p : Profile) (room : ℕ) (f : Forest) {t u : List ℕ} → Reordered p (most_rows room) t u → reading p t room ≡ accepted f → reading p u room ≡ accepted f
order-kept p room f same e = e
order-kept p room f (swapped a x y b N r) e = order-kept p room f r (swap-text p a x y b room f N e)

pub order-changes-nothing : OrderChangesNothing
order-changes-nothing p t u room f r e = order-kept p room f r e

-- The plan as a loop over three runs of siblings makes it: take the least name at a head, settle it, go on behind it.
use mathlib.Core.Path.{◌∙◌, ◌≡◌, ap, refl, sym}
use mathlib.Core.List.{[], ◌∷◌}
use mathlib.Core.Bool.{true, ◌||◌}
use lib.Dec.{compare_is_eq}
use Prim.Native.Nat.{Ordering}
use Rattle.tree.specs.Name.{Name, cmp, if_same}
use Rattle.tree.specs.Forest.{Forest, Forest.end, Forest.leaf, Forest.dir, Node, Node.absent, Node.file, Node.folder, find, add, Above, Sorted, Present}
use Rattle.tree.proofs.Never.{never}
use Rattle.tree.proofs.Order.{cmp-refl, cmp-eq}
use Rattle.tree.proofs.Forest.{siblings-ind, find-add, above-add, sorted-parts, above-trans, find-above, Differ, find-add-other}
use Rattle.settle.specs.Names.{Names, into, names}
use Rattle.settle.specs.Plan.{Plan.done, Entry, add_item, plan_over, settle_in, plan, settle}
use Rattle.settle.proofs.Names.{has, has-names, Over, over-insert, Asc, asc-names, asc-ext}
use Rattle.settle.proofs.Plan.{settle_in-settle}

-- the head, where it is called n
unfoldable pub first : Name → Forest → Node
first n end = absent
first n (leaf m c s) = if_same (cmp n m) (file c) absent
first n (dir m k s) = if_same (cmp n m) (folder k) absent

-- the siblings behind such a head
unfoldable pub skip : Name → Forest → Forest
skip n end = end
skip n (leaf m c s) = if_same (cmp n m) s (leaf m c s)
skip n (dir m k s) = if_same (cmp n m) s (dir m k s)

-- no sibling's name comes before n
unfoldable pub Least : Name → Forest → Type 0
Least n end = Unit {0}
Least n (leaf m c s) = ¬ (cmp n m ≡ Ordering.gt)
Least n (dir m k s) = ¬ (cmp n m ≡ Ordering.gt)

pub first-add : (n m : Name) (y : Node) (s : Forest) → Present y → first n (add m y s) ≡ if_same (cmp n m) y absent
unfolding first
first-add n m absent s h = absurd h
first-add n m (file c) s h = refl
first-add n m (folder k) s h = refl

pub skip-add : (n m : Name) (y : Node) (s : Forest) → Present y → skip n (add m y s) ≡ if_same (cmp n m) s (add m y s)
unfolding skip
skip-add n m absent s h = absurd h
skip-add n m (file c) s h = refl
skip-add n m (folder k) s h = refl

least-add : (n m : Name) (y : Node) (s : Forest) → Present y → Least n (add m y s) → ¬ (cmp n m ≡ Ordering.gt)
unfolding Least
least-add n m absent s h l = absurd h
least-add n m (file c) s h l = l
least-add n m (folder k) s h l = l

module _ (n : Name) where
  pub find_first : (f : Forest) → Sorted f → Least n f → find n f ≡ first n f
  unfolding find first
  find_first = siblings-ind (λ (f : Forest). Sorted f → Least n f → find n f ≡ first n f) (λ a l. refl) more
    where
      more : (m : Name) (y : Node) (s : Forest) → Present y → (Sorted s → Least n s → find n s ≡ first n s)
          → Sorted (add m y s) → Least n (add m y s) → find n (add m y s) ≡ first n (add m y s)
      more m y s h ih a l = rw (find-add n m y s h, first-add n m y s h) (go (cmp n m) refl)
        where
          go : (w : Ordering) → cmp n m ≡ w → if_same w y (find n s) ≡ if_same w y absent
          go Ordering.lt e = find-above n s (above-trans n m e s (sorted-parts m y s h a).0)
          go Ordering.eq e = refl
          go Ordering.gt e = absurd (least-add n m y s h l e)

  pub sorted-skip : (f : Forest) → Sorted f → Sorted (skip n f)
  unfolding skip
  sorted-skip = siblings-ind (λ (f : Forest). Sorted f → Sorted (skip n f)) (λ a. a) more
    where
      more : (m : Name) (y : Node) (s : Forest) → Present y → (Sorted s → Sorted (skip n s)) → Sorted (add m y s) → Sorted (skip n (add m y s))
      more m y s h ih a = rw (skip-add n m y s h) (go (cmp n m))
        where
          go : (w : Ordering) → Sorted (if_same w s (add m y s))
          go Ordering.lt = a
          go Ordering.eq = (sorted-parts m y s h a).2
          go Ordering.gt = a

  above-skip : (f : Forest) → Sorted f → Least n f → Above n (skip n f)
  unfolding skip Above
  above-skip = siblings-ind (λ (f : Forest). Sorted f → Least n f → Above n (skip n f)) (λ a l. tt) more
    where
      more : (m : Name) (y : Node) (s : Forest) → Present y → (Sorted s → Least n s → Above n (skip n s))
          → Sorted (add m y s) → Least n (add m y s) → Above n (skip n (add m y s))
      more m y s h ih a l = rw (skip-add n m y s h) (go (cmp n m) refl (sorted-parts m y s h a).0)
        where
          go : (w : Ordering) → cmp n m ≡ w → Above m s → Above n (if_same w s (add m y s))
          go Ordering.lt e b = above-add n m y s e (above-trans n m e s b)
          go Ordering.eq e b = rw (cmp-eq n m e) b
          go Ordering.gt e b = absurd (least-add n m y s h l e)

  pub find-skip : (k : Name) → Differ k n → (f : Forest) → find k (skip n f) ≡ find k f
  unfolding skip
  find-skip k d = siblings-ind (λ (f : Forest). find k (skip n f) ≡ find k f) refl more
    where
      more : (m : Name) (y : Node) (s : Forest) → Present y → find k (skip n s) ≡ find k s → find k (skip n (add m y s)) ≡ find k (add m y s)
      more m y s h ih = rw (skip-add n m y s h) (go (cmp n m) refl)
        where
          go : (w : Ordering) → cmp n m ≡ w → find k (if_same w s (add m y s)) ≡ find k (add m y s)
          go Ordering.lt e = refl
          go Ordering.eq e = sym (find-add-other k m y s (rw (cmp-eq n m e) at d))
          go Ordering.gt e = refl

over-into : (n : Name) (f : Forest) (ns : Names) → Above n f → Over n ns → Over n (into f ns)
unfolding into Above
over-into n end ns a h = h
over-into n (leaf m c s) ns a h = over-insert n m (into s ns) a.0 (over-into n s ns a.1 h)
over-into n (dir m k s) ns a h = over-insert n m (into s ns) a.0 (over-into n s ns a.1 h)

plan-over : (n : Name) (ns : Names) (g h : Name → Entry) → Over n ns → ((m : Name) → Differ m n → g m ≡ h m) → plan_over ns g ≡ plan_over ns h
unfolding plan_over Over
plan-over n [] g h o E = refl
plan-over n (m ∷ ms) g h o E =
    rw (E m (λ e. let a = o.0 in let q = cmp-eq m n e in let t = cmp-refl n in never (cc)), plan-over n ms g h o.1 E)

module _ (n : Name) (o l r : Forest) (so : Sorted o) (sl : Sorted l) (sr : Sorted r) (lo : Least n o) (ll : Least n l) (lr : Least n r)
    (some : has n (names o l r) ≡ true) where
  pub over-rest : Over n (names (skip n o) (skip n l) (skip n r))
  unfolding names Over
  over-rest =
      over-into n (skip n o) (into (skip n l) (into (skip n r) [])) (above-skip n o so lo)
      (over-into n (skip n l) (into (skip n r) []) (above-skip n l sl ll) (over-into n (skip n r) [] (above-skip n r sr lr) tt))

  names-step : names o l r ≡ n ∷ names (skip n o) (skip n l) (skip n r)
  unfolding Asc has
  names-step =
      asc-ext (names o l r) (n ∷ names (skip n o) (skip n l) (skip n r)) (asc-names o l r) (over-rest, asc-names (skip n o) (skip n l) (skip n r))
      (λ k. go k (cmp k n) refl)
    where
      other : (k : Name) → Differ k n → has k (names o l r) ≡ has k (names (skip n o) (skip n l) (skip n r))
      other k d = rw (has-names k o l r, has-names k (skip n o) (skip n l) (skip n r), find-skip n k d o, find-skip n k d l, find-skip n k d r)

      go : (k : Name) (w : Ordering) → cmp k n ≡ w → has k (names o l r) ≡ (compare_is_eq (cmp k n) || has k (names (skip n o) (skip n l) (skip n r)))
      go k Ordering.lt e = rw e (other k (λ h. never (cc)))
      go k Ordering.gt e = rw e (other k (λ h. never (cc)))
      go k Ordering.eq e = rw (cmp-eq k n e, some, cmp-refl n)

  -- the loop's step
  pub plan-step : plan o l r ≡ add_item n (settle (first n o) (first n l) (first n r)) (plan (skip n o) (skip n l) (skip n r))
  unfolding plan plan_over
  plan-step =
      ap (λ (ns : Names). plan_over ns (λ m. settle_in l m (find m o) (find m r))) names-step
      ∙ rw (settle_in-settle l n (find n o) (find n r), find_first n o so lo, find_first n l sl ll, find_first n r sr lr)
      (ap (add_item n (settle (first n o) (first n l) (first n r)))
      (plan-over n (names (skip n o) (skip n l) (skip n r)) (λ m. settle_in l m (find m o) (find m r))
      (λ m. settle_in (skip n l) m (find m (skip n o)) (find m (skip n r))) over-rest
      (λ m d. rw (
        settle_in-settle l m (find m o) (find m r),
        settle_in-settle (skip n l) m (find m (skip n o)) (find m (skip n r)),
        find-skip n m d o,
        find-skip n m d l,
        find-skip n m d r,
      ))))

-- and its end
pub plan-end : plan end end end ≡ done
unfolding plan names into plan_over
plan-end = refl

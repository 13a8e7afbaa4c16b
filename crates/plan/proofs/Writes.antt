-- Words written one part after the other, by functions that answer the next place.
use mathlib.Core.Path.{◌≡◌, refl, ◌∙◌}
use mathlib.Core.List.{List, [], ◌++◌, append_assoc}
use native.Mathlib.Omega.{arith}
use native.Mathlib.Nat.{add_assoc, add-zero, zero-add}
use lib.ListN.{length, take, drop, length-append}
use lib.Seq.{take_at, drop-append-add, drop-drop, length-take-le}
use Prim.Native.Nat.{ℕ, ◌+◌, ◌≤◌}
use Rattle.table_row.specs.Buffer.{written, over}
use Rattle.table_row.proofs.Buffer.{written-nil}
use Rattle.plan.specs.Writes.{Writes, Fills}

-- one run of words after another
written-written : (d x y : List ℕ) (at : ℕ) → at ≤ length d → written (written d at x) (at + length x) y ≡ written d at (x ++ y)
unfolding written
written-written d x y at h =
    let e : length (take at d ++ x) ≡ at + length x = length-append (take at d) x ∙ rw (length-take-le at d h) in
    rw (
      ← append_assoc (take at d) x (drop (at + length x) d),
      take_at (take at d ++ x) (drop (at + length x) d) (at + length x) e,
      ← e,
      drop-append-add (take at d ++ x) (drop (length (take at d ++ x)) d) (length y),
      drop-drop,
      e,
      length-append,
    ) (simp (append_assoc, add_assoc))

-- as `copy_words` says it
pub copied : {d s e : List ℕ} {at q : ℕ} → (q ≡ at + length s) × (e ≡ written d at s) → Writes d at s e q
copied w = record { next = w.0; words = w.1 }

-- one function writes where another stopped
pub then : {d x e y f : List ℕ} {at q p : ℕ} → at ≤ length d → Writes d at x e q → Writes e q y f p → Writes d at (x ++ y) f p
then {d} {x} {e} {y} {f} {at} h a b =
    record { next = rw length-append (omega arith); words = b.words ∙ rw (a.words, a.next) (written-written d x y at h) }

-- of what was to be written, s ++ z, the part s is written now
pub onward : {d all e e' y s : List ℕ} {at q q' : ℕ} (z : List ℕ) → q ≤ length e → y ≡ s ++ z → Writes e q s e' q'
    → Writes d at all (written e q y) (q + length y) → Writes d at all (written e' q' z) (q' + length z)
onward z h i w v =
    let t = then {y = z} h w (record { next = refl; words = refl }) in
    rw (t.next, t.words, ← i) v

-- nothing is left to write
pub done : {d all e s : List ℕ} {at q : ℕ} → s ≡ [] → Writes d at all (written e q s) (q + length s) → Writes d at all e q
done n w = rw (n, written-nil, add-zero) at w

-- written at the start
pub filled : {d s e : List ℕ} {q : ℕ} → Writes d 0 s e q → Fills d s e q
unfolding written over
filled {d} {s} w = record { count = w.next ∙ zero-add _; words = w.words ∙ rw (zero-add (length s)) }

-- A plan's words read back.
use mathlib.Core.Path.{◌≡◌, refl, sym, ap, ◌∙◌}
use mathlib.Core.List.{List, ◌++◌}
use native.Mathlib.Omega.{arith}
use native.Mathlib.Nat.{add-zero}
use lib.ListN.{length, drop, take, get_or, length-drop, get_or-append, take-append-drop}
use lib.Seq.{get_or-drop, drop-append-le, length-take-le}
use Prim.Native.Nat.{ℕ, zero, suc, ◌+◌, ◌*◌, ◌/◌, ◌≤◌}
use Rattle.table_row.specs.Buffer.{over}
use Rattle.plan_results.specs.Decisions.{numbered, decision_of, decisions, decided}

-- item k in the words that the code reads
pub decision-at : (p : List ℕ) (k : ℕ) → decision_of (drop (4 * k) p)
    ≡ numbered (get_or p (4 * k) 0) (record { o = get_or p (4 * k + 1) 0; l = get_or p (4 * k + 2) 0; r = get_or p (4 * k + 3) 0 })
unfolding decision_of
decision-at p k =
    rw (get_or-drop (4 * k) p 0 0, get_or-drop (4 * k) p 1 0, get_or-drop (4 * k) p 2 0, get_or-drop (4 * k) p 3 0, add-zero)

decision-prefix : (p x : List ℕ) → 4 ≤ length p → decision_of (p ++ x) ≡ decision_of p
unfolding decision_of
decision-prefix p x h =
    rw (
      get_or-append p x 0 0 (omega arith),
      get_or-append p x 0 1 (omega arith),
      get_or-append p x 0 2 (omega arith),
      get_or-append p x 0 3 (omega arith),
    )

-- a plan at the start of a longer buffer
pub decisions-prefix : (n : ℕ) (p x : List ℕ) → 4 * n ≤ length p → decisions n (p ++ x) ≡ decisions n p
unfolding decisions
decisions-prefix zero p x h = refl
decisions-prefix (suc n) p x h =
    let a : 4 ≤ length p = omega arith in
    let b : 4 * n ≤ length (drop 4 p) = rw length-drop (omega arith) in
    rw (decision-prefix p x a, drop-append-le, decisions-prefix n (drop 4 p) x b)

pub decisions-over : (n : ℕ) (d p : List ℕ) → 4 * n ≤ length p → decisions n (over d p) ≡ decisions n p
unfolding over
decisions-over n d p h = decisions-prefix n p (drop (length p) d) h

-- a plan of q words at the start of a longer buffer is that of these words alone
pub decided-front : (q : ℕ) (p : List ℕ) → q ≤ length p → decided (take q p) ≡ decisions (q / 4) p
decided-front q p h =
    let e : length (take q p) ≡ q = length-take-le q p h in
    rw e (
    sym (decisions-prefix (q / 4) (take q p) (drop q p) (omega (arith, e)))
    ∙ ap (decisions (q / 4)) (take-append-drop q p)
    )

-- What the items of a plan from item k on make, whatever a result makes of each: the laws of a loop that writes the pieces,
-- and of one that counts their words, for every result.
use mathlib.Core.Path.{◌≡◌, refl, ap, ◌∙◌}
use mathlib.Core.List.{List, [], ◌++◌}
use native.Mathlib.Omega.{arith}
use native.Mathlib.Nat.{sub-zero}
use lib.ListN.{length, drop, length-append}
use lib.Seq.{drop-drop}
use Prim.Native.Nat.{ℕ, suc, ◌+◌, ◌*◌, ◌-◌, ◌≤◌, ◌<◌}
use Rattle.table_row.specs.Buffer.{written}
use Rattle.plan_cursor.specs.declared.Decision.{Decision}
use Rattle.plan.specs.Writes.{Writes}
use Rattle.plan.proofs.Writes.{onward, done}
use Rattle.plan_results.specs.Decisions.{decision_of, decisions, pieces}

-- what is made of item k, and of the items from item k on
abbrev pub piece_at : (Decision → List ℕ) → List ℕ → ℕ → List ℕ
piece_at f p k = f (decision_of (drop (4 * k) p))

abbrev pub rest : (Decision → List ℕ) → List ℕ → ℕ → ℕ → List ℕ
rest f p n k = pieces f (decisions (n - k) (drop (4 * k) p))

-- before item k is written: e is d with the pieces before it written from place i on, and the rest is to come at place at
pub record Writing (f : Decision → List ℕ) (p : List ℕ) (n : ℕ) (d : List ℕ) (i : ℕ) (e : List ℕ) (at k : ℕ) : Type 0 where
  pub inside : k ≤ n
  pub same : length e ≡ length d
  pub ahead : Writes d i (pieces f (decisions n p)) (written e at (rest f p n k)) (at + length (rest f p n k))

-- before item k is counted: the sum so far, and what is still to be added
pub record Counting (f : Decision → List ℕ) (p : List ℕ) (n all sum k : ℕ) : Type 0 where
  pub inside : k ≤ n
  pub small : sum ≤ 20 + 81920 * k
  pub ahead : sum + length (rest f p n k) ≡ all

module _ (f : Decision → List ℕ) (p : List ℕ) (n : ℕ) where
  rest_all : rest f p n 0 ≡ pieces f (decisions n p)
  rest_all = rw sub-zero

  rest_end : (k : ℕ) → n ≤ k → rest f p n k ≡ []
  unfolding decisions pieces
  rest_end k h =
      let e : n - k ≡ 0 = omega arith in
      rw e

  rest-next : (k : ℕ) → k < n → rest f p n k ≡ piece_at f p k ++ rest f p n (k + 1)
  unfolding decisions pieces
  rest-next k h =
      let e : n - k ≡ suc (n - (k + 1)) = omega arith in
      let m : 4 * k + 4 ≡ 4 * (k + 1) = omega arith in
      rw (e, drop-drop, m)

  rest-length : (k : ℕ) → k < n → length (rest f p n k) ≡ length (piece_at f p k) + length (rest f p n (k + 1))
  rest-length k h = ap length (rest-next k h) ∙ simp length-append

module _ {f : Decision → List ℕ} {p : List ℕ} {n : ℕ} where
  pub write-start : {d : List ℕ} {i : ℕ} → Writing f p n d i d i 0
  write-start = record { inside = omega arith; same = refl; ahead = rw (rest_all f p n) (record { next = refl; words = refl }) }

  module _ {d e : List ℕ} {i at k : ℕ} (w : Writing f p n d i e at k) where
    -- there is room for item k
    pub room : k < n → i + length (pieces f (decisions n p)) ≤ length d → at + length (piece_at f p k) ≤ length e
    room h r = omega (arith, rest-length f p n k h, w.ahead.next, w.same)

    pub write-next : {e' : List ℕ} {at' : ℕ} → k < n → i + length (pieces f (decisions n p)) ≤ length d
        → length e' ≡ length e → Writes e at (piece_at f p k) e' at' → Writing f p n d i e' at' (k + 1)
    write-next h r s v = record {
      inside = omega arith;
      same = s ∙ w.same;
      ahead = onward (rest f p n (k + 1)) (omega (arith, room h r)) (rest-next f p n k h) v w.ahead;
    }

    pub write-end : n ≤ k → Writes d i (pieces f (decisions n p)) e at
    write-end h = done (rest_end f p n k h) w.ahead

  pub count-start : {all sum : ℕ} → sum ≤ 20 → sum + length (pieces f (decisions n p)) ≡ all → Counting f p n all sum 0
  count-start h e = record { inside = omega arith; small = omega arith; ahead = rw (rest_all f p n) e }

  module _ {all sum k : ℕ} (w : Counting f p n all sum k) where
    pub count_next : {x : ℕ} → k < n → x ≡ length (piece_at f p k) → x ≤ 81920 → Counting f p n all (sum + x) (k + 1)
    count_next h e b = record {
      inside = omega arith;
      small = omega (arith, w.small);
      ahead = omega (arith, rest-length f p n k h, w.ahead);
    }

    pub count-end : n ≤ k → sum ≡ all
    count-end h = omega (arith, ap length (rest_end f p n k h), w.ahead)

-- Three pieces in words: written one after the other, and how many rows they are.
use mathlib.Core.Path.{◌≡◌, sym, ap, ap₂, ◌∙◌}
use mathlib.Core.List.{List, [], ◌++◌, append_assoc}
use mathlib.Core.Bool.{true}
use native.Mathlib.Omega.{arith}
use native.Mathlib.Nat.{zero-add}
use lib.ListN.{length, take, drop, length-append, length-take, length-drop}
use Prim.Native.Nat.{ℕ, ◌+◌, ◌*◌, ◌-◌, ◌/◌, ◌≤◌}
use Rattle.tree.specs.Name.{Name}
use Rattle.tree.specs.declared.Profile.{Profile}
use Rattle.table_row.specs.Buffer.{written, over}
use Rattle.table_row.proofs.Buffer.{over-nil, over-written}
use Rattle.table_rules.specs.Faults.{room_rule}
use Rattle.table_rules.proofs.Faults.{room-parts}
use Rattle.table_find.specs.Entry.{place}
use Rattle.table_stands.specs.Around.{entry_end}
use Rattle.table_respell.specs.Respell.{respelled}
use Rattle.table_moved.specs.Pieces.{pieces, Ready, Joins}

-- three pieces written one after the other
pub written-three : (d a b c x y z : List ℕ) (p q : ℕ) → (p ≡ 0 + length a) × (x ≡ written d 0 a) → y ≡ written x p b → q ≡ p + length b → z ≡ written y q c
    → z ≡ over d (a ++ (b ++ c))
written-three d a b c x y z p q X Y Q Z =
    let u : x ≡ over d a = X.1 ∙ (rw over-nil at (over-written d [] a)) in
    let v : y ≡ over d (a ++ b) = Y ∙ ap₂ (λ (l : List ℕ) (n : ℕ). written l n b) u (X.0 ∙ zero-add (length a)) ∙ over-written d a b in
    let n : q ≡ length (a ++ b) = omega (arith, X.0, Q, length-append a b) in
    Z ∙ ap₂ (λ (l : List ℕ) (n : ℕ). written l n c) v n ∙ over-written d (a ++ b) c ∙ rw append_assoc

-- the pieces by the rows at which the code cuts: what is written, and how many rows that is
module _ (p : Profile) (w v words : List ℕ) (i : ℕ) (n : Name) (R : Ready p w v i n words)
    (a b : ℕ) (A : (a ≡ place v i n) × (20 * a ≤ length v)) (B : (b ≡ entry_end v i n) × (20 * b ≤ length v)) where
  cut-pieces : take (20 * a) w ++ (respelled p w v i words ++ drop (20 * b) w) ≡ pieces p w v i n words
  cut-pieces = ap₂ (λ (x y : ℕ). take (20 * x) w ++ (respelled p w v i words ++ drop (20 * y) w)) A.0 B.0

  pub over-pieces : (lent result : List ℕ) → result ≡ over lent (take (20 * a) w ++ (respelled p w v i words ++ drop (20 * b) w)) → result ≡ over lent (pieces p w v i n words)
  over-pieces lent result e = e ∙ ap (over lent) cut-pieces

  ordered : a ≤ b
  ordered = omega (arith, A.0, B.0, R.order)

  pub rows-pieces : length (pieces p w v i n words) / 20 ≡ a + length words / 20 + (length w / 20 - b)
  rows-pieces =
      let g = ordered in
      let l : length (pieces p w v i n words) ≡ 20 * a + length words + (length w - 20 * b) =
      ap length (sym cut-pieces) ∙ simp (length-append, length-take, length-drop) (omega (arith, R.as_long, R.keys, A.1, B.1)) in
      omega (arith, R.target.whole, R.source.whole, R.keys, B.1)

  pub joins : (lent : List ℕ) → room_rule (a + length words / 20 + (length w / 20 - b)) (length lent) ≡ true → Joins p w v i (20 * a) words (20 * b) lent
  joins lent e =
      let r = room-parts (a + length words / 20 + (length w / 20 - b)) (length lent) e in
      record {
        inside = R.inside;
        keys = R.keys;
        source = R.source;
        shallow = R.shallow;
        as_long = R.as_long;
        first = omega (arith, R.keys, A.1);
        last = omega (arith, R.keys, B.1);
        room = omega (arith, r.1, R.target.whole, R.source.whole, R.keys, B.1);
      }

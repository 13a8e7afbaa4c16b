-- Rows whose first is renamed: they stay as long as they were, and in a buffer eight words change.
use mathlib.Core.Path.{◌≡◌, refl, ap, sym, ◌∙◌}
use mathlib.Core.List.{List, [], ◌∷◌, ◌++◌, append_assoc}
use native.Mathlib.Omega.{arith}
use lib.ListN.{length, take, drop, length-take, length-drop, length-append, take-append-drop}
use lib.Seq.{drop-append-add, take_at, drop_at, drop-drop, length-take-le}
use Prim.Native.Nat.{ℕ, ◌+◌, ◌-◌, ◌%◌, ◌≤◌}
use Rattle.table_row.specs.Table.{name}
use Rattle.table_row.specs.Buffer.{written}
use Rattle.plan.specs.Writes.{Writes}
use Rattle.plan_results.specs.Pieces.{named}

name-eight : (r : List ℕ) → 10 ≤ length r → length (name r) ≡ 8
name-eight r h = simp (length-take, length-drop) (omega arith)

length_some : (r w : List ℕ) → 10 ≤ length r → 10 ≤ length w → length (take 2 w ++ (name r ++ drop 10 w)) ≡ length w
length_some r w h g = let e = name-eight r h in simp (length-append, length-drop, length-take 2 w) (omega arith)

pub length-named : (r w : List ℕ) → length r % 20 ≡ 0 → length w % 20 ≡ 0 → length (named r w) ≡ length w
unfolding named
length-named [] w h g = refl
length-named (x ∷ r) [] h g = refl
length-named (x ∷ r) (y ∷ w) h g = length_some (x ∷ r) (y ∷ w) (omega arith) (omega arith)

pub named_none : (r w : List ℕ) → length r ≡ 0 → named r w ≡ w
unfolding named
named_none [] w h = refl
named_none (x ∷ r) w h = absurd (omega arith)

pub named-nothing : (r w : List ℕ) → length w ≡ 0 → named r w ≡ w
unfolding named
named-nothing [] w h = refl
named-nothing (x ∷ r) [] h = refl
named-nothing (x ∷ r) (y ∷ w) h = absurd (omega arith)

named_some : (r w : List ℕ) → 10 ≤ length r → 10 ≤ length w → named r w ≡ take 2 w ++ (name r ++ drop 10 w)
unfolding named
named_some [] w h g = absurd (omega arith)
named_some (x ∷ r) [] h g = absurd (omega arith)
named_some (x ∷ r) (y ∷ w) h g = refl

-- words over as many
written_at : (A b Z n : List ℕ) (at : ℕ) → length A ≡ at → length b ≡ length n → written (A ++ (b ++ Z)) at n ≡ A ++ (n ++ Z)
unfolding written
written_at A b Z n at h g = rw (take_at A (b ++ Z) at h, ← h, drop-append-add A (b ++ Z) (length n), drop_at b Z (length n) g)

-- eight words in the midst of p
within : (A p Z n : List ℕ) (at : ℕ) → length A ≡ at → 10 ≤ length p → length n ≡ 8
    → written (A ++ (p ++ Z)) (at + 2) n ≡ written (A ++ (p ++ Z)) at (take 2 p ++ (n ++ drop 10 p))
within A p Z n at h i j =
    ap (λ (w : List ℕ). written w (at + 2) n) cut
    ∙ written_at (A ++ take 2 p) (take 8 (drop 2 p)) (drop 10 p ++ Z) n (at + 2) (simp (length-append, length-take 2 p) (omega arith)) (simp (length-take, length-drop) (omega arith))
    ∙ grouped
    ∙ sym (written_at A p Z (take 2 p ++ (n ++ drop 10 p)) at h (simp (length-append, length-drop, length-take 2 p) (omega arith)))
  where
    eight : drop 2 p ≡ take 8 (drop 2 p) ++ drop 10 p
    eight = sym (take-append-drop 8 (drop 2 p)) ∙ ap (λ (w : List ℕ). take 8 (drop 2 p) ++ w) (drop-drop 8 2 p)

    cut : A ++ (p ++ Z) ≡ (A ++ take 2 p) ++ (take 8 (drop 2 p) ++ (drop 10 p ++ Z))
    cut =
        ap (λ (w : List ℕ). A ++ (w ++ Z)) (sym (take-append-drop 2 p))
        ∙ ap (λ (w : List ℕ). A ++ ((take 2 p ++ w) ++ Z)) eight
        ∙ (let e : A ++ ((take 2 p ++ (take 8 (drop 2 p) ++ drop 10 p)) ++ Z) ≡ (A ++ take 2 p) ++ (take 8 (drop 2 p) ++ (drop 10 p ++ Z)) = simp append_assoc in e)

    grouped : (A ++ take 2 p) ++ (n ++ (drop 10 p ++ Z)) ≡ A ++ ((take 2 p ++ (n ++ drop 10 p)) ++ Z)
    grouped = simp append_assoc

-- the part of d from place at to e
module _ (d : List ℕ) (at e : ℕ) (h : at ≤ e) (g : e ≤ length d) where
  abbrev pub part : List ℕ
  part = take (e - at) (drop at d)

  pub part_length : length part ≡ e - at
  part_length = simp (length-take, length-drop) (omega arith)

  split : take at d ++ (part ++ drop e d) ≡ d
  split =
      let q : at + (e - at) ≡ e = omega arith in
      ap (λ (k : ℕ). take at d ++ (part ++ drop k d)) (sym q)
      ∙ ap (λ (w : List ℕ). take at d ++ (part ++ w)) (sym (drop-drop (e - at) at d))
      ∙ ap (λ (w : List ℕ). take at d ++ w) (take-append-drop (e - at) (drop at d))
      ∙ take-append-drop at d

  pub written_back : written d at part ≡ d
  unfolding written
  written_back = let q : at + length part ≡ e = omega (arith, part_length) in rw q split

  pub renamed : (r : List ℕ) → 10 ≤ length r → 10 ≤ e - at → written d (at + 2) (name r) ≡ written d at (named r part)
  renamed r i j =
      ap (λ (w : List ℕ). written w (at + 2) (name r)) (sym split)
      ∙ within (take at d) part (drop e d) (name r) at (length-take-le at d (omega arith)) (omega (arith, part_length)) (name-eight r i)
      ∙ ap (λ (w : List ℕ). written w at (take 2 part ++ (name r ++ drop 10 part))) split
      ∙ ap (written d at) (sym (named_some r part i (omega (arith, part_length))))

-- what was written at place at, read and written again
module _ (d s : List ℕ) (at : ℕ) (h : at ≤ length d) where
  pub written-part : take (at + length s - at) (drop at (written d at s)) ≡ s
  unfolding written
  written-part =
      let q : at + length s - at ≡ length s = omega arith in
      rw (q, drop_at (take at d) (s ++ drop (at + length s) d) at (length-take-le at d h), take_at s (drop (at + length s) d) (length s) refl)

  pub written-again : (x : List ℕ) → length x ≡ length s → written (written d at s) at x ≡ written d at x
  unfolding written
  written-again x e = written_at (take at d) s (drop (at + length s) d) x at (length-take-le at d h) (sym e) ∙ rw e

-- what was written and then renamed
pub named-writes : {d s e f : List ℕ} {at q : ℕ} (r : List ℕ) → length r % 20 ≡ 0 → length s % 20 ≡ 0 → at ≤ length d → Writes d at s e q
    → f ≡ written e at (named r (take (q - at) (drop at e))) → Writes d at (named r s) f q
named-writes {d} {s} {at = at} r a b h w g =
    record {
      next = w.next ∙ ap (λ (n : ℕ). at + n) (sym (length-named r s a b));
      words = g ∙ rw (w.next, w.words, written-part d s at h) (written-again d s at h (named r s) (length-named r s a b));
    }

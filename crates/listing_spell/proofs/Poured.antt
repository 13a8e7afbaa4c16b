-- Bytes put one piece after the other: what is still to be put, a piece at a time.
use mathlib.Core.Path.{◌≡◌, refl, sym, ◌∙◌}
use mathlib.Core.List.{List, [], ◌∷◌, ◌++◌}
use native.Mathlib.Omega.{arith}
use native.Mathlib.Nat.{add-zero, zero-add}
use native.Mathlib.Numerals.{add-one}
use lib.ListN.{length, drop, get_or, set, length-append, drop_of_length-le}
use lib.Seq.{sets-eq, length-sets, drop-cons}
use Prim.Native.Nat.{ℕ, suc, ◌+◌, ◌≤◌, ◌<◌}
use Rattle.table_row.specs.Buffer.{over}
use Rattle.listing_spell.specs.declared.Text.{Text}
use Rattle.listing_spell.specs.Puts.{poured, Puts, Wrote}

pub length-poured : (d : List ℕ) (at : ℕ) (s : List ℕ) → length (poured d at s) ≡ length d
unfolding poured
length-poured d at s = length-sets d at s

-- one part after the other
pub poured-append : (d : List ℕ) (at : ℕ) (s t : List ℕ) → poured d at (s ++ t) ≡ poured (poured d at s) (at + length s) t
unfolding poured
poured-append d at [] t = rw add-zero
poured-append d at (b ∷ s) t =
    let e : suc at + length s ≡ at + suc (length s) = omega arith in
    rw (← e) (poured-append (set d at b) (suc at) s t)

-- nothing is put into an empty buffer
pub poured-empty : (at : ℕ) (s : List ℕ) → poured [] at s ≡ []
unfolding poured
poured-empty at [] = refl
poured-empty at (b ∷ s) = poured-empty (suc at) s

-- a text that fits, from the start: what is past it stays
pub poured-over : (d s : List ℕ) → length s ≤ length d → poured d 0 s ≡ over d s
unfolding poured over
poured-over d s h = sets-eq s d 0 (rw zero-add h) ∙ rw zero-add

-- a wider bound
pub puts-within : {d : List ℕ} {at : ℕ} {s : List ℕ} {most next : ℕ} {after : List ℕ} (more : ℕ) → most ≤ more → Puts d at s most next after
    → Puts d at s more next after
puts-within more h P = record { counted = P.counted; near = omega (arith, P.near); holds = P.holds }

-- of the bytes s that were to be put into d at place at, t is left, to be put into e at place p
pub record Left (d : List ℕ) (at : ℕ) (s e : List ℕ) (p : ℕ) (t : List ℕ) : Type 0 where
  pub places : p + length t ≡ at + length s
  pub holds : poured e p t ≡ poured d at s

pub left-all : (d : List ℕ) (at : ℕ) (s : List ℕ) → Left d at s d at s
left-all d at s = record { places = refl; holds = refl }

module _ {d : List ℕ} {at : ℕ} {s e : List ℕ} {p : ℕ} where
  -- a piece is put
  pub left_less : {a : List ℕ} {most q : ℕ} {f : List ℕ} (t : List ℕ) → Left d at s e p (a ++ t) → Puts e p a most q f → Left d at s f q t
  left_less {a} {most} {q} {f} t L P =
      record {
        places = omega (arith, L.places, P.counted, length-append a t);
        holds = rw (P.holds, P.counted) (sym (poured-append e p a t) ∙ L.holds);
      }

  -- nothing is left
  pub left-none : (most : ℕ) → p ≤ at + most → Left d at s e p [] → Puts d at s most p e
  unfolding poured
  left-none most h L = record { counted = omega (arith, L.places); near = h; holds = L.holds }

  -- the last piece is put
  pub left-last : {a : List ℕ} {most q : ℕ} {f : List ℕ} (more : ℕ) → Left d at s e p a → Puts e p a most q f → q ≤ at + more → Puts d at s more q f
  left-last more L P h = record { counted = P.counted ∙ L.places; near = h; holds = P.holds ∙ L.holds }

  -- a byte of w is put
  pub left-byte : (w : List ℕ) (k : ℕ) {most q : ℕ} {f : List ℕ} → k < length w → Left d at s e p (drop k w) → Puts e p (get_or w k 0 ∷ []) most q f
      → Left d at s f q (drop (k + 1) w)
  left-byte w k h L P = left_less (drop (k + 1) w) (rw (drop-cons w k 0 h, ← add-one k) at L) P

  -- no byte of w is left
  pub left_end : (w : List ℕ) (k most : ℕ) → length w ≤ k → p ≤ at + most → Left d at s e p (drop k w) → Puts d at s most p e
  left_end w k most g h L = left-none most h (rw (drop_of_length-le w g) at L)

-- of the bytes s that were to be put into the text t, r is left to be put into what it became
pub record Rest (t : Text) (s : List ℕ) (u : Text) (r : List ℕ) : Type 0 where
  pub same : u.out.ghost_name ≡ t.out.ghost_name
  pub left : Left t.out.now t.at s u.out.now u.at r

pub rest-all : (t : Text) (s : List ℕ) → Rest t s t s
rest-all t s = record { same = refl; left = left-all _ _ _ }

module _ {t : Text} {s : List ℕ} {u : Text} where
  -- a piece is put
  pub rest_less : {a : List ℕ} {most : ℕ} {v : Text} (r : List ℕ) → Rest t s u (a ++ r) → Wrote u a most v → Rest t s v r
  rest_less r L P = record { same = P.same ∙ L.same; left = left_less r L.left P.puts }

  -- nothing is left
  pub rest-none : (most : ℕ) → u.at ≤ t.at + most → Rest t s u [] → Wrote t s most u
  rest-none most h L = record { same = L.same; puts = left-none most h L.left }

  -- the last piece is put
  pub rest-last : {a : List ℕ} {most : ℕ} {v : Text} (more : ℕ) → Rest t s u a → Wrote u a most v → v.at ≤ t.at + more → Wrote t s more v
  rest-last more L P h = record { same = P.same ∙ L.same; puts = left-last more L.left P.puts h }

  -- a byte of w is put
  pub rest-byte : (w : List ℕ) (k : ℕ) {most : ℕ} {v : Text} → k < length w → Rest t s u (drop k w) → Wrote u (get_or w k 0 ∷ []) most v
      → Rest t s v (drop (k + 1) w)
  rest-byte w k h L P = record { same = P.same ∙ L.same; left = left-byte w k h L.left P.puts }

  -- no byte of w is left
  pub rest_end : (w : List ℕ) (k most : ℕ) → length w ≤ k → u.at ≤ t.at + most → Rest t s u (drop k w) → Wrote t s most u
  rest_end w k most g h L = record { same = L.same; puts = left_end w k most g h L.left }

-- a wider bound on what is put into a text
pub wrote-within : {t u : Text} {s : List ℕ} {most : ℕ} (more : ℕ) → most ≤ more → Wrote t s most u → Wrote t s more u
wrote-within more h P = record { same = P.same; puts = puts-within more h P.puts }

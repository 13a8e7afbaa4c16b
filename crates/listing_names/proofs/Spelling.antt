-- A word's bytes, one after the other, and a name's words from them.
use mathlib.Core.Path.{◌≡◌, refl, sym, ap, ◌∙◌}
use mathlib.Core.List.{List, [], ◌∷◌, ◌++◌, append_assoc, append-nil}
use mathlib.Core.Bool.{Bool, true, false, not, cond, ◌&&◌}
use native.Mathlib.Omega.{arith}
use native.Mathlib.Numerals.{add-one}
use lib.Dec.{eqb, ltb}
use lib.ListN.{length, take, drop, get_or, set, replicate, drop_of_length-le, length-take, length-append, length-set, get_or-eq_default}
use lib.Seq.{drop-cons, drop-drop, take-suc-set, get_or-set_other, get_or-take}
use Prim.Native.Nat.{ℕ, zero, suc, ◌+◌, ◌≤◌, ◌<◌}
use borrow.Author.Tests.{eq-eqb, ne_eqb, le-leb, lt-leb, ltb-true, ltb-false}
use Rattle.listing.specs.Bytes.{among, class_of}
use Rattle.listing.specs.declared.Class.TheVariants.{Plain}
use Rattle.listing.specs.Names.{spelt_as, decode_from, decode, packed, name_of}
use Rattle.listing_names.specs.Names.{fits}

-- a plain byte is not 0
pub plain-some : (b : ℕ) → Plain ≡ class_of b → 0 < b
unfolding class_of
plain-some zero e = absurd (cc)
plain-some (suc n) e = omega arith

decode-skip : (k : ℕ) (l : List ℕ) → decode_from k l ≡ decode (drop k l)
unfolding decode_from
decode-skip zero l = refl
decode-skip (suc k) [] = refl
decode-skip (suc k) (b ∷ bs) = decode-skip k bs

abbrev pub spelt_at : List ℕ → ℕ → ℕ
spelt_at w i = spelt_as (class_of (get_or w i 0)) (get_or w i 0) (drop (i + 1) w)

module _ (w : List ℕ) (i : ℕ) (h : i < length w) where
  pub decode-at : decode (drop i w) ≡ spelt_at w i ∷ decode_from (cond (eqb (get_or w i 0) 92) 3 0) (drop (i + 1) w)
  unfolding decode_from
  decode-at = rw (add-one, drop-cons w i 0 h)

  pub decode-plain : (get_or w i 0 ≡ 92 → ⊥) → decode (drop i w) ≡ spelt_at w i ∷ decode (drop (i + 1) w)
  decode-plain e = rw (ne_eqb _ _ e) at decode-at

  pub decode-escape : get_or w i 0 ≡ 92 → decode (drop i w) ≡ spelt_at w i ∷ decode (drop (i + 4) w)
  decode-escape e =
      let q : i + 1 + 3 ≡ i + 4 = omega arith in rw (eq-eqb _ _ e, decode-skip 3 (drop (i + 1) w), drop-drop, q) at decode-at

among-here : (a r : List ℕ) → among 0 (a ++ (0 ∷ r)) ≡ true
among-here [] r = refl
among-here (x ∷ a) r = go (eqb 0 x) (among-here a r)
  where
    go : (t : Bool) → among 0 (a ++ (0 ∷ r)) ≡ true → cond t true (among 0 (a ++ (0 ∷ r))) ≡ true
    go true e = refl
    go false e = e

among-more : (a : List ℕ) (v : ℕ) → among 0 a ≡ false → (v ≡ 0 → ⊥) → among 0 (a ++ (v ∷ [])) ≡ false
among-more [] v e h = rw (ne_eqb 0 v (λ q. h (sym q)))
among-more (x ∷ a) v e h = go (eqb 0 x) e (λ q. among-more a v q h)
  where
    go : (t : Bool) → cond t true (among 0 a) ≡ false → (among 0 a ≡ false → among 0 (a ++ (v ∷ [])) ≡ false) → cond t true (among 0 (a ++ (v ∷ []))) ≡ false
    go true q f = cc
    go false q f = f q

-- n bytes are spelt, of those before place i, and the rest are zeros
pub record Written (w bytes : List ℕ) (n i : ℕ) : Type 0 where
  pub small : n ≤ 32
  pub long : length bytes ≡ 32
  pub spelt : decode w ≡ take n bytes ++ decode (drop i w)
  pub clean : among 0 (take n bytes) ≡ false
  pub rest : (k : ℕ) → n ≤ k → get_or bytes k 0 ≡ 0

zero-any : (n k : ℕ) → ◌≡◌ {A = ℕ} (get_or (replicate n 0) k 0) 0
zero-any zero k = refl
zero-any (suc n) zero = refl
zero-any (suc n) (suc k) = zero-any n k

pub write-none : (w : List ℕ) → Written w (replicate 32 0) 0 0
write-none w = record { small = omega arith; long = refl; spelt = refl; clean = refl; rest = λ k q. zero-any 32 k }

module _ (w bytes : List ℕ) (n i : ℕ) (c : Written w bytes n i) where
  pub write-one : (j v : ℕ) → n < 32 → (v ≡ 0 → ⊥) → decode (drop i w) ≡ v ∷ decode (drop j w) → Written w (set bytes n v) (n + 1) j
  write-one j v h z e =
      let g : n < length bytes = let q = c.long in omega arith in
      record {
        small = omega arith;
        long = simp length-set c.long;
        spelt = c.spelt ∙ rw (add-one, take-suc-set bytes n v g, e, append_assoc);
        clean = rw (add-one, take-suc-set bytes n v g) (among-more (take n bytes) v c.clean z);
        rest = λ k q. get_or-set_other bytes n k v 0 (λ (p : k ≡ n). omega arith) ∙ c.rest k (omega arith);
      }

  pub spelt-bad : (v : ℕ) (r : List ℕ) → v ≡ 0 → decode (drop i w) ≡ v ∷ r → fits w ≡ false
  unfolding fits
  spelt-bad v r z e = rw (c.spelt, e, z, among-here (take n bytes) r)

  pub spelt-long : (v : ℕ) (r : List ℕ) → n ≡ 32 → decode (drop i w) ≡ v ∷ r → fits w ≡ false
  unfolding fits
  spelt-long v r z e =
      let q = ap length (c.spelt ∙ ap (λ (x : List ℕ). take n bytes ++ x) e) in
      let l = c.long in
      let g : 32 < length (decode w) = omega (arith, simp (length-append, length-take) at q) in
      rw (lt-leb _ _ g) (go (not (among 0 (decode w))))
    where
      go : (t : Bool) → (t && false) ≡ false
      go true = refl
      go false = refl

  module _ (h : length w ≤ i) where
    all-spelt : decode w ≡ take n bytes
    unfolding decode_from
    all-spelt = c.spelt ∙ rw (drop_of_length-le w h, append-nil)

    pub spelt-fits : fits w ≡ true
    unfolding fits
    spelt-fits =
        let l = c.long in
        let s = c.small in
        let g : length (take n bytes) ≤ 32 = simp length-take (omega arith) in
        rw (all-spelt, c.clean) (rw (le-leb _ _ g))

    byte-is : (k : ℕ) → get_or bytes k 0 ≡ get_or (decode w) k 0
    byte-is k = rw all-spelt (go (ltb k n) refl)
      where
        go : (t : Bool) → ltb k n ≡ t → get_or bytes k 0 ≡ get_or (take n bytes) k 0
        go true e = sym (get_or-take n bytes k 0 (ltb-true k n e))
        go false e =
            let q = ltb-false k n e in
            let g : length (take n bytes) ≤ k = simp length-take (omega arith) in
            c.rest k q ∙ sym (get_or-eq_default (take n bytes) 0 g)

    pub spelt-words : packed bytes ≡ name_of w
    unfolding packed
    spelt-words = simp byte-is

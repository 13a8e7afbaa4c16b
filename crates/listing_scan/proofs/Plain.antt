-- Places past plain bytes: none, one byte more, two stretches joined, what is the same at both ends, and so what each scan
-- still counts there.
use mathlib.Core.Path.{◌≡◌, refl, ◌∙◌}
use mathlib.Core.List.{List}
use mathlib.Core.Bool.{Bool, true, false}
use mathlib.Core.Logic.{◌⊎◌, ⊎_elim}
use native.Mathlib.Decide.{dec_lt, le_ind}
use native.Mathlib.Numerals.{add-one}
use native.Mathlib.Omega.{arith}
use lib.ListN.{length, drop, get_or}
use Prim.Native.Nat.{ℕ, ◌+◌, ◌≤◌, ◌<◌}
use borrow.Author.Tests.{ne_eqb}
use Rattle.listing.specs.Lines.{len_in}
use Rattle.listing.specs.Words.{is_text}
use Rattle.listing.specs.declared.Mode.TheVariants.{Body}
use Rattle.listing_scan.specs.Places.{stretch, line_ends}
use Rattle.listing_scan.specs.Plain.{PlainFrom, Past}
use Rattle.listing_scan.proofs.Body.{body-goes}
use Rattle.listing_scan.proofs.Scan.{stretch-at, text_at, ends_at}
use Rattle.listing_scan.proofs.Tests.{above-blanks, in-text}
use Rattle.tree.proofs.Never.{never}

-- a flag that a test clears, and that is still set
pub still : {P N : Type 0} {a b : Bool} → (P × (b ≡ false)) ⊎ (N × (b ≡ a)) → b ≡ true → N × (a ≡ true)
still w e = ⊎_elim (λ p. let z = p.1 in never (cc)) (λ n. let z = n.1 in (n.0, cc)) w

module _ {least : ℕ} {l : List ℕ} {from : ℕ} where
  pub past-none : from ≤ length l → Past least l from from
  past-none h = record { low = omega arith; fits = h; plain = λ i a b. absurd (omega arith) }

  pub past-join : {a e : ℕ} → Past least l from a → Past least l a e → Past least l from e
  past-join {a} p q =
      record {
        low = omega arith;
        fits = q.fits;
        plain = λ i b s. elim (dec_lt i a) [ yes h ↦ p.plain i b h | no h ↦ q.plain i (omega arith) s ];
      }

  pub past_one : {a : ℕ} → Past least l from a → a < length l → PlainFrom least (get_or l a 0) → Past least l from (a + 1)
  past_one {a} p h b =
      past-join p (record { low = omega arith; fits = omega arith; plain = λ i u v. let e : i ≡ a = omega arith in rw e b })

  -- what no plain byte changes
  pub past_same : {A : Type 0} (f : ℕ → A) {r : ℕ} → Past least l from r
      → ((i : ℕ) → i < length l → PlainFrom least (get_or l i 0) → f i ≡ f (i + 1)) → f from ≡ f r
  past_same f {r} p s =
      le_ind
      (λ m. m ≤ r → f from ≡ f m)
      (λ h. refl)
      (λ m a k h. k (omega arith) ∙ rw (← add-one m) (s m (omega arith) (p.plain m a h)))
      r
      p.low
      (omega arith)

module _ {l : List ℕ} {from r : ℕ} where
  pub body-past : Past 32 l from r → from + len_in Body (drop from l) ≡ r + len_in Body (drop r l)
  body-past p =
      past_same
      (λ i. i + len_in Body (drop i l))
      p
      (λ i h b.
      let q = rw (ne_eqb _ _ b.solid) at (body-goes l i h false (omega arith) (λ e. omega arith)) in
      omega arith)

  pub ends-past : Past 32 l from r → line_ends (drop from l) ≡ line_ends (drop r l)
  ends-past p = past_same (λ i. line_ends (drop i l)) p (λ i h b. ends_at l i h ∙ rw (ne_eqb (get_or l i 0) 10 (λ e. omega arith)))

  pub text-past : Past 32 l from r → is_text (drop from l) ≡ is_text (drop r l)
  text-past p =
      past_same (λ i. is_text (drop i l)) p (λ i h b. text_at l i h ∙ rw (in-text (get_or l i 0) b.low (omega arith)))

  pub span-past : Past 33 l from r → from + stretch false (drop from l) ≡ r + stretch false (drop r l)
  span-past p =
      past_same
      (λ i. i + stretch false (drop i l))
      p
      (λ i h b.
      let q = rw (above-blanks (get_or l i 0) (drop (i + 1) l) (omega arith) b.low b.solid) at (stretch-at l i h false) in
      omega arith)

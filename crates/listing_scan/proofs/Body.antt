-- A line in which a word has begun, one byte more.
use mathlib.Core.Path.{◌≡◌, refl, ◌∙◌}
use mathlib.Core.List.{List}
use mathlib.Core.Bool.{Bool, true, false}
use lib.Dec.{eqb}
use lib.ListN.{length, drop, get_or}
use Prim.Native.Nat.{ℕ, suc, ◌+◌, ◌<◌}
use Rattle.listing.specs.Lines.{len_in}
use Rattle.listing.specs.declared.Mode.{Mode}
use Rattle.listing.specs.declared.Mode.TheVariants.{Body, BodyBack, Done, Lead, LeadBack, Comment}
use Rattle.listing_scan.specs.Places.{is_body}
use Rattle.listing_scan.proofs.Scan.{len-at, len-done}
use Rattle.listing_scan.proofs.Tests.{after, end-lf, end-other}
use Rattle.tree.proofs.Never.{never}

pub body_is : (m : Mode) → is_body m ≡ true → m ≡ Body
body_is Body e = refl
body_is Lead e = never (cc)
body_is LeadBack e = never (cc)
body_is BodyBack e = never (cc)
body_is Comment e = never (cc)
body_is Done e = never (cc)

module _ (t : List ℕ) (i : ℕ) (h : i < length t) where
  pub body-joins : get_or t i 0 ≡ 10 → len_in (after true) (drop i t) ≡ suc (len_in (after false) (drop (i + 1) t))
  body-joins e = len-at t i h BodyBack ∙ rw (e, end-lf Body BodyBack Body)

  pub body-ends : get_or t i 0 ≡ 10 → len_in (after false) (drop i t) ≡ 1
  body-ends e = len-at t i h Body ∙ rw (e, end-lf Done BodyBack Body, len-done (drop (i + 1) t) Done refl)

  pub body-goes : (back : Bool) → get_or t i 0 < 256 → (get_or t i 0 ≡ 10 → ⊥) → len_in (after back) (drop i t) ≡ suc (len_in (after (eqb (get_or t i 0) 92)) (drop (i + 1) t))
  body-goes true s n = len-at t i h BodyBack ∙ rw (end-other (get_or t i 0) Body s n)
  body-goes false s n = len-at t i h Body ∙ rw (end-other (get_or t i 0) Done s n)

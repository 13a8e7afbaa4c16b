-- `set_line` meets its contract: 9 for size and sha256digest, else the type decides.
use mathlib.Core.Path.{◌≡◌, refl, sym, ap, ◌∙◌}
use native.Mathlib.Omega.{arith}
use borrow.Author.Rules.{rules}
use Rattle.std.proofs.Common.{Ok, Err}
use Rattle.listing.specs.Entries.{Said.none}
use Rattle.listing.specs.Reading.{set_line}
use Rattle.listing_lines.proofs.Alters.{alters-as, refuses, set-bad, set-told, set-untold}
use Rattle.listing_slash_line.proofs.set_line.Goals as goal

pub returns-then-not-lacks : goal.returns-then-not-lacks
unfolding set_line
returns-then-not-lacks c = alters-as (λ t. rw (← c.lacks.ensures, c.if-not-lacks.true)) (refuses 9 _ (omega arith))

pub returns-then-not-lacks-2 : goal.returns-then-not-lacks-2
unfolding set_line
returns-then-not-lacks-2 c =
    alters-as (λ t. rw (← c.lacks.ensures, c.if-not-lacks.false, ← c.lacks-2.ensures, c.if-not-lacks-2.true)) (refuses 9 _ (omega arith))

pub returns-in_err-type_in : goal.returns-in_err-type_in
unfolding set_line
returns-in_err-type_in c =
    let r : c.from_residual.result ≡ Err c.in_err-type_in.field-0.0 = search rules in
    rw r
    (alters-as (λ t. rw (← c.lacks.ensures, c.if-not-lacks.false, ← c.lacks-2.ensures, c.if-not-lacks-2.false))
    (set-bad _ _ _ (sym c.in_err-type_in.was ∙ c.type_in.ensures none refl)))

pub returns-in-None : goal.returns-in-None
unfolding set_line
returns-in-None c =
    alters-as (λ t. rw (← c.lacks.ensures, c.if-not-lacks.false, ← c.lacks-2.ensures, c.if-not-lacks-2.false))
    (set-untold _ _ (sym (c.in_ok-type_in.was ∙ ap Ok c.in-None.is) ∙ c.type_in.ensures none refl))

pub returns-in-Some : goal.returns-in-Some
unfolding set_line
returns-in-Some c =
    alters-as (λ t. rw (← c.lacks.ensures, c.if-not-lacks.false, ← c.lacks-2.ensures, c.if-not-lacks-2.false))
    (set-told _ _ _ _ (sym (c.in_ok-type_in.was ∙ ap Ok c.in-Some.is) ∙ c.type_in.ensures none refl) c.with_default.ensures)

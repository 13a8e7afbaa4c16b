-- A text laid out otherwise, in its blanks, comments, joined lines and order of entries, is read as the same tree.
use mathlib.Core.List.{List}
use Prim.Native.Nat.{ℕ}
use Rattle.tree.specs.declared.Profile.{Profile}
use mathlib.Core.Path.{◌≡◌, subst}
use Rattle.tree.specs.Forest.{Forest}
use Rattle.listing.specs.Reading.{Outcome, Outcome.refused, Outcome.accepted, most_rows, reading}
use Rattle.listing_layout.specs.Said.{Alike}
use Rattle.listing_layout.specs.Relaid.{Relaid, Relaid.as_is, Relaid.respaced, Relaid.reordered, LayoutChangesNothing}
use Rattle.listing_layout.proofs.Runs.{passed}
use Rattle.listing_layout.proofs.Said.{words-decide}
use Rattle.listing_layout.proofs.Order.{order-changes-nothing}

alike-accepted : (f : Forest) (y : Outcome) → Alike (accepted f) y → y ≡ accepted f
alike-accepted f (refused n i) h = absurd h
alike-accepted f (accepted g) h = cc

layout-kept : (p : Profile) (room : ℕ) (f : Forest) {t u : List ℕ} → Relaid p (most_rows room) t u → reading p t room ≡ accepted f → reading p u room ≡ accepted f
layout-kept p room f as_is e = e
layout-kept p room f {t} (respaced {u = v} fv same r) e =
    layout-kept p room f r
    (alike-accepted f (reading p v room) (subst (λ (x : Outcome). Alike x (reading p v room)) e (words-decide p t v room (passed p t room f e).form fv same)))
layout-kept p room f {t} (reordered {u = v} o r) e = layout-kept p room f r (order-changes-nothing p t v room f o e)

pub layout-changes-nothing : LayoutChangesNothing
layout-changes-nothing p t u room f r e = layout-kept p room f r e

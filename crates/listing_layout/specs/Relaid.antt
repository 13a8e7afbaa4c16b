-- A text laid out otherwise, in its blanks, comments, joined lines and order of entries, is read as the same tree.
use Rattle.std.specs.Prelude.{◌≡◌, List, true, ℕ}
use Rattle.tree.specs.Forest.{Forest}
use Rattle.tree.specs.declared.Profile.{Profile}
use Rattle.listing.specs.Reading.{Outcome.accepted, has_form, most_rows, reading}
use Rattle.listing_layout.specs.Said.{said}
use Rattle.listing_layout.specs.Order.{Reordered}

-- the same words otherwise laid out, or a folder's entries in another order, any number of times
pub data Relaid (p : Profile) (most : ℕ) : List ℕ → List ℕ → Type 0 where
  as_is : {t : List ℕ} → Relaid p most t t
  respaced : {t u v : List ℕ} → has_form u ≡ true → said t ≡ said u → Relaid p most u v → Relaid p most t v
  reordered : {t u v : List ℕ} → Reordered p most t u → Relaid p most u v → Relaid p most t v

abbrev pub LayoutChangesNothing : Type 0
LayoutChangesNothing =
    (p : Profile) (t u : List ℕ) (room : ℕ) (f : Forest) → Relaid p (most_rows room) t u → reading p t room ≡ accepted f → reading p u room ≡ accepted f

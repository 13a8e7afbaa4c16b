-- The round trip: a tree that is written and read again, in a profile.
use Rattle.std.specs.Prelude.{◌≡◌, length, ℕ, ◌+◌, ◌*◌, ◌≤◌}
use Rattle.tree.specs.Forest.{Forest, size}
use Rattle.tree.specs.Key.{FormedIn}
use Rattle.tree.specs.declared.Profile.{Profile}
use Rattle.listing.specs.Reading.{Outcome.accepted, answer_of, reading}
use Rattle.listing.specs.Writing.{text_of}

-- reading what was written for f gives f, and answers its rows
pub record ReadsBack (p : Profile) (f : Forest) (room : ℕ) : Type 0 where
  pub tree : reading p (text_of f) room ≡ accepted f
  pub answer : answer_of (reading p (text_of f) room) ≡ record { number = 0; side = 0; place = size f + 1 }

-- for every tree that a table may hold, whose text isn't too long, into a table with room for its rows
abbrev pub RoundTrip : Type 0
RoundTrip =
    (p : Profile) (f : Forest) (room : ℕ) → FormedIn p f → size f + 1 ≤ 4096 → length (text_of f) ≤ 65536 → 20 * (size f + 1) ≤ room
    → ReadsBack p f room

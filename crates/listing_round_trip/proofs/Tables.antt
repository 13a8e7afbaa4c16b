-- A table that passes in a profile, whose text isn't too long, is read back from that text in the profile.
use mathlib.Core.Path.{◌≡◌}
use mathlib.Core.List.{List}
use native.Mathlib.Omega.{arith}
use lib.ListN.{length}
use Prim.Native.Nat.{ℕ, ◌≤◌}
use Rattle.tree.specs.Rules.{Words32}
use Rattle.tree.specs.declared.Profile.{Profile}
use Rattle.table_row.specs.Tree.{tree_of}
use Rattle.table_rules.specs.Keyed.{Passes}
use Rattle.table_rules.proofs.Passed.{passed-formed, passed_length, passed-most}
use Rattle.listing.specs.Reading.{Outcome.accepted, reading}
use Rattle.listing.specs.Writing.{text_of}
use Rattle.listing.proofs.RoundTrip.{round_trip}

pub table-back : (p : Profile) (w : List ℕ) (room : ℕ) → Passes p w → Words32 w → length (text_of (tree_of w)) ≤ 65536 → length w ≤ room
    → reading p (text_of (tree_of w)) room ≡ accepted (tree_of w)
table-back p w room P small long fits =
    let rows = passed_length p w P in
    let most = passed-most p w P in
    (round_trip p (tree_of w) room (passed-formed p w P small) (omega arith) long (omega arith)).tree

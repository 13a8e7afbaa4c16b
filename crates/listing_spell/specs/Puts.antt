-- Bytes put at a place of a lent buffer: those that fit are written, and all are counted.
use Rattle.std.specs.Prelude.{◌≡◌, List, length, ℕ, ◌+◌, ◌≤◌}
use Rattle.std.proofs.lemmas.List.Edits.{sets}
use Rattle.listing_spell.specs.declared.Text.{Text}

-- d with the bytes s from place at on; what is past its end is left out
unfoldable pub poured : List ℕ → ℕ → List ℕ → List ℕ
poured d at s = sets d at s

-- at most so many bytes s were put into d at place at: the next place, and what d became
pub record Puts (d : List ℕ) (at : ℕ) (s : List ℕ) (most : ℕ) (next : ℕ) (after : List ℕ) : Type 0 where
  pub counted : next ≡ at + length s
  pub near : next ≤ at + most
  pub holds : after ≡ poured d at s

-- at most so many bytes s were put into the text t: it became u, in the same lent buffer
pub record Wrote (t : Text) (s : List ℕ) (most : ℕ) (u : Text) : Type 0 where
  pub same : u.out.ghost_name ≡ t.out.ghost_name
  pub puts : Puts t.out.now t.at s most u.at u.out.now

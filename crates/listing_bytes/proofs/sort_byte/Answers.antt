-- `sort_byte` meets its contract: single bytes by their keys, the rest by their range.
use mathlib.Core.Logic.{⊎_elim}
use Rattle.listing.specs.Bytes.{class_of}
use Rattle.listing.proofs.Bytes.{high, low, plain}
use Rattle.listing_bytes.proofs.sort_byte.Goals as goal

pub returns-in-10 : goal.returns-in-10
unfolding class_of
returns-in-10 c = rw c.in-10.is

pub returns-in-9 : goal.returns-in-9
unfolding class_of
returns-in-9 c = ⊎_elim (λ e. rw e) (λ e. rw e) c.in-9.is

pub returns-in-92 : goal.returns-in-92
unfolding class_of
returns-in-92 c = rw c.in-92.is

pub returns-in-35 : goal.returns-in-35
unfolding class_of
returns-in-35 c = rw c.in-35.is

pub returns-in-42 : goal.returns-in-42
unfolding class_of
returns-in-42 c = ⊎_elim (λ e. rw e) (⊎_elim (λ e. rw e) (⊎_elim (λ e. rw e) (λ e. rw e))) c.in-42.is

pub returns-in-33-to-126 : goal.returns-in-33-to-126
returns-in-33-to-126 c = search (plain)

pub returns-in_default : goal.returns-in_default
returns-in_default c = search (low, high)

pub returns-in_default-2 : goal.returns-in_default-2
returns-in_default-2 c = search (low, high)

-- `listing_spell::as_it_is` meets its contract: a run of bytes at a time.
use mathlib.Core.Path.{refl}
use mathlib.Core.Bool.{true, false}
use borrow.Author.Rules.{rules}
use Rattle.listing.specs.Writing.{as_it_is}
use Rattle.listing_spell.proofs.Plain.{run-same}
use Rattle.listing_spell.proofs.as_it_is.Goals as goal

pub returns-in-48-to-57 : goal.returns-in-48-to-57
unfolding as_it_is
returns-in-48-to-57 c = run-same 48 10 true refl (search rules) (search rules) c.in-48-to-57.in_default-own.rest.1

pub returns-in-65-to-90 : goal.returns-in-65-to-90
unfolding as_it_is
returns-in-65-to-90 c = run-same 65 26 true refl (search rules) (search rules) c.in-65-to-90.in_default-own.rest.1

pub returns-in-97-to-122 : goal.returns-in-97-to-122
unfolding as_it_is
returns-in-97-to-122 c = run-same 97 26 true refl (search rules) (search rules) c.in-97-to-122.in_default-own.rest.1

pub returns-in_default : goal.returns-in_default
unfolding as_it_is
returns-in_default c = run-same 0 45 false refl (search rules) (search rules) c.in_default.in_default-own.rest.1

pub returns-in_default-2 : goal.returns-in_default-2
unfolding as_it_is
returns-in_default-2 c = run-same 47 1 false refl (search rules) (search rules) c.in_default.in_default-own.rest.1

pub returns-in_default-3 : goal.returns-in_default-3
unfolding as_it_is
returns-in_default-3 c = run-same 58 7 false refl (search rules) (search rules) c.in_default.in_default-own.rest.1

pub returns-in_default-4 : goal.returns-in_default-4
unfolding as_it_is
returns-in_default-4 c = run-same 91 6 false refl (search rules) (search rules) c.in_default.in_default-own.rest.1

pub returns-in_default-5 : goal.returns-in_default-5
unfolding as_it_is
returns-in_default-5 c = run-same 123 133 false refl (search rules) (search rules) c.in_default.in_default-own.rest.1

pub returns-in-45 : goal.returns-in-45
unfolding as_it_is
returns-in-45 c = rw c.in-45.is

pub returns-in-45-2 : goal.returns-in-45-2
unfolding as_it_is
returns-in-45-2 c = run-same 45 2 true refl (search rules) (search rules) c.in-45.in_default-own.rest.1

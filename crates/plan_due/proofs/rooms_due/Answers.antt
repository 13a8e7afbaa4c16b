-- `plan_due::rooms_due` meets its contract: the first of four answers that refuses, or the last.
use Rattle.std.proofs.Common.{◌≡◌, refl, rules}
use Rattle.table_rules.specs.Faults.{first_refusal}
use Rattle.plan_run.specs.Run.{rooms_due}
use Rattle.plan_due.proofs.rooms_due.Goals as goal

pub returns-in_err-unless_refused : goal.returns-in_err-unless_refused
unfolding rooms_due first_refusal
returns-in_err-unless_refused c =
    let e : c.from_residual.result ≡ c.unless_refused.result = search rules in
    rw (e, ← c.has_room-first.ensures, ← c.unless_refused.ensures, c.in_err-unless_refused.was) refl

pub returns-in_err-unless_refused-2 : goal.returns-in_err-unless_refused-2
unfolding rooms_due first_refusal
returns-in_err-unless_refused-2 c =
    let e : c.from_residual-in_err-unless_refused-2.result ≡ c.unless_refused-2.result = search rules in
    rw (
      e,
      ← c.has_room-first.ensures,
      ← c.unless_refused.ensures,
      c.in_ok-unless_refused.was,
      ← c.has_room-second.ensures,
      ← c.unless_refused-2.ensures,
      c.in_err-unless_refused-2.was,
    )
    refl

pub returns-in_err-unless_refused-3 : goal.returns-in_err-unless_refused-3
unfolding rooms_due first_refusal
returns-in_err-unless_refused-3 c =
    let e : c.from_residual-in_err-unless_refused-3.result ≡ c.unless_refused-3.result = search rules in
    rw (
      e,
      ← c.has_room-first.ensures,
      ← c.unless_refused.ensures,
      c.in_ok-unless_refused.was,
      ← c.has_room-second.ensures,
      ← c.unless_refused-2.ensures,
      c.in_ok-unless_refused-2.was,
      ← c.has_room-third.ensures,
      ← c.unless_refused-3.ensures,
      c.in_err-unless_refused-3.was,
    )
    refl

pub returns : goal.returns
unfolding rooms_due first_refusal
returns c =
    rw (
      ← c.has_room-first.ensures,
      ← c.unless_refused.ensures,
      c.in_ok-unless_refused.was,
      ← c.has_room-second.ensures,
      ← c.unless_refused-2.ensures,
      c.in_ok-unless_refused-2.was,
      ← c.has_room-third.ensures,
      ← c.unless_refused-3.ensures,
      c.in_ok-unless_refused-3.was,
    )
    c.unless_refused-4.ensures

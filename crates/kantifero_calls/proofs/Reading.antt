-- The place of a text that is read: a line of at most 65,536 bytes, or the rows of a table.
use mathlib.Core.Path.{◌≡◌, refl}
use mathlib.Core.List.{List, [], ◌∷◌}
use mathlib.Core.Bool.{Bool, true, false, cond}
use native.Mathlib.Omega.{arith}
use lib.Dec.{eqb, leb}
use lib.ListN.{length, take}
use Prim.Native.Nat.{ℕ, zero, suc, ◌+◌, ◌≤◌}
use borrow.Author.Tests.{leb-true}
use Rattle.tree.specs.declared.Profile.{Profile}
use Rattle.tree.proofs.Same.{and-true}
use Rattle.listing.specs.declared.Mode.TheVariants.{Lead}
use Rattle.listing.specs.Bytes.{class_of}
use Rattle.listing.specs.Lines.{step_of, len_in, next, lines_from, lines}
use Rattle.listing.specs.Entries.{Said.none}
use Rattle.listing.specs.Reading.{State, State.before, State.inside, State.closed, Step, Step.stops, Step.goes, Outcome, Outcome.refused, Outcome.accepted, answer_of, line_does, on_step, run, ends_in_lf, has_form, most_rows, reading}
use Rattle.listing.proofs.Accepted.{accepted-fits}

-- the line of a refusal
line_of : Outcome → ℕ
line_of (refused n line) = line
line_of (accepted f) = 0

next-most : (n b : ℕ) → next n b ≤ suc n
next-most n b = go (eqb b 10)
  where
    go : (c : Bool) → cond c (suc n) n ≤ suc n
    go true = omega arith
    go false = omega arith

-- no line has a higher number than there are bytes before it
run-line : (p : Profile) (most n k : ℕ) (bs : List ℕ) (s : State) → line_of (run p most (lines_from n k bs) s) ≤ n + length bs
unfolding line_of run lines_from
run-line p most n k [] (before d) = omega arith
run-line p most n k [] (inside f q v) = omega arith
run-line p most n k [] (closed f) = omega arith
run-line p most n (suc k) (b ∷ bs) s = omega (arith, run-line p most (next n b) k bs s, next-most n b)
run-line p most n zero (b ∷ bs) s =
    let k = len_in (step_of Lead (class_of b)) bs in
    go k (line_does p most (b ∷ take k bs) s) (λ t. run-line p most (next n b) k bs t)
  where
    go : (k : ℕ) (x : Step) → ((t : State) → line_of (run p most (lines_from (next n b) k bs) t) ≤ next n b + length bs)
        → line_of (on_step x n (λ t. run p most (lines_from (next n b) k bs) t)) ≤ n + suc (length bs)
    go k (stops m) h = omega arith
    go k (goes t) h = omega (arith, h t, next-most n b)

read-line : (p : Profile) (t : List ℕ) (room : ℕ) → line_of (reading p t room) ≤ 65537
unfolding reading line_of
read-line p t room = go (has_form t) refl
  where
    go : (b : Bool) → has_form t ≡ b → line_of (cond b (run p (most_rows room) (lines t) (before none)) (refused 6 0)) ≤ 65537
    go true e = omega (arith, leb-true (length t) 65536 (and-true (leb (length t) 65536) (ends_in_lf t) e).0, run-line p (most_rows room) 1 0 t (before none))
    go false e = omega arith

pub read-place : (p : Profile) (t : List ℕ) (room : ℕ) → (answer_of (reading p t room)).place ≤ 65537
unfolding line_of
read-place p t room = go (reading p t room) refl (read-line p t room)
  where
    go : (o : Outcome) → reading p t room ≡ o → line_of o ≤ 65537 → (answer_of o).place ≤ 65537
    go (refused n line) e h = h
    go (accepted f) e h = omega (arith, (accepted-fits p t room f e).room)

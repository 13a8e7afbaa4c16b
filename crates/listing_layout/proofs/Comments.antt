-- Comments and blank lines change nothing but the numbers of the lines after them.
use mathlib.Core.Path.{◌≡◌, refl, ap, ◌∙◌}
use mathlib.Core.List.{List, [], ◌∷◌, ◌++◌}
use mathlib.Core.Bool.{Bool, true, false, cond}
use native.Mathlib.Omega.{arith}
use lib.Dec.{eqb}
use lib.ListN.{length, take, length-append}
use Prim.Native.Nat.{ℕ, zero, suc, ◌+◌, ◌≤◌, ◌<◌}
use borrow.Author.Tests.{le-leb, lt-leb}
use Rattle.tree.specs.declared.Profile.{Profile}
use Rattle.tree.proofs.Same.{and-true}
use Rattle.listing.specs.Bytes.{class_of}
use Rattle.listing.specs.Lines.{Line, begin_of, len_in, lines_from, lines, next}
use Rattle.listing.specs.Words.{Words, words, is_text}
use Rattle.listing.specs.Entries.{Said.none}
use Rattle.listing.specs.Reading.{State, State.before, State.inside, State.closed, Step, Step.goes, Step.stops, Outcome, Outcome.refused, words_do, line_does, ended, on_step, run, ends_in_lf, most_rows, reading}
use Rattle.listing_scan.specs.Places.{line_ends}
use Rattle.listing_layout.specs.Whole.{whole, bytes_of, pieces}
use Rattle.listing_layout.specs.Comments.{silent, all_silent, later, CommentsChangeNothing}
use Rattle.listing_layout.proofs.Whole.{bytes-any, lines-append, Upto, numbers-upto, ends-after}

silent-words : (p : Profile) (most : ℕ) (good : Bool) (ws : Words) (s : State) → silent ws ≡ true → words_do p most good ws s ≡ goes s
unfolding words_do
silent-words p most good [] s h = refl
silent-words p most good (w ∷ ws) s h = rw h

-- a comment or a blank line leaves the state as it is
pub silent-does : (p : Profile) (most : ℕ) (l : List ℕ) (s : State) → silent (words l) ≡ true → line_does p most l s ≡ goes s
silent-does p most l s h = silent-words p most (is_text l) (words l) s h

next-later : (n d x : ℕ) → next (n + d) x ≡ next n x + d
next-later n d x = go (eqb x 10)
  where
    go : (t : Bool) → cond t (suc (n + d)) (n + d) ≡ cond t (suc n) n + d
    go true = omega arith
    go false = refl

next-least : (n x : ℕ) → n ≤ next n x
next-least n x = go (eqb x 10)
  where
    go : (t : Bool) → n ≤ cond t (suc n) n
    go true = omega arith
    go false = omega arith

module _ (p : Profile) (most : ℕ) where
  run-silent : (ls rest : List Line) (s : State) → all_silent (bytes_of ls) ≡ true → run p most (ls ++ rest) s ≡ run p most rest s
  unfolding run all_silent
  run-silent [] rest s h = refl
  run-silent (l ∷ ls) rest s h =
      let q = and-true (silent (words l.bytes)) (all_silent (bytes_of ls)) h in
      rw (silent-does p most l.bytes s q.0) (run-silent ls rest s q.1)

  -- the same lines, d later, all of them past k
  ended-later : (k d : ℕ) (s : State) → ended s ≡ later k d (ended s)
  ended-later k d (before v) = rw (le-leb 0 k (omega arith))
  ended-later k d (inside f q v) = refl
  ended-later k d (closed f) = refl

  run-later : (k d n j : ℕ) (b : List ℕ) (s : State) → k < n → run p most (lines_from (n + d) j b) s ≡ later k d (run p most (lines_from n j b) s)
  unfolding run lines_from
  run-later k d n j [] s h = ended-later k d s
  run-later k d n (suc j) (x ∷ b) s h = rw (next-later n d x) (run-later k d (next n x) j b s (omega (arith, next-least n x)))
  run-later k d n zero (x ∷ b) s h =
      rw (next-later n d x) (go (line_does p most (x ∷ take (len_in (begin_of (class_of x)) b) b) s) (λ t. run-later k d (next n x) (len_in (begin_of (class_of x)) b) b t (omega (arith, next-least n x))))
    where
      go : (e : Step) → ((t : State) → run p most (lines_from (next n x + d) (len_in (begin_of (class_of x)) b) b) t ≡ later k d (run p most (lines_from (next n x) (len_in (begin_of (class_of x)) b) b) t))
          → on_step e (n + d) (λ t. run p most (lines_from (next n x + d) (len_in (begin_of (class_of x)) b) b) t)
          ≡ later k d (on_step e n (λ t. run p most (lines_from (next n x) (len_in (begin_of (class_of x)) b) b) t))
      go (stops e) ih = rw (lt-leb n k h)
      go (goes t) ih = ih t

  run-upto : (k d : ℕ) (ls xs ys : List Line) → Upto k ls → ((s : State) → run p most xs s ≡ later k d (run p most ys s))
      → (s : State) → run p most (ls ++ xs) s ≡ later k d (run p most (ls ++ ys) s)
  unfolding run Upto
  run-upto k d [] xs ys u h s = h s
  run-upto k d (l ∷ ls) xs ys u h s = go (line_does p most l.bytes s) (run-upto k d ls xs ys u.1 h)
    where
      go : (x : Step) → ((t : State) → run p most (ls ++ xs) t ≡ later k d (run p most (ls ++ ys) t))
          → on_step x l.number (λ t. run p most (ls ++ xs) t) ≡ later k d (on_step x l.number (λ t. run p most (ls ++ ys) t))
      go (stops n) ih = rw (le-leb l.number k u.0)
      go (goes t) ih = ih t

module _ (p : Profile) (most : ℕ) (a c b : List ℕ) (wa : whole a ≡ true) (wc : whole c ≡ true) (sc : all_silent (pieces c) ≡ true) where
  past : (s : State) → run p most (lines_from (1 + line_ends a) 0 (c ++ b)) s ≡ later (line_ends a) (line_ends c) (run p most (lines_from (1 + line_ends a) 0 b) s)
  past s =
      rw (lines-append (1 + line_ends a) c b wc)
      (run-silent p most (lines_from (1 + line_ends a) 0 c) _ s (ap all_silent (bytes-any (1 + line_ends a) 1 0 c) ∙ sc)
      ∙ run-later p most (line_ends a) (line_ends c) (1 + line_ends a) 0 b s (omega arith))

  runs : (s : State) → run p most (lines (a ++ (c ++ b))) s ≡ later (line_ends a) (line_ends c) (run p most (lines (a ++ b)) s)
  runs s =
      rw (lines-append 1 a (c ++ b) wa, lines-append 1 a b wa)
      (run-upto p most (line_ends a) (line_ends c) (lines_from 1 0 a) _ _ (numbers-upto 1 (line_ends a) a wa (omega arith)) past s)

pub comments-change-nothing : CommentsChangeNothing
unfolding reading
comments-change-nothing p a c b room wa wc sc long =
    let short : length (a ++ b) ≤ 65536 = omega (arith, length-append a (c ++ b), length-append c b, length-append a b) in
    rw (le-leb (length (a ++ (c ++ b))) 65536 long, le-leb (length (a ++ b)) 65536 short, ends-after a c b wa wc)
    (go _ _ (ends_in_lf (a ++ b)) (runs p (most_rows room) a c b wa wc sc (before none)))
  where
    go : (x y : Outcome) (t : Bool) → x ≡ later (line_ends a) (line_ends c) y
        → cond t x (refused 6 0) ≡ later (line_ends a) (line_ends c) (cond t y (refused 6 0))
    go x y true e = e
    go x y false e = rw (le-leb 0 (line_ends a) (omega arith))

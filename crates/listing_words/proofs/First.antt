-- A line's first word: it is the first of the line's words, and what is left has the others.
use mathlib.Core.Path.{◌≡◌}
use mathlib.Core.List.{List, []}
use native.Mathlib.Omega.{arith}
use lib.ListN.{length, length-drop}
use Prim.Native.Nat.{ℕ, ◌≤◌, ◌<◌}
use Rattle.listing.specs.Words.{words}
use Rattle.listing_scan.specs.Places.{skip}
use Rattle.listing_scan.proofs.Next.{Next, words-none, words-next}
use Rattle.listing_words.specs.First.{First}

pub first-none : (l : List ℕ) → length l ≤ skip l → words l ≡ []
first-none l h = words-none l 0 (skip l) (omega arith) h

pub first-next : (l w r : List ℕ) (f : First l w r) → Next l f.start f.end (words l) w (words r)
first-next l w r f =
    rw (f.is, f.past) (words-next l 0 f.start (let b = f.begins in omega arith) f.end f.ends f.some)

-- what is left is shorter
pub first-smaller : (l w r : List ℕ) → First l w r → length r < length l
first-smaller l w r f =
    let n = first-next l w r f in
    let a = n.some in
    let b = n.fits in
    rw (f.past, length-drop) (omega arith)

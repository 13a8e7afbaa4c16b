-- Words written one part after the other.
use mathlib.Core.Path.{◌≡◌, refl}
use mathlib.Core.List.{List, [], ◌++◌, append_assoc, append-nil}
use native.Mathlib.Omega.{arith}
use native.Mathlib.Nat.{add-zero, add_assoc, zero-add}
use lib.ListN.{drop_of_length-le, length, take, drop, length-append, take-append-drop}
use lib.Seq.{paste, take-length, take_at, take-append-le, take-append-add, drop-append-le, drop-append-add, drop-append_seam, drop-drop}
use Prim.Native.Nat.{ℕ, ◌+◌, ◌≤◌}
use Rattle.table_row.specs.Buffer.{written, over}

-- a copy that is done
pub written-paste : (d s : List ℕ) (at : ℕ) → paste d at s (length s) ≡ written d at s
unfolding written
written-paste d s at = rw take-length (append_assoc (take at d) s (drop (at + length s) d))

pub written-nil : (d : List ℕ) (at : ℕ) → written d at [] ≡ d
unfolding written
written-nil d at = rw (add-zero, take-append-drop)

pub over-nil : (d : List ℕ) → over d [] ≡ d
unfolding over
over-nil d = refl

-- what is written at the end of what has been written
pub over-written : (d w s : List ℕ) → written (over d w) (length w) s ≡ over d (w ++ s)
unfolding written over
over-written d w s =
    rw (take_at w (drop (length w) d) (length w) refl, drop-append-add w (drop (length w) d) (length s), drop-drop, length-append, append_assoc)

-- as many words as there are
pub written_all : (d s : List ℕ) → length s ≡ length d → written d 0 s ≡ s
unfolding written
written_all d s h = rw (zero-add (length s), h, drop_of_length-le d {i = length d} (omega arith), append-nil)

-- what is written within the first of two parts, or within the second
pub written-first : (x y s : List ℕ) (at : ℕ) → at + length s ≤ length x → written (x ++ y) at s ≡ written x at s ++ y
unfolding written
written-first x y s at h = rw (take-append-le at x y (omega arith), drop-append-le (at + length s) x y h, append_assoc, append_assoc)

pub written-second : (x y s : List ℕ) (at k : ℕ) → at ≡ length x + k → written (x ++ y) at s ≡ x ++ written y k s
unfolding written
written-second x y s at k e = rw (e, take-append-add, add_assoc, drop-append-add, append_assoc)

-- what is past words that are written at the start stays
pub past-written : (d s : List ℕ) → drop (length s) (written d 0 s) ≡ drop (length s) d
unfolding written
past-written d s = rw (zero-add, drop-append_seam)

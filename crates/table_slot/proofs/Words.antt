-- Words twenty places on, and a row in the gap.
use mathlib.Core.Path.{◌≡◌}
use mathlib.Core.List.{List, ◌++◌, append_assoc}
use native.Mathlib.Omega.{arith}
use lib.ListN.{length, take, drop, length-append, length-drop}
use lib.Seq.{paste, drop_at, take-append-le, take-take, length-take-le}
use Prim.Native.Nat.{ℕ, ◌+◌, ◌-◌, ◌≤◌}
use Rattle.table_row.specs.Buffer.{written}

-- the words from a to e, copied twenty places on
pub shifted : (d : List ℕ) (a e : ℕ) → e ≤ length d → paste d (a + 20) (drop a d) (e - a) ≡ written d (a + 20) (take (e - a) (drop a d))
unfolding written
shifted d a e h =
    let z : length (take (e - a) (drop a d)) ≡ e - a = length-take-le (e - a) (drop a d) (omega (arith, length-drop a d)) in
    rw (z, append_assoc (take (a + 20) d) (take (e - a) (drop a d)) (drop (a + 20 + (e - a)) d))

-- words in the gap before those written
pub written_both : (d r s : List ℕ) (a n : ℕ) → length r ≡ n → a + n ≤ length d → written (written d (a + n) s) a r ≡ written d a (r ++ s)
unfolding written
written_both d r s a n e h =
    let g : length (take (a + n) d) ≡ a + n = length-take-le (a + n) d h in
    let k : a ≤ length (take (a + n) d) = omega arith in
    let j : a ≤ a + n = omega arith in
    let q : a + (n + length s) ≡ a + n + length s = omega arith in
    rw (take-append-le a (take (a + n) d) (s ++ drop (a + n + length s) d) k, take-take a (a + n) d j, e, drop_at (take (a + n) d) (s ++ drop (a + n + length s) d) (a + n) g, length-append, e, q, append_assoc)

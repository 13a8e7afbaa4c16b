-- The text of a list's words, as the code comes to it: a side's path, an entry's words, one entry more.
use mathlib.Core.Path.{◌≡◌}
use mathlib.Core.List.{List, [], ◌++◌}
use native.Mathlib.Omega.{arith}
use native.Mathlib.Nat.{add-zero}
use lib.ListN.{length, drop, get_or}
use lib.Seq.{get_or-drop, drop-drop}
use Prim.Native.Nat.{ℕ, suc, ◌+◌, ◌*◌, ◌-◌, ◌/◌, ◌≤◌, ◌<◌}
use borrow.Author.Tests.{lt-ltb, le-ltb}
use Rattle.table_route.specs.Route.{path_of}
use Rattle.plan_text.specs.Text.{marked, path_text}
use Rattle.plan_text.specs.Words.{side_text, entry_text, entries_text}

module _ (l r : List ℕ) where
  module _ (i j : ℕ) where
    pub side_left : i < length l / 20 → side_text l r i j ≡ path_text (path_of l i)
    unfolding side_text
    side_left h = rw (lt-ltb i (length l / 20) h)

    pub side_right : length l / 20 ≤ i → j < length r / 20 → side_text l r i j ≡ path_text (path_of r j)
    unfolding side_text
    side_right h g = rw (le-ltb i (length l / 20) h, lt-ltb j (length r / 20) g)

    pub side-none : length l / 20 ≤ i → length r / 20 ≤ j → side_text l r i j ≡ []
    unfolding side_text
    side-none h g = rw (le-ltb i (length l / 20) h, le-ltb j (length r / 20) g)

  -- entry k of the words e
  pub entry-words : (e : List ℕ) (k : ℕ) → entry_text l r (drop (3 * k) e) ≡ marked (get_or e (3 * k) 0) (side_text l r (get_or e (3 * k + 1) 0) (get_or e (3 * k + 2) 0))
  unfolding entry_text
  entry-words e k = rw (get_or-drop, get_or-drop, get_or-drop, add-zero)

  -- n entries, of which k are passed
  pub entries-start : (e : List ℕ) (n : ℕ) → entries_text l r (n - 0) (drop (3 * 0) e) ≡ entries_text l r n e
  entries-start e n = let a : n - 0 ≡ n = omega arith in rw a

  pub entries_next : (e : List ℕ) (n k : ℕ) → k < n
      → entries_text l r (n - k) (drop (3 * k) e) ≡ entry_text l r (drop (3 * k) e) ++ entries_text l r (n - (k + 1)) (drop (3 * (k + 1)) e)
  unfolding entries_text
  entries_next e n k h =
      let a : n - k ≡ suc (n - (k + 1)) = omega arith in
      let b : 3 * k + 3 ≡ 3 * (k + 1) = omega arith in
      rw (a, drop-drop, b)

  pub entries-end : (e : List ℕ) (n k : ℕ) → n ≤ k → entries_text l r (n - k) (drop (3 * k) e) ≡ []
  unfolding entries_text
  entries-end e n k h = let a : n - k ≡ 0 = omega arith in rw a

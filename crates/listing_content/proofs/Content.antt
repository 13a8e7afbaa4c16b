-- What a row's line is made of, in the words that the code reads.
use mathlib.Core.Path.{◌≡◌, sym}
use mathlib.Core.List.{List, [], ◌++◌}
use native.Mathlib.Numerals.{add-one}
use native.Mathlib.Omega.{arith}
use lib.ListN.{drop, get_or, length, take}
use lib.Seq.{drop-drop, get_or-drop}
use Prim.Native.Nat.{ℕ, suc, ◌+◌, ◌*◌, ◌-◌, ◌/◌, ◌≤◌, ◌<◌}
use borrow.Author.Tests.{eq-eqb, ne_eqb}
use Rattle.table_row.specs.Table.{Row, row_at, rows, depth, kind, name, content}
use Rattle.listing.specs.Bytes.{text}
use Rattle.listing.specs.Writing.{name_text, dir_line, file_line}
use Rattle.table_row.proofs.Table.{drop-take, rows-cons, rows-nil}
use Rattle.listing_content.specs.Rows.{content_text, line_of, dots, opened, lines_from}

-- a row's size
pub size-words : (r : Row) → 4294967296 * get_or r 10 0 + get_or r 11 0 ≡ 4294967296 * get_or (content r) 1 0 + get_or (content r) 2 0
size-words r = sym (rw (get_or-drop 10 r 0 0, get_or-drop 10 r 1 0))

-- a row's digest, as the part that code lends
pub digest-part : (w : List ℕ) (i : ℕ) → take (20 * i + 12 + 8 - (20 * i + 12)) (drop (20 * i + 12) w) ≡ drop 3 (content (row_at w i))
digest-part w i =
    let e : 20 * i + 12 + 8 - (20 * i + 12) ≡ 8 = omega arith in
    rw (e, drop-drop 2 10 (row_at w i), drop-take 12 8 (drop (20 * i) w), drop-drop 12 (20 * i) w)

module _ (r : Row) where
  pub line-dir : kind r ≡ 0 → line_of r ≡ name_text (name r) ++ text " type=dir\n"
  unfolding line_of dir_line
  line-dir e = rw (eq-eqb _ _ e)

  pub line-leaf : (kind r ≡ 0 → ⊥) → line_of r ≡ name_text (name r) ++ content_text (content r)
  unfolding line_of file_line content_text
  line-leaf n = rw (ne_eqb _ _ n)

  pub open-dir : kind r ≡ 0 → opened r ≡ depth r + 1
  unfolding opened
  open-dir e = rw (eq-eqb _ _ e)

  pub open-leaf : (kind r ≡ 0 → ⊥) → opened r ≡ depth r
  unfolding opened
  open-leaf n = rw (ne_eqb _ _ n)

-- the lines from row i on
module _ (w : List ℕ) (n i : ℕ) where
  pub lines_next : i < length w / 20
      → lines_from n (drop i (rows w)) ≡ dots (n - depth (row_at w i)) ++ (line_of (row_at w i) ++ lines_from (opened (row_at w i)) (drop (i + 1) (rows w)))
  unfolding lines_from
  lines_next h = rw (rows-cons w i h, add-one)

  pub lines_end : length w / 20 ≤ i → lines_from n (drop i (rows w)) ≡ dots (n - 0)
  unfolding lines_from
  lines_end h = let e : n - 0 ≡ n = omega arith in rw (rows-nil w i h, e)

-- folder after folder
module _ (n k : ℕ) where
  pub dots-next : k < n → dots (n - k) ≡ text "..\n" ++ dots (n - (k + 1))
  unfolding dots
  dots-next h = let e : n - k ≡ suc (n - (k + 1)) = omega arith in rw e

  pub dots-end : n ≤ k → dots (n - k) ≡ []
  unfolding dots
  dots-end h = let e : n - k ≡ 0 = omega arith in rw e

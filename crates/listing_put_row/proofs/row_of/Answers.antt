-- `row_of` meets its contract: depth and kind, the name, size and digest.
use mathlib.Core.Path.{◌≡◌, ◌∙◌}
use mathlib.Core.List.{List, ◌∷◌, ◌++◌, append-nil}
use lib.ListN.{length, take, drop, get_or, replicate, length-append, length-take, length-drop, drop_of_length-le}
use lib.Seq.{take_all, take_at}
use Prim.Native.Nat.{ℕ}
use Rattle.table_row.specs.Buffer.{written}
use native.Mathlib.Omega.{arith}
use borrow.Author.Rules.{rules}
use Rattle.listing_put_row.proofs.row_of.Goals as goal

row_words : (d k : ℕ) (n c : List ℕ) → length n ≡ 8 → length c ≡ 10 → written (written (d ∷ k ∷ replicate 18 0) 2 n) 10 c ≡ d ∷ k ∷ (n ++ c)
unfolding written
row_words d k n c a b =
    let z : List ℕ = replicate 10 0 in
    let e : length (n ++ z) ≡ 18 = omega (arith, length-append n z) in
    rw (a, b, take_at n z 8 a, drop_of_length-le (n ++ z) {i = 18} (omega arith), append-nil c)

pub returns : goal.returns
returns c =
    let a = c.args in
    let l : length a.c ≡ 11 = search rules in
    let e : length (take 10 (drop 1 a.c)) ≡ 10 = omega (arith, length-take 10 (drop 1 a.c), length-drop 1 a.c) in
    let r : take 10 (drop 1 a.c) ≡ drop 1 a.c = take_all 10 (drop 1 a.c) (omega (arith, length-drop 1 a.c)) in
    c.copy_words-2.ensures.1
    ∙ rw c.copy_words.ensures.1
    (row_words a.depth (get_or a.c 0 0) a.n (take 10 (drop 1 a.c)) (search rules) e ∙ rw r)

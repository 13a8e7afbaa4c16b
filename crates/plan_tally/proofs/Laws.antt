-- The count of a list's words is that of its lines, whatever follows them; and the step of a loop that counts.
use mathlib.Core.Path.{◌≡◌, refl, ap, ◌∙◌, sym}
use mathlib.Core.List.{List, [], ◌∷◌, ◌++◌}
use mathlib.Core.Bool.{cond}
use native.Mathlib.Omega.{arith}
use native.Mathlib.Nat.{zero-add, add-zero}
use lib.Dec.{eqb}
use lib.ListN.{length, drop, take, get_or, length-drop, get_or-append, take-append-drop}
use lib.Seq.{get_or-drop, drop-drop, drop-append-le, length-take-le}
use Prim.Native.Nat.{ℕ, zero, suc, ◌+◌, ◌*◌, ◌-◌, ◌/◌, ◌≤◌, ◌<◌}
use borrow.Author.Tests.{eq-eqb, ne_eqb}
use Rattle.tree.specs.Forest.{Forest}
use Rattle.settle.specs.Decision.{Decision.agreed, Decision.left_gets, Decision.right_gets, Decision.clash}
use Rattle.settle.specs.Results.{Line.line, Lines}
use Rattle.table_row.specs.Buffer.{over}
use Rattle.plan.specs.Items.{kind, words_of, list_words}
use Rattle.plan_tally.specs.Count.{tally_of, counted, counted_all}

-- what is still to be counted from entry i on
abbrev pub rest : ℕ → ℕ → List ℕ → ℕ → ℕ
rest k n w i = counted k (n - i) (drop (3 * i) w)

pub rest_end : (k n : ℕ) (w : List ℕ) (i : ℕ) → n ≤ i → rest k n w i ≡ 0
unfolding counted
rest_end k n w i h = let e : n - i ≡ 0 = omega arith in rw e

pub rest-next : (k n : ℕ) (w : List ℕ) (i : ℕ) → i < n → rest k n w i ≡ cond (eqb (get_or w (3 * i) 0) k) 1 0 + rest k n w (i + 1)
unfolding counted
rest-next k n w i h =
    let e : n - i ≡ suc (n - (i + 1)) = omega arith in
    let m : 3 * i + 3 ≡ 3 * (i + 1) = omega arith in
    rw (e, get_or-drop (3 * i) w 0 0, add-zero, drop-drop, m)

pub rest-hit : (k n : ℕ) (w : List ℕ) (i : ℕ) → i < n → get_or w (3 * i) 0 ≡ k → rest k n w i ≡ 1 + rest k n w (i + 1)
rest-hit k n w i h e = rest-next k n w i h ∙ simp (eq-eqb _ _ e)

pub rest-miss : (k n : ℕ) (w : List ℕ) (i : ℕ) → i < n → (get_or w (3 * i) 0 ≡ k → ⊥) → rest k n w i ≡ rest k n w (i + 1)
rest-miss k n w i h e = rest-next k n w i h ∙ simp (ne_eqb _ _ e, zero-add)

one-add : (n : ℕ) → 1 + n ≡ suc n
one-add n = omega arith

-- n entries at the start of a longer list
counted-prefix : (k n : ℕ) (w x : List ℕ) → 3 * n ≤ length w → counted k n (w ++ x) ≡ counted k n w
unfolding counted
counted-prefix k zero w x h = refl
counted-prefix k (suc n) w x h =
    let a : 3 ≤ length w = omega arith in
    let b : 3 * n ≤ length (drop 3 w) = rw length-drop (omega arith) in
    rw (get_or-append w x 0 0 (omega arith), drop-append-le, counted-prefix k n (drop 3 w) x b)

counted-front : (k n : ℕ) (w : List ℕ) → 3 * n ≤ length w → counted k n (take (3 * n) w) ≡ counted k n w
counted-front k n w h =
    sym (counted-prefix k n (take (3 * n) w) (drop (3 * n) w) (omega (arith, length-take-le (3 * n) w h)))
    ∙ ap (counted k n) (take-append-drop (3 * n) w)

-- the tally of a buffer's first n entries is that of their words alone
pub counts-front : (n : ℕ) (w : List ℕ) → 3 * n ≤ length w → counted_all (length (take (3 * n) w) / 3) (take (3 * n) w) ≡ counted_all n w
counts-front n w h =
    let e : length (take (3 * n) w) / 3 ≡ n = omega (arith, length-take-le (3 * n) w h) in
    rw (e, counted-front 1 n w h, counted-front 2 n w h, counted-front 3 n w h) refl

-- the words of some lines, and more words behind them
counts-lines : (l r : Forest) (xs : Lines) (w : List ℕ) → counted_all (length xs) (list_words l r xs ++ w) ≡ tally_of xs
unfolding counted tally_of words_of kind
counts-lines l r [] w = refl
counts-lines l r (line p agreed ∷ xs) w = rw (zero-add, zero-add, zero-add) (counts-lines l r xs w)
counts-lines l r (line p left_gets ∷ xs) w = rw (one-add, zero-add, zero-add, sym (counts-lines l r xs w)) refl
counts-lines l r (line p right_gets ∷ xs) w = rw (one-add, zero-add, zero-add, sym (counts-lines l r xs w)) refl
counts-lines l r (line p clash ∷ xs) w = rw (one-add, zero-add, zero-add, sym (counts-lines l r xs w)) refl

pub counts-list : (d : List ℕ) (l r : Forest) (xs : Lines) → counted_all (length xs) (over d (list_words l r xs)) ≡ tally_of xs
unfolding over
counts-list d l r xs = counts-lines l r xs (drop (length (list_words l r xs)) d)

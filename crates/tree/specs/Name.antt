-- Names and their order. A name is eight words, four bytes to a word, first byte highest, zero filled, so that comparing
-- words compares bytes as unsigned.
use Rattle.std.specs.Prelude.{List, [], ◌∷◌}
use Prim.Native.Nat.{ℕ, compare, Ordering}

abbrev pub Name : Type 0
Name = List ℕ

-- the second where the order says the same, else the third
abbrev pub if_same {ℓ} : {A : Type ℓ} → Ordering → A → A → A
if_same Ordering.lt x y = y
if_same Ordering.eq x y = x
if_same Ordering.gt x y = y

-- one of three: where less, where the same, where greater
abbrev pub by_order {ℓ} : {A : Type ℓ} → Ordering → A → A → A → A
by_order Ordering.lt x y z = x
by_order Ordering.eq x y z = y
by_order Ordering.gt x y z = z

-- the first words that differ decide
unfoldable pub cmp : Name → Name → Ordering
cmp [] [] = Ordering.eq
cmp [] (y ∷ ys) = Ordering.lt
cmp (x ∷ xs) [] = Ordering.gt
cmp (x ∷ xs) (y ∷ ys) = by_order (compare x y) Ordering.lt (cmp xs ys) Ordering.gt

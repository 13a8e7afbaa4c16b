-- What a table needs of its tree beside the order: the rules for names and contents, and the greatest depth.
use Rattle.std.specs.Prelude.{◌≡◌, List, [], ◌∷◌, Bool, true, false, cond, eqb, length, get_or, ℕ, zero, suc, ◌/◌, ◌%◌, ◌<◌}
use Rattle.tree.specs.Name.{Name}
use Rattle.tree.specs.Forest.{Content, TreePath, Forest, Forest.end, Forest.leaf, Forest.dir, Sorted}

-- every word is one of 32 bits
unfoldable pub Words32 : List ℕ → Type 0
Words32 [] = Unit {0}
Words32 (x ∷ xs) = (x < 4294967296) × Words32 xs

-- the bytes of words, first byte highest
unfoldable pub bytes : List ℕ → List ℕ
bytes [] = []
bytes (x ∷ xs) = x / 16777216 ∷ x / 65536 % 256 ∷ x / 256 % 256 ∷ x % 256 ∷ bytes xs

unfoldable pub zeros : List ℕ → Bool
zeros [] = true
zeros (x ∷ xs) = cond (eqb x 0) (zeros xs) false

-- no byte 47, and no zero byte before one that is not zero
unfoldable pub zero_filled : List ℕ → Bool
zero_filled [] = true
zero_filled (b ∷ bs) = cond (eqb b 0) (zeros bs) (cond (eqb b 47) false (zero_filled bs))

-- neither empty nor "." nor "..": the first word tells, since after a zero byte there are only zeros
unfoldable pub good_name : Name → Bool
good_name n =
    cond (eqb (get_or n 0 0) 0) false
    (cond (eqb (get_or n 0 0) 0x2E000000) false (cond (eqb (get_or n 0 0) 0x2E2E0000) false (zero_filled (bytes n))))

pub record NameRule (n : Name) : Type 0 where
  pub eight : length n ≡ 8
  pub small : Words32 n
  pub good : good_name n ≡ true

-- a file's kind is 1; size and digest are free
pub record ContentRule (c : Content) : Type 0 where
  pub eleven : length c ≡ 11
  pub small : Words32 c
  pub kind : get_or c 0 0 ≡ 1

-- at most d levels; P of every name, Q of every content
unfoldable pub Within : (Name → Type 0) → (Content → Type 0) → ℕ → Forest → Type 0
Within P Q d end = Unit {0}
Within P Q zero (leaf n c s) = ⊥
Within P Q (suc d) (leaf n c s) = P n × Q c × Within P Q (suc d) s
Within P Q zero (dir n k s) = ⊥
Within P Q (suc d) (dir n k s) = P n × Within P Q d k × Within P Q (suc d) s

-- P of every name of a path
unfoldable pub AllNames : (Name → Type 0) → TreePath → Type 0
AllNames P [] = Unit {0}
AllNames P (n ∷ p) = P n × AllNames P p

pub record WellFormed (f : Forest) : Type 0 where
  pub sorted : Sorted f
  pub within : Within NameRule ContentRule 16 f

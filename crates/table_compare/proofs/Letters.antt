-- Words where letter case is ignored, and keys, place by place.
use mathlib.Core.Path.{◌≡◌, refl}
use mathlib.Core.List.{List, map}
use lib.ListN.{length, get_or, length-map, get_or-map}
use Prim.Native.Nat.{ℕ}
use Rattle.tree.specs.declared.Profile.{Profile}
use Rattle.tree.specs.declared.Profile.TheVariants.{Exact, Folded}
use Rattle.tree.specs.Key.{lower, lower_word, key}
use Rattle.table_row.specs.Keyed.{key_word}

module _ (l : List ℕ) where
  pub length-lower : length (map lower_word l) ≡ length l
  length-lower = length-map l lower_word

  pub get_or-lower : (k : ℕ) → get_or (map lower_word l) k 0 ≡ lower_word (get_or l k 0)
  unfolding lower lower_word
  get_or-lower k = get_or-map lower_word l k 0

  pub get_or-key : (p : Profile) (k : ℕ) → get_or (key p l) k 0 ≡ key_word p (get_or l k 0)
  unfolding key
  get_or-key Exact k = refl
  get_or-key Folded k = get_or-lower k

-- The folder in which a row stands, one row back at a time; the path of a row is that folder's and the row's name.
use mathlib.Core.Path.{◌≡◌, refl, sym, ap, ◌∙◌}
use mathlib.Core.List.{List, [], ◌∷◌, ◌++◌}
use mathlib.Core.Bool.{Bool, true, false, cond}
use native.Mathlib.Omega.{arith}
use lib.Dec.{ltb}
use Prim.Native.Nat.{ℕ, zero, suc, ◌-◌, ◌≤◌, ◌<◌}
use borrow.Author.Tests.{lt-ltb, le-ltb}
use Rattle.table_row.specs.Table.{row_at, depth, name}
use Rattle.table_route.specs.Route.{last_above, folder_of, names_back, path_of}

module _ (w : List ℕ) (d : ℕ) where
  pub above-here : (i : ℕ) → depth (row_at w i) < d → last_above w d (suc i) ≡ i
  unfolding last_above
  above-here i h = rw (lt-ltb _ _ h)

  pub above-back : (i : ℕ) → d ≤ depth (row_at w i) → last_above w d (suc i) ≡ last_above w d i
  unfolding last_above
  above-back i h = rw (le-ltb _ _ h)

  -- the same, as code counts rows
  pub above-none : (j : ℕ) → j ≡ 0 → last_above w d j ≡ 0
  unfolding last_above
  above-none j e = rw e

  pub above_at : (j : ℕ) → 0 < j → depth (row_at w (j - 1)) < d → last_above w d j ≡ j - 1
  above_at j h g = let e : j ≡ suc (j - 1) = omega arith in ap (last_above w d) e ∙ above-here (j - 1) g

  pub above-past : (j : ℕ) → 0 < j → d ≤ depth (row_at w (j - 1)) → last_above w d (j - 1) ≡ last_above w d j
  above-past j h g = let e : j ≡ suc (j - 1) = omega arith in sym (ap (last_above w d) e ∙ above-back (j - 1) g)

  pub above-less : (i : ℕ) → last_above w d (suc i) < suc i
  unfolding last_above
  above-less zero = go (ltb (depth (row_at w 0)) d)
    where
      go : (b : Bool) → cond b 0 0 < 1
      go true = omega arith
      go false = omega arith
  above-less (suc i) = go (ltb (depth (row_at w (suc i))) d) (above-less i)
    where
      go : (b : Bool) → last_above w d (suc i) < suc i → cond b (suc i) (last_above w d (suc i)) < suc (suc i)
      go true h = omega arith
      go false h = omega arith

pub path-root : (w : List ℕ) → path_of w 0 ≡ []
unfolding path_of names_back
path-root w = refl

path-first : (w : List ℕ) (i : ℕ) → path_of w (suc i) ≡ names_back w (depth (row_at w (suc i))) i ++ (name (row_at w (suc i)) ∷ [])
unfolding path_of names_back
path-first w i = rw (lt-ltb (depth (row_at w (suc i))) (suc (depth (row_at w (suc i)))) (omega arith))

back_above : (w : List ℕ) (d i : ℕ) → names_back w d i ≡ path_of w (last_above w d (suc i))
unfolding names_back last_above
back_above w d zero = go (ltb (depth (row_at w 0)) d)
  where
    go : (b : Bool) → [] ≡ path_of w (cond b 0 0)
    go true = sym (path-root w)
    go false = sym (path-root w)
back_above w d (suc i) = go (ltb (depth (row_at w (suc i))) d) (back_above w d i)
  where
    go : (b : Bool) → names_back w d i ≡ path_of w (last_above w d (suc i))
        → cond b (names_back w (depth (row_at w (suc i))) i ++ (name (row_at w (suc i)) ∷ [])) (names_back w d i) ≡ path_of w (cond b (suc i) (last_above w d (suc i)))
    go true e = sym (path-first w i)
    go false e = e

-- the path of a row that is not the root
pub path-next : (w : List ℕ) (i : ℕ) → path_of w (suc i) ≡ path_of w (folder_of w (suc i)) ++ (name (row_at w (suc i)) ∷ [])
path-next w i = path-first w i ∙ ap (λ p. p ++ (name (row_at w (suc i)) ∷ [])) (back_above w (depth (row_at w (suc i))) i)

-- the same of a row that is not row 0, whose folder stands before it
module _ (w : List ℕ) where
  pub folder-before : (i : ℕ) → (i ≡ 0 → ⊥) → folder_of w i < i
  folder-before zero h = absurd (h refl)
  folder-before (suc i) h = above-less w (depth (row_at w (suc i))) i

  pub path-on : (i : ℕ) → (i ≡ 0 → ⊥) → path_of w i ≡ path_of w (folder_of w i) ++ (name (row_at w i) ∷ [])
  path-on zero h = absurd (h refl)
  path-on (suc i) h = path-next w i

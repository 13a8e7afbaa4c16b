-- The text of a path: name by name as it is put, and as document 01 words it.
use mathlib.Core.Path.{◌≡◌, ap}
use mathlib.Core.List.{List, [], ◌∷◌, ◌++◌, append_assoc, append-nil}
use Prim.Native.Nat.{ℕ}
use Rattle.tree.specs.Name.{Name}
use Rattle.tree.specs.Forest.{TreePath}
use Rattle.table_row.specs.Table.{row_at, name}
use Rattle.listing.specs.Bytes.{text}
use Rattle.listing.specs.Writing.{name_text}
use Rattle.table_route.specs.Route.{folder_of, path_of}
use Rattle.table_route.proofs.Above.{path-root, path-on}
use Rattle.plan_text.specs.Text.{names_text, path_text}

-- texts with a slash between each two
unfoldable pub parted : List ℕ → TreePath → List ℕ
parted s [] = s
parted s (n ∷ p) = s ++ (text "/" ++ parted (name_text n) p)

-- below the root a path's text is ./ and the names parted by /
pub path-parted : (n : Name) (p : TreePath) → path_text (n ∷ p) ≡ text "./" ++ parted (name_text n) p
unfolding path_text names_text parted
path-parted n p = ap (λ (s : List ℕ). text "./" ++ s) (go n p)
  where
    go : (n : Name) (p : TreePath) → name_text n ++ names_text p ≡ parted (name_text n) p
    go n [] = append-nil (name_text n)
    go n (m ∷ p) = ap (λ (s : List ℕ). name_text n ++ (text "/" ++ s)) (go m p)

names-last : (p : TreePath) (n : Name) → names_text (p ++ (n ∷ [])) ≡ names_text p ++ (text "/" ++ name_text n)
unfolding names_text
names-last [] n = rw append-nil
names-last (m ∷ p) n = rw (names-last p n, append_assoc (name_text m) (names_text p) (text "/" ++ name_text n))

pub root-text : (w : List ℕ) (i : ℕ) → i ≡ 0 → path_text (path_of w i) ≡ text "."
unfolding path_text names_text
root-text w i e = rw (e, path-root w)

pub row-text : (w : List ℕ) (i : ℕ) → (i ≡ 0 → ⊥) → path_text (path_of w i) ≡ path_text (path_of w (folder_of w i)) ++ (text "/" ++ name_text (name (row_at w i)))
unfolding path_text
row-text w i h = rw (path-on w i h, names-last (path_of w (folder_of w i)) (name (row_at w i)))

-- Where two trees differ first: their entries in preorder, and how many of these at the front are the same.
use Rattle.std.specs.Prelude.{◌≡◌, List, [], ◌∷◌, ◌++◌, Bool, false, cond, ◌&&◌, eqb, take, ℕ, suc, Option, Some, None}
use Rattle.tree.specs.Name.{Name}
use Rattle.tree.specs.Forest.{Content, Forest, Forest.end, Forest.leaf, Forest.dir, Node, Node.absent, Node.file, Node.folder}
use Rattle.tree.specs.Same.{same_words}
use Rattle.tree.specs.Key.{key}
use Rattle.tree.specs.declared.Profile.{Profile}

-- an entry with its depth, its name and, of a file, its content
pub data Entry : Type 0 where
  file_at : ℕ → Name → Content → Entry
  folder_at : ℕ → Name → Entry

unfoldable pub same_entry : Entry → Entry → Bool
same_entry (file_at d n c) (file_at e m b) = eqb d e && (same_words n m && same_words c b)
same_entry (file_at d n c) (folder_at e m) = false
same_entry (folder_at d n) (file_at e m b) = false
same_entry (folder_at d n) (folder_at e m) = eqb d e && same_words n m

-- the entries of siblings that stand at depth d
unfoldable pub entries : ℕ → Forest → List Entry
entries d end = []
entries d (leaf n c s) = file_at d n c ∷ entries d s
entries d (dir n k s) = folder_at d n ∷ (entries (suc d) k ++ entries d s)

-- a node's own entry, at depth 0 and without its name, and those beneath it
unfoldable pub preorder : Node → List Entry
preorder absent = []
preorder (file c) = file_at 0 [] c ∷ []
preorder (folder k) = folder_at 0 [] ∷ entries 1 k

abbrev pub next : Option ℕ → Option ℕ
next None = None
next (Some k) = Some (suc k)

-- two lists compared by a test: equal, or the first place where they differ; one that is shorter differs where it ends
unfoldable pub compare_by : {A : Type 0} → (A → A → Bool) → List A → List A → Option ℕ
compare_by f [] [] = None
compare_by f [] (y ∷ ys) = Some 0
compare_by f (x ∷ xs) [] = Some 0
compare_by f (x ∷ xs) (y ∷ ys) = cond (f x y) (next (compare_by f xs ys)) (Some 0)

unfoldable pub compared : Node → Node → Option ℕ
compared x y = compare_by same_entry (preorder x) (preorder y)

-- what stands before the place k is the same in both, and what stands there is not
pub record DifferFirst (xs ys : List Entry) (k : ℕ) : Type 0 where
  pub before : take k xs ≡ take k ys
  pub there : ¬ (take (suc k) xs ≡ take (suc k) ys)

-- what an answer says of two trees
abbrev pub Says : Node → Node → Option ℕ → Type 0
Says x y None = x ≡ y
Says x y (Some k) = DifferFirst (preorder x) (preorder y) k

-- an entry with its name's key
abbrev pub keyed_entry : Profile → Entry → Entry
keyed_entry p (file_at d n c) = file_at d (key p n) c
keyed_entry p (folder_at d n) = folder_at d (key p n)

-- the test by key
abbrev pub same_by_key : Profile → Entry → Entry → Bool
same_by_key p x y = same_entry (keyed_entry p x) (keyed_entry p y)

-- A plan has at most as many items as the three trees have entries, so 12,285 at most, four words each; and a result has
-- at most as many entries.
use mathlib.Core.Path.{◌≡◌, refl, sym}
use mathlib.Core.List.{[], ◌∷◌, ◌++◌}
use mathlib.Core.Bool.{Bool, true, false, cond}
use mathlib.Core.Logic.{◌⊎◌, inl, inr}
use native.Mathlib.Omega.{arith}
use lib.ListN.{length, length-append, length-map}
use Prim.Native.Nat.{ℕ, zero, suc, ◌+◌, ◌*◌, ◌≤◌, ◌<◌}
use Rattle.tree.specs.Name.{Name}
use Rattle.tree.specs.Forest.{TreePath, Forest, Node, Node.absent, Node.file, Node.folder, kids, size, Sorted}
use Rattle.settle.specs.Decision.{Decision, Decision.agreed, Decision.left_gets, Decision.right_gets, Decision.clash, decide}
use Rattle.settle.specs.Plan.{Plan, Plan.done, Plan.item, Plan.both, add_item, plan, settle}
use Rattle.settle.specs.Results.{Line.line, Lines, line_of, list, new, outcome}
use Rattle.tree.proofs.Never.{never}
use Rattle.tree.proofs.Size.{size-add, row_count}
use Rattle.tree.proofs.Same.{both_true}
use Rattle.settle.proofs.Merge.{first, skip, sorted-skip, plan-step, plan-end}
use Rattle.plan.specs.Items.{items, words_of, item_words, plan_words}
use Rattle.plan.proofs.Least.{Key, Key.named, Key.last, key, LeastOf, least_key, least-of, least-key}
use Rattle.plan.proofs.OneTable.{is_fold}
use Rattle.plan.proofs.Keys.{key-last, up-last, key-first, size_none, sorted-inside, key_has, size-skip, some-rows, settle-pair, settle-alone}

-- the entries called n take a row
rows-there : (n : Name) (o l r : Forest) → (named n ≡ key o) ⊎ ((named n ≡ key l) ⊎ (named n ≡ key r))
    → 0 < row_count (first n o) + row_count (first n l) + row_count (first n r)
rows-there n o l r (inl q) = let a = some-rows (first n o) (key-first n o (sym q)) in omega arith
rows-there n o l r (inr (inl q)) = let a = some-rows (first n l) (key-first n l (sym q)) in omega arith
rows-there n o l r (inr (inr q)) = let a = some-rows (first n r) (key-first n r (sym q)) in omega arith

kids-rows : (x : Node) → size (kids x) ≤ row_count x
unfolding size
kids-rows absent = omega arith
kids-rows (file c) = omega arith
kids-rows (folder k) = omega arith

folder-rows : (x : Node) → is_fold x ≡ true → suc (size (kids x)) ≡ row_count x
folder-rows absent h = never (cc)
folder-rows (file c) h = never (cc)
folder-rows (folder k) h = refl

-- what is counted of a plan: an item counts at most the rows of its three nodes, a folder on both sides one besides its entries
pub record Counts (count : Plan → ℕ) : Type 0 where
  pub none : count done ≡ 0
  pub items : (n : Name) (o l r : Node) (s : Plan) → 0 < row_count o + row_count l + row_count r → count (item n o l r s) ≤ row_count o + row_count l + row_count r + count s
  pub folders : (n : Name) (k s : Plan) → count (both n k s) ≤ suc (count k) + count s

module _ (count : Plan → ℕ) (C : Counts count) where
  abbrev Bounded : ℕ → Type 0
  Bounded m = (o l r : Forest) → Sorted o → Sorted l → Sorted r → size o + size l + size r ≤ m → count (plan o l r) ≤ size o + size l + size r

  -- one entry of three, before the plan s
  entry-bound : (m : ℕ) → Bounded m → (n : Name) (o l r : Forest) (s : Plan) → Sorted o → Sorted l → Sorted r → size o + size l + size r ≤ suc m
      → 0 < row_count (first n o) + row_count (first n l) + row_count (first n r)
      → count (add_item n (settle (first n o) (first n l) (first n r)) s) ≤ row_count (first n o) + row_count (first n l) + row_count (first n r) + count s
  entry-bound m B n o l r s so sl sr h some = go (cond (is_fold b) (is_fold c) false) refl
    where
      a : Node
      a = first n o

      b : Node
      b = first n l

      c : Node
      c = first n r

      go : (w : Bool) → cond (is_fold b) (is_fold c) false ≡ w → count (add_item n (settle a b c) s) ≤ row_count a + row_count b + row_count c + count s
      go true q =
          let e = both_true (is_fold b) (is_fold c) q in
          let u = folder-rows b e.0 in let v = folder-rows c e.1 in let t = kids-rows a in
          let x = size-skip n o in let y = size-skip n l in let z = size-skip n r in
          rw (settle-pair a b c q)
          (let k = B (kids a) (kids b) (kids c) (sorted-inside n o so) (sorted-inside n l sl) (sorted-inside n r sr) (omega arith) in
          let f = C.folders n (plan (kids a) (kids b) (kids c)) s in omega arith)
      go false q = rw (settle-alone a b c q) (C.items n a b c s some)

  pub count-bound : (m : ℕ) → Bounded m
  count-bound zero o l r so sl sr h =
      rw (size_none o (omega arith), size_none l (omega arith), size_none r (omega arith), plan-end) (let z = C.none in omega arith)
  count-bound (suc m) o l r so sl sr h = go (least_key (key o) (key l) (key r)) (least-of (key o) (key l) (key r)) (count-bound m)
    where
      go : (x : Key) → LeastOf (key o) (key l) (key r) x → Bounded m → count (plan o l r) ≤ size o + size l + size r
      go last L B =
          rw (key-last o (up-last (key o) L.first), key-last l (up-last (key l) L.second), key-last r (up-last (key r) L.third), plan-end)
          (let z = C.none in omega arith)
      go (named n) L B =
          let some = rows-there n o l r L.one in
          let x = size-skip n o in let y = size-skip n l in let z = size-skip n r in
          let u = entry-bound m B n o l r (plan (skip n o) (skip n l) (skip n r)) so sl sr h some in
          let v = B (skip n o) (skip n l) (skip n r) (sorted-skip n o so) (sorted-skip n l sl) (sorted-skip n r sr) (omega arith) in
          rw (plan-step n o l r so sl sr (least-key n o L.first) (least-key n l L.second) (least-key n r L.third) (key_has n o l r so sl sr L))
          (omega arith)

-- the items
item-counts : Counts (λ p. length (items p))
unfolding items
item-counts = record {
  none = refl;
  items = λ n o l r s h. omega arith;
  folders = λ n k s. simp (length-append, length-map) (omega arith);
}

pub items-bound : (o l r : Forest) → Sorted o → Sorted l → Sorted r → length (items (plan o l r)) ≤ size o + size l + size r
items-bound o l r so sl sr = count-bound (λ p. length (items p)) item-counts (size o + size l + size r) o l r so sl sr (omega arith)

-- a run lists at most as many lines as the three trees have entries
list-items : (P : Plan) → length (list P) ≤ length (items P)
unfolding list items
list-items done = omega arith
list-items (item n o l r s) = go (decide o l r) (list-items s)
  where
    go : (d : Decision) → length (list s) ≤ length (items s) → length (line_of (n ∷ []) d ++ list s) ≤ suc (length (items s))
    go agreed h = omega arith
    go left_gets h = omega arith
    go right_gets h = omega arith
    go clash h = omega arith
list-items (both n k s) = simp (length-append, length-map) (omega (arith, list-items k, list-items s))

pub lines-bound : (o l r : Forest) → Sorted o → Sorted l → Sorted r → length (outcome o l r).lines ≤ size o + size l + size r
lines-bound o l r so sl sr =
    omega (arith, list-items (plan o l r), items-bound o l r so sl sr)

-- the rows of a result that takes, at every item, what one of the three has there
pub record Takes (pk : Decision → Node → Node → Node → Node) : Type 0 where
  pub rows : (d : Decision) (o l r : Node) → row_count (pk d o l r) ≤ row_count o + row_count l + row_count r

result-counts : (pk : Decision → Node → Node → Node → Node) → Takes pk → Counts (λ p. size (new (λ (q : TreePath). pk) p))
unfolding new size
result-counts pk T = record {
  none = refl;
  items = λ n o l r s h. omega (arith, size-add n (pk (decide o l r) o l r) (new (λ (q : TreePath). pk) s), T.rows (decide o l r) o l r);
  folders = λ n k s. omega arith;
}

pub result-bound : (pk : Decision → Node → Node → Node → Node) → Takes pk → (o l r : Forest) → Sorted o → Sorted l → Sorted r
    → size (new (λ (q : TreePath). pk) (plan o l r)) ≤ size o + size l + size r
result-bound pk T o l r so sl sr =
    count-bound (λ p. size (new (λ (q : TreePath). pk) p)) (result-counts pk T) (size o + size l + size r) o l r so sl sr (omega arith)

words-length : (o l r : Forest) (xs : Lines) → length (words_of (item_words o l r) xs) ≡ 4 * length xs
unfolding words_of
words-length o l r [] = refl
words-length o l r (line p d ∷ xs) = let e = words-length o l r xs in omega arith

-- the words of a plan
pub plan-length : (o l r : Forest) → length (plan_words o l r) ≡ 4 * length (items (plan o l r))
unfolding plan_words
plan-length o l r = words-length o l r (items (plan o l r))

pub plan-bound : (o l r : Forest) → Sorted o → Sorted l → Sorted r → length (plan_words o l r) ≤ 4 * (size o + size l + size r)
plan-bound o l r so sl sr =
    let a = plan-length o l r in
    let b = items-bound o l r so sl sr in omega arith

-- How long a list's text can be: the bytes of a line, and the lines of a run.
use mathlib.Core.Path.{◌≡◌, refl}
use mathlib.Core.List.{List, [], ◌∷◌, ◌++◌, map}
use mathlib.Core.Bool.{Bool, true, false, cond}
use mathlib.Core.Logic.{◌⊎◌, inl, inr}
use native.Mathlib.Omega.{arith}
use lib.Dec.{eqb}
use lib.ListN.{length, length-append}
use Prim.Native.Nat.{ℕ, zero, suc, ◌+◌, ◌*◌, ◌/◌, ◌%◌, ◌≤◌}
use Rattle.tree.specs.Name.{Name}
use Rattle.tree.specs.Forest.{TreePath, Forest, Forest.end, Forest.leaf, Forest.dir, Node, Node.absent, Node.file, Node.folder, Present, at, size}
use Rattle.tree.specs.Rules.{NameRule, ContentRule, Within, bytes}
use Rattle.tree.specs.declared.Profile.{Profile}
use Rattle.tree.specs.Key.{fold, FormedIn, entry, spelling}
use Rattle.tree.proofs.Rules.{length-bytes, WithinNode}
use Rattle.tree.proofs.Folds.{within-entry, reach, reach-absent, size-fold}
use Rattle.settle.specs.Results.{Line.line, Lines}
use Rattle.settle.specs.Spelled.{outcome_in}
use Rattle.table_stands.proofs.Forest.{ruled-within}
use Rattle.table_route.specs.Route.{spelled_in}
use Rattle.table_route.proofs.Path.{present-reach, reach-above, ruled-entry}
use Rattle.plan.specs.Items.{kind}
use Rattle.plan.proofs.Bound.{lines-bound}
use Rattle.plan_tally.specs.declared.Tally.{Tally}
use Rattle.plan_tally.specs.Count.{tally_of}
use Rattle.listing.specs.Bytes.{text}
use Rattle.listing.specs.Writing.{as_it_is, spell_byte, spell, name_text}
use Rattle.listing.proofs.Digits.{decimal-length}
use Rattle.plan_text.specs.Text.{mark, names_text, path_text, marked, line_text, lines_text, counts_text, plan_text}
use Rattle.plan_text.specs.Sides.{Sided}
use Rattle.plan_text.specs.Spelled.{spelled_by, spelled_line, run_text}
use Rattle.plan_text.proofs.Sides.{listed-sided}

spell-length : (bs : List ℕ) → length (spell bs) ≤ 4 * length bs
unfolding spell spell_byte
spell-length [] = omega arith
spell-length (b ∷ bs) = go (eqb b 0) (as_it_is b) (spell-length bs)
  where
    escape : List ℕ
    escape = 92 ∷ (48 + b / 64) ∷ (48 + b / 8 % 8) ∷ (48 + b % 8) ∷ []

    go : (z a : Bool) → length (spell bs) ≤ 4 * length bs → length (cond z [] (cond a (b ∷ []) escape ++ spell bs)) ≤ 4 * suc (length bs)
    go true a h = omega arith
    go false true h = omega arith
    go false false h = omega arith

name-length : (n : Name) → NameRule n → length (name_text n) ≤ 128
name-length n N = omega (arith, spell-length (bytes n), length-bytes n, N.eight)

-- a path of keys to something in a forest of at most k levels, as the forest spells it
names-length : (p : Profile) (q : TreePath) (k : ℕ) (x : Node) → WithinNode NameRule ContentRule k x → Present (reach p x q) → length (names_text (spelled_in p x q)) ≤ 129 * k
unfolding names_text reach spelled_in entry Within
names-length p [] k x w h = omega arith
names-length p (n ∷ q) k absent w h = absurd (rw (reach-absent p q) at h)
names-length p (n ∷ q) k (file c) w h = absurd (rw (reach-absent p q) at h)
names-length p (n ∷ q) zero (folder end) w h = absurd (rw (reach-absent p q) at h)
names-length p (n ∷ q) zero (folder (leaf m c s)) w h = absurd w
names-length p (n ∷ q) zero (folder (dir m j s)) w h = absurd w
names-length p (n ∷ q) (suc k) (folder f) w h =
    omega (
      arith,
      length-append (name_text (spelling p n f n)) (names_text (spelled_in p (entry p n f) q)),
      name-length (spelling p n f n) (ruled-entry p n f (ruled-within (suc k) f w) (reach-above p q (entry p n f) h)).0,
      names-length p q k (entry p n f) (within-entry p NameRule ContentRule k n f w) h,
    )

mark-length : (k : ℕ) → length (mark k) ≡ 1
unfolding mark
mark-length k = go (eqb k 1) (eqb k 2)
  where
    go : (a b : Bool) → length (cond a (text "<") (cond b (text ">") (text "!"))) ≡ 1
    go true b = refl
    go false true = refl
    go false false = refl

marked-length : (k : ℕ) (s : List ℕ) → length (marked k s) ≡ length s + 3
unfolding marked
marked-length k s = simp (length-append, mark-length) (omega arith)

counts-length : (t : Tally) → length (counts_text t) ≤ 65
unfolding counts_text
counts-length t =
    simp length-append (omega (arith, (decimal-length 20 t.left []).0, (decimal-length 20 t.right []).0, (decimal-length 20 t.clash []).0))

module _ (p : Profile) (l r : Forest) (L : Within NameRule ContentRule 16 l) (R : Within NameRule ContentRule 16 r) where
  spelled-length : (f : Forest) → Within NameRule ContentRule 16 f → (q : TreePath) → Present (at (folder (fold p f)) q) → length (path_text (spelled_in p (folder f) q)) ≤ 2065
  unfolding path_text
  spelled-length f F q h = omega (arith, names-length p q 16 (folder f) F (present-reach p f q h))

  path-length : (q : TreePath) → Present (at (folder (fold p l)) q) ⊎ Present (at (folder (fold p r)) q)
      → length (path_text (spelled_by (at (folder (fold p l)) q) (spelled_in p (folder l) q) (spelled_in p (folder r) q))) ≤ 2065
  path-length q s = go (at (folder (fold p l)) q) refl s
    where
      go : (x : Node) → at (folder (fold p l)) q ≡ x → Present x ⊎ Present (at (folder (fold p r)) q) → length (path_text (spelled_by x (spelled_in p (folder l) q) (spelled_in p (folder r) q))) ≤ 2065
      go absent e (inl h) = absurd h
      go absent e (inr h) = spelled-length r R q h
      go (file c) e s = spelled-length l L q (rw e tt)
      go (folder k) e s = spelled-length l L q (rw e tt)

  lines-length : (xs : Lines) → Sided (fold p l) (fold p r) xs → length (lines_text (map (spelled_line p l r) xs)) ≤ 2068 * length xs
  unfolding lines_text Sided
  lines-length [] s = omega arith
  lines-length (line q d ∷ xs) s =
      omega (
        arith,
        length-append (line_text (spelled_line p l r (line q d))) (lines_text (map (spelled_line p l r) xs)),
        marked-length (kind d) (path_text (spelled_by (at (folder (fold p l)) q) (spelled_in p (folder l) q) (spelled_in p (folder r) q))),
        path-length q s.0,
        lines-length xs s.1,
      )

  -- at most 2,068 bytes a line, and 65 for the counts
  text-length : (xs : Lines) → Sided (fold p l) (fold p r) xs → length (plan_text (map (spelled_line p l r) xs)) ≤ 2068 * length xs + 65
  unfolding plan_text
  text-length xs s =
      let ys = map (spelled_line p l r) xs in
      omega (arith, length-append (lines_text ys) (counts_text (tally_of ys)), lines-length xs s, counts-length (tally_of ys))

-- the text of a run
pub run_length : (p : Profile) (o l r : Forest) → FormedIn p o → FormedIn p l → FormedIn p r → length (run_text p o l r) ≤ 2068 * (size o + size l + size r) + 65
unfolding run_text
run_length p o l r O L R =
    omega (
      arith,
      text-length p l r L.within R.within (outcome_in p o l r).lines (listed-sided (fold p o) (fold p l) (fold p r)),
      lines-bound (fold p o) (fold p l) (fold p r) O.sorted L.sorted R.sorted,
      size-fold p o,
      size-fold p l,
      size-fold p r,
    )

-- For checked tables the words that the code's merge gives are those of the plan of the three trees.
use mathlib.Core.Path.{◌≡◌, refl, ap, ap₂, sym, ◌∙◌}
use mathlib.Core.List.{List, [], ◌∷◌, ◌++◌}
use mathlib.Core.Bool.{Bool, true, false, cond}
use mathlib.Core.Logic.{◌⊎◌, inl, inr, ⊎_map}
use native.Mathlib.Omega.{arith}
use native.Mathlib.Numerals.{add-one}
use lib.ListN.{length}
use Prim.Native.Nat.{ℕ, zero, suc, ◌+◌, ◌≤◌, ◌<◌}
use Rattle.tree.specs.Name.{Name}
use Rattle.tree.specs.Forest.{Forest, Forest.end, kids, size, Sorted}
use Rattle.tree.specs.Same.{same_node}
use Rattle.settle.specs.Decision.{rule, decide}
use Rattle.settle.specs.Plan.{settle}
use Rattle.table_stands.specs.Stands.{Ruled}
use Rattle.plan_cursor.specs.Cursor.{least, decision}
use Rattle.plan_cursor.specs.declared.Rows.{Rows}
use Rattle.plan_cursor.specs.declared.Decision.TheVariants.{Agreed, LeftGets, RightGets, Clash}
use Rattle.tree.proofs.Never.{never}
use Rattle.tree.proofs.Size.{row_count}
use Rattle.settle.proofs.Merge.{first, skip, sorted-skip, plan-end}
use Rattle.table_stands.proofs.Same.{same-subtrees}
use Rattle.plan.specs.Items.{kind, items, or_none, words_of}
use Rattle.plan_cursor.specs.Three.{Three}
use Rattle.plan.specs.Settle.{four, decision_words, ended, past, merge, enough, flatten, firsts, both, entry}
use Rattle.plan.proofs.Runs.{Runs, written, past as past_runs, inside, Ready, entry_words, own_words, written_step, words-single, words-pair}
use Rattle.plan.proofs.Head.{Run, head_row}
use Rattle.plan.proofs.Least.{Key, Key.named, Key.last, key, LeastOf, least_key, least-of, least-key, keep-first, key-at, least-keys}
use Rattle.plan.proofs.Keys.{key-last, key-first, key-eight, up-last, stands-row, run-size, size_none, Levels, levels-skip, levels-inside, levels-none, sorted-inside, ruled-kids, key_has, some-rows, settle-pair, settle-alone}
use Rattle.plan.proofs.Ended.{some-row, least-ended}
use Rattle.plan.proofs.OneTable.{is_fold, Entry, entry as entry_of, no_row}

abbrev pub heads : Runs → Rows
heads z = record { o = head_row z.o z.bo; l = head_row z.l z.bl; r = head_row z.r z.br }

-- the rows of the entries called n
abbrev own : Name → Runs → Rows
own n z = record { o = or_none (first n z.o) z.bo; l = or_none (first n z.l) z.bl; r = or_none (first n z.r) z.br }

-- one run in its table, with k levels left
pub record Fit (w : List ℕ) (e k : ℕ) (f : Forest) (b : ℕ) : Type 0 where
  pub run : Run w e f b
  pub ruled : Ruled f
  pub sorted : Sorted f
  pub levels : Levels k f

fit_next : (w : List ℕ) (e k : ℕ) (n : Name) (f : Forest) (b : ℕ) → Fit w e k f b → Entry w e n f b → Fit w e k (skip n f) (b + row_count (first n f))
fit_next w e k n f b F E = record { run = E.rest; ruled = E.ruled-rest; sorted = sorted-skip n f F.sorted; levels = levels-skip k n f F.levels }

fit-inside : (w : List ℕ) (e k : ℕ) (n : Name) (f : Forest) (b : ℕ) → Fit w e (suc k) f b → Entry w e n f b → Fit w (suc e) k (kids (first n f)) (suc b)
fit-inside w e k n f b F E = record {
  run = E.entries;
  ruled = ruled-kids (first n f) E.ruled;
  sorted = sorted-inside n f F.sorted;
  levels = levels-inside k n f F.levels;
}

no_words : (z : Runs) → z.o ≡ end → z.l ≡ end → z.r ≡ end → written z ≡ []
unfolding items words_of
no_words z a b c = rw (a, b, c, plan-end)

-- the three tables
module _ (o l r : List ℕ) (T : Three o l r) where
  pub record At (e k : ℕ) (z : Runs) : Type 0 where
    pub fo : Fit o e k z.o z.bo
    pub fl : Fit l e k z.l z.bl
    pub fr : Fit r e k z.r z.br

  -- the entries called n in the three tables
  record Entries (e : ℕ) (n : Name) (z : Runs) : Type 0 where
    eo : Entry o e n z.o z.bo
    el : Entry l e n z.l z.bl
    er : Entry r e n z.r z.br

  entries-of : (e k : ℕ) (n : Name) (z : Runs) → At e k z → Entries e n z
  entries-of e k n z A = record {
    eo = entry_of o T.o-small e n z.o z.bo A.fo.run A.fo.ruled;
    el = entry_of l T.l-small e n z.l z.bl A.fl.run A.fl.ruled;
    er = entry_of r T.r_small e n z.r z.br A.fr.run A.fr.ruled;
  }

  -- the code keeps the entries of the least name
  least-own : (e k : ℕ) (n : Name) (z : Runs) → At e k z → LeastOf (key z.o) (key z.l) (key z.r) (named n) → least o l r (heads z) ≡ own n z
  least-own e k n z A L =
      let ko = key-at o e z.o z.bo T.o-small A.fo.run A.fo.ruled in
      let kl = key-at l e z.l z.bl T.l-small A.fl.run A.fl.ruled in
      let kr = key-at r e z.r z.br T.r_small A.fr.run A.fr.ruled in
      rw (
        least-keys o l r (heads z) (key z.o) (key z.l) (key z.r) ko kl kr,
        keep-first n z.o (key z.l) (key z.r) z.bo L,
        keep-first n z.l (key z.o) (key z.r) z.bl (turn L),
        keep-first n z.r (key z.o) (key z.l) z.br (turn2 L),
      )
    where
      turn : LeastOf (key z.o) (key z.l) (key z.r) (named n) → LeastOf (key z.l) (key z.o) (key z.r) (named n)
      turn M = record { first = M.second; second = M.first; third = M.third; one = go M.one }
        where
          go : {x y w : Type 0} → x ⊎ (y ⊎ w) → y ⊎ (x ⊎ w)
          go (inl a) = inr (inl a)
          go (inr (inl a)) = inl a
          go (inr (inr a)) = inr (inr a)

      turn2 : LeastOf (key z.o) (key z.l) (key z.r) (named n) → LeastOf (key z.r) (key z.o) (key z.l) (named n)
      turn2 M = record { first = M.third; second = M.first; third = M.second; one = go M.one }
        where
          go : {x y w : Type 0} → x ⊎ (y ⊎ w) → w ⊎ (x ⊎ y)
          go (inl a) = inr (inl a)
          go (inr (inl a)) = inr (inr a)
          go (inr (inr a)) = inl a

  -- so one of them is a row, and their name is the least
  own_row : (e : ℕ) (n : Name) (z : Runs) → Entries e n z → LeastOf (key z.o) (key z.l) (key z.r) (named n) → ended o l r (own n z) ≡ false
  own_row e n z E L =
      some-row o l r (own n z)
      (⊎_map (λ q. stands-row o _ (suc e) n (first n z.o) E.eo.stands ∙ key-first n z.o (sym q))
      (⊎_map (λ q. stands-row l _ (suc e) n (first n z.l) E.el.stands ∙ key-first n z.l (sym q))
      (λ q. stands-row r _ (suc e) n (first n z.r) E.er.stands ∙ key-first n z.r (sym q))) L.one)

  ready : (e k : ℕ) (n : Name) (z : Runs) → At e k z → LeastOf (key z.o) (key z.l) (key z.r) (named n) → Ready n z
  ready e k n z A L = record {
    so = A.fo.sorted;
    sl = A.fl.sorted;
    sr = A.fr.sorted;
    lo = least-key n z.o L.first;
    ll = least-key n z.l L.second;
    lr = least-key n z.r L.third;
  }

  eight : (e k : ℕ) (n : Name) (z : Runs) → At e k z → (named n ≡ key z.o) ⊎ ((named n ≡ key z.l) ⊎ (named n ≡ key z.r)) → length n ≡ 8
  eight e k n z A (inl q) = key-eight n z.o (sym q) A.fo.ruled
  eight e k n z A (inr (inl q)) = key-eight n z.l (sym q) A.fl.ruled
  eight e k n z A (inr (inr q)) = key-eight n z.r (sym q) A.fr.ruled

  -- an entry that is not a folder on both sides: the decision's words
  decided : (e : ℕ) (n : Name) (z : Runs) → Entries e n z → length n ≡ 8
      → decision_words (decision o l r (own n z)) ≡ own_words z n (kind (decide (first n z.o) (first n z.l) (first n z.r)))
  unfolding decision decide decision_words kind
  decided e n z E h =
      rw (
        same-subtrees l (or_none (first n z.l) z.bl) r (or_none (first n z.r) z.br) (suc e) n (first n z.l) (first n z.r)
            T.l-whole T.r-whole E.el.stands E.er.stands h E.el.ruled E.er.ruled,
        same-subtrees l (or_none (first n z.l) z.bl) o (or_none (first n z.o) z.bo) (suc e) n (first n z.l) (first n z.o)
            T.l-whole T.o-whole E.el.stands E.eo.stands h E.el.ruled E.eo.ruled,
        same-subtrees r (or_none (first n z.r) z.br) o (or_none (first n z.o) z.bo) (suc e) n (first n z.r) (first n z.o)
            T.r-whole T.o-whole E.er.stands E.eo.stands h E.er.ruled E.eo.ruled,
      )
      (go (same_node (first n z.l) (first n z.r)) (same_node (first n z.l) (first n z.o)) (same_node (first n z.r) (first n z.o)))
    where
      g : Rows
      g = own n z

      go : (a b c : Bool) → decision_words (cond a (Agreed g) (cond b (LeftGets g) (cond c (RightGets g) (Clash g)))) ≡ own_words z n (kind (rule a b c))
      go true b c = refl
      go false true c = refl
      go false false true = refl
      go false false false = refl

  abbrev pub Folder : ℕ → Type 0
  Folder k = (m e : ℕ) (z : Runs) → At e k z → size z.o + size z.l + size z.r ≤ m
      → flatten (entry o l r k (suc e)) (merge o l r (suc e) m (heads z)) ≡ written z

  abbrev EntryOf : ℕ → Type 0
  EntryOf k = (e : ℕ) (n : Name) (z : Runs) → At e k z → LeastOf (key z.o) (key z.l) (key z.r) (named n)
      → entry o l r k (suc e) (own n z) ≡ entry_words z n (settle (first n z.o) (first n z.l) (first n z.r))

  entry-words : (k : ℕ) → Folder k → EntryOf (suc k)
  unfolding entry both
  entry-words k F e n z A L = rw (E.el.folders, E.er.folders) (go (cond (is_fold (first n z.l)) (is_fold (first n z.r)) false) refl)
    where
      E : Entries e n z
      E = entries-of e (suc k) n z A

      R : Ready n z
      R = ready e (suc k) n z A L

      inner : flatten (entry o l r k (suc e + 1)) (merge o l r (suc e + 1) (enough o l r) (firsts o l r (suc e + 1) (own n z))) ≡ written (inside n z)
      inner =
          rw (E.eo.cursor, E.el.cursor, E.er.cursor, add-one (suc e))
          (F (enough o l r) (suc e) (inside n z)
          (record {
            fo = fit-inside o e k n z.o z.bo A.fo E.eo;
            fl = fit-inside l e k n z.l z.bl A.fl E.el;
            fr = fit-inside r e k n z.r z.br A.fr E.er;
          })
          (let a = run-size o (suc e) (kids (first n z.o)) (suc z.bo) E.eo.entries in
          let b = run-size l (suc e) (kids (first n z.l)) (suc z.bl) E.el.entries in
          let c = run-size r (suc e) (kids (first n z.r)) (suc z.br) E.er.entries in omega arith))

      go : (c : Bool) → cond (is_fold (first n z.l)) (is_fold (first n z.r)) false ≡ c
          → cond c (four 0 (own n z) ++ flatten (entry o l r k (suc e + 1)) (merge o l r (suc e + 1) (enough o l r) (firsts o l r (suc e + 1) (own n z))))
          (decision_words (decision o l r (own n z))) ≡ entry_words z n (settle (first n z.o) (first n z.l) (first n z.r))
      go true q =
          rw (settle-pair (first n z.o) (first n z.l) (first n z.r) q, words-pair z n R) (ap (λ (w : List ℕ). own_words z n 0 ++ w) inner)
      go false q =
          rw (settle-alone (first n z.o) (first n z.l) (first n z.r) q, words-single z n (first n z.o) (first n z.l) (first n z.r) R)
          (decided e n z E (eight e (suc k) n z A L.one))

  -- where no run has a head left, nothing is written
  no-heads : (e : ℕ) (z : Runs) → z.o ≡ end → z.l ≡ end → z.r ≡ end → ended o l r (least o l r (heads z)) ≡ true
  unfolding ended
  no-heads e z a b c = least-ended o l r (heads z) ∙ rw (a, b, c, no_row o T.o-small, no_row l T.l-small, no_row r T.r_small)

  at-past : (e k : ℕ) (n : Name) (z : Runs) → At e k z → Entries e n z → At e k (past_runs n z)
  at-past e k n z A E = record {
    fo = fit_next o e k n z.o z.bo A.fo E.eo;
    fl = fit_next l e k n z.l z.bl A.fl E.el;
    fr = fit_next r e k n z.r z.br A.fr E.er;
  }

  fewer : (e k : ℕ) (n : Name) (z : Runs) → At e k z → Entries e n z → (named n ≡ key z.o) ⊎ ((named n ≡ key z.l) ⊎ (named n ≡ key z.r))
      → size (skip n z.o) + size (skip n z.l) + size (skip n z.r) < size z.o + size z.l + size z.r
  fewer e k n z A E (inl q) = let a = some-rows (first n z.o) (key-first n z.o (sym q)) in omega (arith, E.eo.less, E.el.less, E.er.less)
  fewer e k n z A E (inr (inl q)) = let a = some-rows (first n z.l) (key-first n z.l (sym q)) in omega (arith, E.eo.less, E.el.less, E.er.less)
  fewer e k n z A E (inr (inr q)) = let a = some-rows (first n z.r) (key-first n z.r (sym q)) in omega (arith, E.eo.less, E.el.less, E.er.less)

  folder-at : (k : ℕ) → EntryOf k → Folder k
  unfolding merge flatten
  folder-at k H zero e z A h =
      sym (no_words z (size_none z.o (omega arith)) (size_none z.l (omega arith)) (size_none z.r (omega arith)))
  folder-at k H (suc m) e z A h = go (least_key (key z.o) (key z.l) (key z.r)) (least-of (key z.o) (key z.l) (key z.r)) (folder-at k H m)
    where
      -- what is written where x is the first entry
      from_first : Rows → List ℕ
      from_first x = flatten (entry o l r k (suc e)) (cond (ended o l r x) [] (x ∷ merge o l r (suc e) m (past o l r (suc e) (heads z) x)))

      go : (x : Key) → LeastOf (key z.o) (key z.l) (key z.r) x
          → ((e : ℕ) (z : Runs) → At e k z → size z.o + size z.l + size z.r ≤ m → flatten (entry o l r k (suc e)) (merge o l r (suc e) m (heads z)) ≡ written z)
          → from_first (least o l r (heads z)) ≡ written z
      go last L ih =
          let a = key-last z.o (up-last (key z.o) L.first) in
          let b = key-last z.l (up-last (key z.l) L.second) in
          let c = key-last z.r (up-last (key z.r) L.third) in
          rw (no-heads e z a b c) (sym (no_words z a b c))
      go (named n) L ih =
          let E = entries-of e k n z A in
          let R = ready e k n z A L in
          let own_first : from_first (own n z) ≡ written z =
          rw (own_row e n z E L, E.eo.next, E.el.next, E.er.next)
          (ap₂ (λ (x y : List ℕ). x ++ y) (H e n z A L) (ih e (past_runs n z) (at-past e k n z A E) (let f = fewer e k n z A E L.one in omega arith))
          ∙ sym (written_step z n R (key_has n z.o z.l z.r R.so R.sl R.sr L))) in
          ap from_first (least-own e k n z A L) ∙ own_first

  pub folders : (k : ℕ) → Folder k
  folders zero = folder-at zero (λ e n z A L. none_left e n z A L.one)
    where
      none_left : {P : Type 0} (e : ℕ) (n : Name) (z : Runs) → At e zero z → (named n ≡ key z.o) ⊎ ((named n ≡ key z.l) ⊎ (named n ≡ key z.r)) → P
      none_left e n z A (inl q) = let a = levels-none z.o A.fo.levels in never (cc)
      none_left e n z A (inr (inl q)) = let a = levels-none z.l A.fl.levels in never (cc)
      none_left e n z A (inr (inr q)) = let a = levels-none z.r A.fr.levels in never (cc)
  folders (suc k) = folder-at (suc k) (entry-words k (folders k))

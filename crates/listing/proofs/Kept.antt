-- What every line keeps of the reader's state, from which the tree so far could be accepted; and what lines other than
-- entries do to it.
use mathlib.Core.Bool.{Bool, ◌&&◌, cond, false, true}
use mathlib.Core.List.{List, [], ◌++◌, ◌∷◌}
use mathlib.Core.Path.{◌∙◌, ◌≡◌, ap, refl, sym}
use native.Mathlib.Omega.{arith}
use lib.Dec.{ltb}
use lib.ListN.{get_or, length, length-take, take}
use lib.Seq.{take-length, take-suc}
use Prim.Native.Nat.{ℕ, suc, zero, ◌-◌, ◌<◌}
use borrow.Author.Tests.{ltb-true}
use Rattle.tree.specs.Name.{Name}
use Rattle.tree.specs.Forest.{Present, Forest, Forest.end, Node, Node.absent, Node.file, Node.folder, Sorted, TreePath, at, size}
use Rattle.tree.specs.Key.{fold, fold_path, key}
use Rattle.tree.specs.declared.Profile.{Profile}
use Rattle.tree.specs.Rules.{ContentRule, NameRule, Within, AllNames}
use Rattle.tree.specs.Same.{same_words}
use Rattle.tree.proofs.Same.{and-true}
use Rattle.tree.proofs.Spots.{path-append}
use Rattle.listing.specs.Accepted.{GoodState, GoodStep, Inside, IsFolder}
use Rattle.listing.specs.Bytes.{text}
use Rattle.listing.specs.Words.{Words, values}
use Rattle.listing.specs.Values.{content_of, digest_of, is_digest, is_size, size_of}
use Rattle.listing.specs.Entries.{Entry, Entry.faulty, Entry.holds, Said, Said.is_dir, Said.is_file, Said.is_other, Said.none, Said.twice, entry_as, one_each, root_as, type_in}
use Rattle.listing.specs.Reading.{State, State.before, State.closed, State.inside, Step, Step.goes, Step.stops, at_key, close, close_line, front, is_empty, rooted, root_line, set_line, set_to, slash_line, unset_line, with_default}
use Rattle.listing.proofs.Parent.{folder-above}
use Rattle.listing.proofs.Ruled.{content-rule}

-- what an entry may hold
abbrev pub GoodEntry : Entry → Type 0
GoodEntry (faulty n) = Unit {0}
GoodEntry (holds absent) = ⊥
GoodEntry (holds (file c)) = ContentRule c
GoodEntry (holds (folder k)) = k ≡ end

one_each-good : (ss ds : Words) → GoodEntry (one_each ss ds)
one_each-good [] ds = tt
one_each-good (s ∷ []) [] = tt
one_each-good (s ∷ []) (d ∷ []) = go (is_size s && is_digest d) refl
  where
    go : (t : Bool) → is_size s && is_digest d ≡ t → GoodEntry (cond t (holds (file (content_of (size_of s) (digest_of d)))) (faulty 9))
    go true e = let q = and-true (is_size s) (is_digest d) e in content-rule s d q.0 q.1
    go false e = tt
one_each-good (s ∷ []) (d ∷ e ∷ ds) = tt
one_each-good (s ∷ r ∷ ss) ds = tt

pub entry-good : (t : Said) (ws : Words) → GoodEntry (entry_as t ws)
entry-good none ws = tt
entry-good is_dir ws = refl
entry-good is_file ws = one_each-good (values (text "size") ws) (values (text "sha256digest") ws)
entry-good is_other ws = tt
entry-good twice ws = tt

module _ (p : Profile) (most : ℕ) where
  pub good-default : (v : Said) (s : State) → GoodState p most s → GoodState p most (with_default v s)
  good-default v (before d) h = tt
  good-default v (inside f q d) h = h
  good-default v (closed f) h = h

  good-set : (t : Said) (s : State) → GoodState p most s → GoodStep p most (set_to t s)
  good-set none s h = h
  good-set is_dir s h = good-default is_dir s h
  good-set is_file s h = good-default is_file s h
  good-set is_other s h = tt
  good-set twice s h = tt

  pub good-cond : (t : Bool) (x y : Step) → GoodStep p most x → GoodStep p most y → GoodStep p most (cond t x y)
  good-cond true x y g h = g
  good-cond false x y g h = h

  good-setting : (ws : Words) (s : State) → GoodState p most s → GoodStep p most (set_line ws s)
  unfolding set_line
  good-setting ws s h =
      good-cond (is_empty (values (text "size") ws) && is_empty (values (text "sha256digest") ws)) _ (stops 9) (good-set (type_in none ws) s h) tt

  good-clearing : (ws : Words) (s : State) → GoodState p most s → GoodStep p most (unset_line ws s)
  unfolding unset_line
  good-clearing ws s h = go (is_empty (values (text "type") ws) && is_empty (values (text "all") ws))
    where
      go : (t : Bool) → GoodState p most (cond t s (with_default none s))
      go true = h
      go false = good-default none s h

  pub good-slash : (w : List ℕ) (ws : Words) (s : State) → GoodState p most s → GoodStep p most (slash_line w ws s)
  unfolding slash_line
  good-slash w ws s h =
      good-cond (same_words w (text "/set")) _ _ (good-setting ws s h)
      (good-cond (same_words w (text "/unset")) _ (stops 9) (good-clearing ws s h) tt)

all_take : (P : Name → Type 0) (k : ℕ) (q : TreePath) → AllNames P q → AllNames P (take k q)
unfolding AllNames
all_take P zero [] h = tt
all_take P zero (n ∷ q) h = tt
all_take P (suc k) [] h = tt
all_take P (suc k) (n ∷ q) h = (h.0, all_take P k q h.1)

pub all-last : (P : Name → Type 0) (q : TreePath) (n : Name) → AllNames P q → P n → AllNames P (q ++ (n ∷ []))
unfolding AllNames
all-last P [] n h r = (r, tt)
all-last P (m ∷ q) n h r = (h.0, all-last P q n h.1 r)

pub there-of : (x : Node) → IsFolder x → Present x
there-of absent h = h
there-of (file c) h = tt
there-of (folder k) h = tt

pub split-last : (q : TreePath) → 0 < length q → q ≡ front q ++ (get_or q (length q - 1) [] ∷ [])
split-last q h =
    let e : suc (length q - 1) ≡ length q = omega arith in
    let lt : length q - 1 < length q = omega arith in
    sym (take-length q) ∙ ap (λ (k : ℕ). take k q) (sym e) ∙ take-suc q (length q - 1) [] lt

module _ (p : Profile) (most : ℕ) where
  good-close : (f : Forest) (q : TreePath) (d : Said) → Inside p most f q → GoodState p most (close f q d)
  good-close f [] d h = h.fit
  good-close f (n ∷ q) d h =
      let r : TreePath = n ∷ q in
      let m : Name = get_or r (length r - 1) [] in
      let e : fold_path p r ≡ fold_path p (front r) ++ (key p m ∷ []) = ap (fold_path p) (split-last r (omega arith)) ∙ path-append p (front r) (m ∷ []) in
      let there : Present (at (folder (fold p f)) (fold_path p (front r) ++ (key p m ∷ []))) = rw e at (there-of (at_key p f r) h.here) in
      let deep = h.deep in
      let named : AllNames NameRule (front r) = all_take NameRule (length r - 1) r h.named in
      record {
        fit = h.fit;
        here = folder-above (fold_path p (front r)) (key p m) (folder (fold p f)) there;
        named = named;
        deep = omega (arith, length-take (length r - 1) r);
      }

  pub good-closing : (ws : Words) (s : State) → GoodState p most s → GoodStep p most (close_line ws s)
  unfolding close_line
  good-closing ws (before d) h = tt
  good-closing ws (inside f q d) h = good-cond p most (is_empty ws) (goes (close f q d)) (stops 9) (good-close f q d h) tt
  good-closing ws (closed f) h = tt

  pub root-state : 0 < most → Inside p most end []
  unfolding fold Sorted Within AllNames at size
  root-state h =
      record { fit = record { good = record { sorted = tt; within = tt }; room = h }; here = tt; named = tt; deep = omega arith }

  good-rooted : (d : Said) (x : Entry) → GoodStep p most (rooted most d x)
  good-rooted d (faulty k) = tt
  good-rooted d (holds x) = go (ltb 0 most) refl
    where
      go : (t : Bool) → ltb 0 most ≡ t → GoodStep p most (cond t (goes (inside end [] d)) (stops 3))
      go true e = root-state (ltb-true 0 most e)
      go false e = tt

  pub good-root : (ws : Words) (s : State) → GoodStep p most (root_line most ws s)
  unfolding root_line
  good-root ws (before d) = good-rooted d (root_as (type_in d ws))
  good-root ws (inside f q d) = tt
  good-root ws (closed f) = tt

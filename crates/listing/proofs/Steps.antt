-- What each kind of written line does to the reader's state.
use mathlib.Core.Bool.{Bool, false, false≢true, true}
use mathlib.Core.List.{List, [], ◌++◌, ◌∷◌}
use mathlib.Core.Path.{◌∙◌, ◌≡◌, ap, refl, sym}
use native.Mathlib.Omega.{arith}
use lib.Dec.{eqb}
use lib.ListN.{get_or, length, length-append}
use lib.Seq.{take_at}
use Prim.Native.Nat.{ℕ, suc, ◌-◌, ◌<◌}
use borrow.Author.Tests.{eqb-true, lt-leb, lt-ltb}
use Rattle.tree.specs.Name.{Name, cmp}
use Rattle.tree.specs.Forest.{Content, Forest, Forest.dir, Forest.end, Forest.leaf, Node, Node.absent, Node.file, Node.folder, TreePath, add, at, size}
use Rattle.tree.specs.Key.{entry, fold_node, key, update_in}
use Rattle.tree.specs.declared.Profile.{Profile}
use Rattle.tree.specs.Rules.{ContentRule, NameRule, good_name}
use Rattle.tree.specs.Same.{same_words}
use Rattle.tree.proofs.Same.{same_words-eq}
use Rattle.tree.proofs.Folds.{entry-fold}
use Rattle.listing.specs.Bytes.{class_of, text}
use Rattle.listing.specs.Lines.{begin_of, len_in, lines_from}
use Rattle.listing.specs.Words.{Words, is_text, key_len, span, values, words_from}
use Rattle.listing.specs.Names.{decode_from, is_name, name_of, packed}
use Rattle.listing.specs.Entries.{Entry.holds, Said, Said.none, entry_of, type_in}
use Rattle.listing.specs.Reading.{State, State.before, State.closed, State.inside, Step.goes, at_key, close, close_line, entered, entry_line, front, line_does, opened, placed, root_line, run, words_do}
use Rattle.listing.specs.Writing.{digest_text, dir_line, file_line, name_text, size_text}
use Rattle.listing.proofs.Digits.{Back, all_plain, content-back}
use Rattle.listing.proofs.Solid.{AllSolid, AllSolid.more, AllSolid.none, Solid, len-done, solid-plain, tail_of}
use Rattle.listing.proofs.Spelling.{is_name-text, name_back}
use Rattle.listing.proofs.Spot.{Below, Fits, Open, at-plug, entry-join, join, join-end, names, plug, put-plug, update-join}
use Rattle.listing.proofs.Written.{lines-head, solid-name, takes}

-- a name is no other kind of first word
not-name : (w x : List ℕ) → is_name w ≡ true → is_name x ≡ false → same_words w x ≡ false
not-name w x p q = go (same_words w x) refl
  where
    go : (t : Bool) → same_words w x ≡ t → same_words w x ≡ false
    go true e = absurd (false≢true (sym q ∙ ap is_name (sym (same_words-eq w x e)) ∙ p))
    go false e = e

first-not : (b : ℕ) → ((v : List ℕ) → is_name (b ∷ v) ≡ false) → eqb 0 b ≡ false → (w : List ℕ) → is_name w ≡ true → eqb (get_or w 0 0) b ≡ false
first-not b q z [] p = z
first-not b q z (c ∷ v) p = go (eqb c b) refl
  where
    go : (t : Bool) → eqb c b ≡ t → eqb c b ≡ false
    go true e = absurd (false≢true (sym (q v) ∙ ap (λ (x : ℕ). is_name (x ∷ v)) (sym (eqb-true c b e)) ∙ p))
    go false e = e

hash-first : (v : List ℕ) → is_name (35 ∷ v) ≡ false
unfolding is_name decode_from class_of
hash-first v = refl

slash-first : (v : List ℕ) → is_name (47 ∷ v) ≡ false
unfolding is_name decode_from class_of
slash-first v = refl

not-names : (is_name (text "..") ≡ false) × (is_name (text ".") ≡ false) × (is_name [] ≡ false)
unfolding is_name decode_from class_of packed good_name
not-names = (refl, refl, refl)

some-name : (w : List ℕ) → is_name w ≡ true → 0 < length w
some-name [] p = absurd (false≢true (sym not-names.2 ∙ p))
some-name (b ∷ v) p = omega arith

entry-word : (p : Profile) (most : ℕ) (w : List ℕ) (ws : Words) (f : Forest) (q : TreePath) (v : Said) → is_name w ≡ true
    → words_do p most true (w ∷ ws) (inside f q v) ≡ entered p most (name_of w) (entry_of v ws) f q v
unfolding words_do entry_line
entry-word p most w ws f q v h =
    rw (first-not 35 hash-first refl w h, first-not 47 slash-first refl w h, not-name w (text "..") h not-names.0, not-name w (text ".") h not-names.1, h)

names-length : (os : List Open) → length (names os) ≡ length os
names-length [] = refl
names-length (o ∷ os) = ap suc (names-length os)

module _ (p : Profile) where
  not_there : (n : Name) (f : Forest) → Below p n f → at_key p f (n ∷ []) ≡ absent
  unfolding at entry
  not_there n f b = sym (entry-fold p (key p n) f) ∙ ap (fold_node p) (rw join-end at (entry-join p n f end b))

  put_last : (n : Name) (x : Node) (f : Forest) → Below p n f → update_in p n x f ≡ join f (add n x end)
  unfolding update_in
  put_last n x f b = rw join-end at (update-join p n x f end b)

  -- a name that comes after all others is put last
  placed-last : (most : ℕ) (n : Name) (x : Node) (os : List Open) (f : Forest) (v : Said) → Fits p os → Below p n f → length os < 16
      → suc (size (plug os f)) < most → placed p most n x (plug os f) (names os) v ≡ goes (opened n x (plug os (join f (add n x end))) (names os) v)
  unfolding placed
  placed-last most n x os f v h b d r =
      let e : at_key p (plug os f) (names os ++ (n ∷ [])) ≡ absent = at-plug p os f (n ∷ []) h ∙ not_there n f b in
      let k : length (names os) < 16 = omega (arith, names-length os) in
      rw (lt-leb 16 (length (names os)) k, e, lt-ltb _ most r, put-plug p os f n x h, put_last n x f b)

-- what a line's words say of an entry
dir-entry : (d : Said) → entry_of d (text "type=dir" ∷ []) ≡ holds (folder end)
unfolding entry_of type_in values key_len same_words cmp
dir-entry d = refl

file_words : Content → Words
file_words c = text "type=file" ∷ (text "size=" ++ size_text c) ∷ (text "sha256digest=" ++ digest_text c) ∷ []

file-entry : (d : Said) (c : Content) → Back c → entry_of d (file_words c) ≡ holds (file c)
unfolding entry_of type_in values key_len same_words cmp file_words
file-entry d c b = rw (b.size, b.digest, b.content)

solid-dir : AllSolid (text "type=dir" ∷ [])
unfolding all_plain class_of
solid-dir = more (solid-plain (text "type=dir") refl) (omega arith) none

solid-file : (c : Content) → Back c → AllSolid (file_words c)
unfolding all_plain class_of file_words
solid-file c b =
    more (solid-plain (text "type=file") refl) (omega arith)
    (more (solid-plain (text "size=" ++ size_text c) b.plain_size) (omega arith)
    (more (solid-plain (text "sha256digest=" ++ digest_text c) b.plain-digest) (omega arith) none))

module _ (p : Profile) (most n : ℕ) (r : List ℕ) (m : Name) (rule : NameRule m) (os : List Open) (f : Forest) (v : Said)
    (h : Fits p os) (b : Below p m f) (d : length os < 16) (room : suc (size (plug os f)) < most) where
  entered-last : (x : Node) (ws : Words) → entry_of v ws ≡ holds x
      → words_do p most true (name_text m ∷ ws) (inside (plug os f) (names os) v) ≡ goes (opened m x (plug os (join f (add m x end))) (names os) v)
  entered-last x ws e =
      entry-word p most (name_text m) ws (plug os f) (names os) v (is_name-text m rule) ∙ rw (e, name_back m rule) (placed-last p most m x os f v h b d room)

  entry-line : (x : Node) (ws : Words) → entry_of v ws ≡ holds x → AllSolid ws
      → run p most (lines_from n 0 (name_text m ++ tail_of ws ++ r)) (inside (plug os f) (names os) v)
      ≡ run p most (lines_from (suc n) 0 r) (opened m x (plug os (join f (add m x end))) (names os) v)
  entry-line x ws e a =
      takes p most n r _ _ (solid-name m rule) (some-name (name_text m) (is_name-text m rule)) a (entered-last x ws e)

  pub dir-line : run p most (lines_from n 0 (dir_line (name_text m) ++ r)) (inside (plug os f) (names os) v)
      ≡ run p most (lines_from (suc n) 0 r) (inside (plug os (join f (dir m end end))) (names os ++ (m ∷ [])) v)
  unfolding dir_line tail_of
  dir-line = entry-line (folder end) (text "type=dir" ∷ []) (dir-entry v) solid-dir

  pub file-line : (c : Content) → ContentRule c
      → run p most (lines_from n 0 (file_line m c ++ r)) (inside (plug os f) (names os) v)
      ≡ run p most (lines_from (suc n) 0 r) (inside (plug os (join f (leaf m c end))) (names os) v)
  unfolding file_line tail_of file_words
  file-line c q = let k = content-back c q in entry-line (file c) (file_words c) (file-entry v c k) (solid-file c k)

-- .. undoes what opening did
pub front-last : (q : TreePath) (m : Name) → front (q ++ (m ∷ [])) ≡ q
front-last q m = take_at q (m ∷ []) (length (q ++ (m ∷ [])) - 1) (omega (arith, length-append q (m ∷ [])))

close-last : (f : Forest) (q : TreePath) (m : Name) (v : Said) → close f (q ++ (m ∷ [])) v ≡ inside f q v
close-last f [] m v = refl
close-last f (k ∷ q) m v = ap (λ (r : TreePath). inside f r v) (front-last (k ∷ q) m)

solid-dots : Solid (text "..") × Solid (text ".")
unfolding all_plain class_of
solid-dots = (solid-plain (text "..") refl, solid-plain (text ".") refl)

close-word : (p : Profile) (most : ℕ) (f : Forest) (q : TreePath) (v : Said) → words_do p most true (text ".." ∷ []) (inside f q v) ≡ goes (close f q v)
unfolding words_do close_line same_words cmp
close-word p most f q v = refl

root-word : (p : Profile) (most : ℕ) → 0 < most → words_do p most true (text "." ∷ text "type=dir" ∷ []) (before none) ≡ goes (inside end [] none)
unfolding words_do root_line type_in values key_len same_words cmp
root-word p most h = rw (lt-ltb 0 most h)

module _ (p : Profile) (most n : ℕ) (r : List ℕ) where
  close-any : (f : Forest) (q : TreePath) (v : Said)
      → run p most (lines_from n 0 (text "..\n" ++ r)) (inside f q v) ≡ run p most (lines_from (suc n) 0 r) (close f q v)
  unfolding tail_of
  close-any f q v = takes p most n r _ _ solid-dots.0 (omega arith) none (close-word p most f q v)

  pub close-line : (f : Forest) (q : TreePath) (m : Name) (v : Said)
      → run p most (lines_from n 0 (text "..\n" ++ r)) (inside f (q ++ (m ∷ [])) v) ≡ run p most (lines_from (suc n) 0 r) (inside f q v)
  close-line f q m v = close-any f (q ++ (m ∷ [])) v ∙ ap (run p most (lines_from (suc n) 0 r)) (close-last f q m v)

  pub close-root : (f : Forest) (v : Said) → run p most (lines_from n 0 (text "..\n" ++ r)) (inside f [] v) ≡ run p most (lines_from (suc n) 0 r) (closed f)
  close-root f v = close-any f [] v

  pub root_line-runs : 0 < most → run p most (lines_from n 0 (dir_line (text ".") ++ r)) (before none) ≡ run p most (lines_from (suc n) 0 r) (inside end [] none)
  unfolding dir_line tail_of
  root_line-runs h = takes p most n r _ _ solid-dots.1 (omega arith) solid-dir (root-word p most h)

-- the line #mtree is skipped
hash-len : (r : List ℕ) → len_in (begin_of (class_of 35)) (text "mtree\n" ++ r) ≡ 6
unfolding len_in class_of
hash-len r = rw (len-done r)

hash-lines : (r : List ℕ) → lines_from 1 0 (text "#mtree\n" ++ r) ≡ record { number = 1; bytes = text "#mtree\n" } ∷ lines_from 2 0 r
unfolding lines_from
hash-lines r = lines-head 1 35 (text "mtree\n") r refl (hash-len r)

hash-does : (p : Profile) (most : ℕ) (s : State) → line_does p most (text "#mtree\n") s ≡ goes s
unfolding words_do is_text words_from span class_of
hash-does p most s = refl

pub hash-line : (p : Profile) (most : ℕ) (r : List ℕ) (s : State) → run p most (lines_from 1 0 (text "#mtree\n" ++ r)) s ≡ run p most (lines_from 2 0 r) s
unfolding run
hash-line p most r s = rw (hash-lines r, hash-does p most s)

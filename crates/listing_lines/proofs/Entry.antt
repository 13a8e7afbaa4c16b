-- The outcomes of the root's line and of an entry's, by the state that the struct stands for.
use mathlib.Core.Path.{◌≡◌, refl}
use mathlib.Core.List.{List}
use mathlib.Core.Bool.{true, false, cond}
use Rattle.tree.proofs.Never.{never}
use native.Mathlib.Omega.{arith}
use lib.ListN.{length, replicate}
use Prim.Native.Nat.{ℕ, ◌<◌, ◌≤◌}
use borrow.Author.Tests.{lt-ltb, le-ltb}
use Rattle.tree.specs.Forest.{TreePath, Forest, Node.absent, Node.file, Node.folder}
use Rattle.tree.specs.declared.Profile.{Profile}
use Rattle.listing.specs.Words.{Words}
use Rattle.listing.specs.Names.{is_name, name_of}
use Rattle.listing.specs.Entries.{Said, Entry, Entry.faulty, Entry.holds, entry_of, root_as, type_in}
use Rattle.listing.specs.Reading.{State, State.before, State.inside, State.closed, Step.stops, entered, entry_line, most_rows, rooted, root_line}
use Rattle.listing.specs.Accepted.{GoodState, Inside}
use Rattle.listing_keywords.specs.Entries.{said_of, held_of, root_due}
use Rattle.listing_keywords.proofs.Numbers.{Proper, by-fault, entry-proper, root-fault, root-folder}
use Rattle.listing_reader.specs.declared.Reader.{Reader}
use Rattle.std.specs.Prelude.{Result, Ok, Err}
use Rattle.listing_reader.specs.State.{Open, Reads, Ready, Waits}
use Rattle.listing_reader.specs.Does.{Did, IsContent, IsContent.of-file, IsContent.of-folder, Places, node_of, Roots as Opens}
use Rattle.listing_lines.specs.Takes.{Roots, Takes}
use Rattle.listing_lines.proofs.Alters.{shut-inside}

-- the root
module _ (ws : Words) (room : ℕ) (s : Reader) where
  pub root-again : (s.count ≡ 0 → ⊥) → Roots ws room s (Err 11)
  unfolding root_line
  root-again e = record { does = λ p w t l h. go p w t h }
    where
      go : (p : Profile) (w : List ℕ) (t : State) → Reads p w s t → Did p (root_line (most_rows room) ws t) w (Err 11)
      go p w (before d) h = absurd (e h.rows)
      go p w (inside f q d) h = (refl, omega arith)
      go p w (closed f) h = (refl, omega arith)

  -- first
  module _ (none : s.count ≡ 0) where
    abbrev root : Entry
    root = root_as (type_in (said_of s.default) ws)

    root-first : (r : Result Reader ℕ) → ((p : Profile) (w : List ℕ) (d : Said) → length w ≡ room → Waits w s d → Did p (rooted (most_rows room) d root) w r)
        → Roots ws room s r
    unfolding root_line
    root-first r k = record { does = λ p w t l h. go p w t l h }
      where
        go : (p : Profile) (w : List ℕ) (t : State) → length w ≡ room → Reads p w s t → Did p (root_line (most_rows room) ws t) w r
        go p w (before d) l h = rw h.default (k p w (said_of s.default) l (rw h.default at h))
        go p w (inside f q d) l h = let c = h.filled.rows in absurd (omega arith)
        go p w (closed f) l h = let c = h.filled.rows in absurd (omega arith)

    pub root-bad : (n : ℕ) → Err n ≡ root_due root → Roots ws room s (Err n)
    root-bad n e =
        let q = root-fault (type_in (said_of s.default) ws) n e in root-first (Err n) (λ p w d l u. rw q.0 (refl, q.1))

    -- a folder
    module _ (good : Ok tt ≡ root_due root) where
      pub root-full : room < 20 → Roots ws room s (Err 3)
      root-full less =
          root-first (Err 3)
          (λ p w d l u. rw (root-folder (type_in (said_of s.default) ws) good, le-ltb 0 (most_rows room) (omega arith)) (refl, omega arith))

      pub root_opened : (u : Reader) → 20 ≤ room → Opens s u → Roots ws room s (Ok u)
      root_opened u more o =
          root-first (Ok u)
          (λ p w d l h. rw (root-folder (type_in (said_of s.default) ws) good, lt-ltb 0 (most_rows room) (omega arith)) (o.does p w d (omega arith) h))

-- what an entry's words say, where it has no fault
held : (x : Entry) (c : List ℕ) → Proper x → Ok c ≡ held_of x → (x ≡ holds (node_of c)) × IsContent c
held (faulty k) c p e = never (cc)
held (holds absent) c p e = absurd p.good
held (holds (file d)) c p e = let q : c ≡ d = cc in rw q (rw p.good.kind, of-file p.good)
held (holds (folder k)) c p e = let q : c ≡ replicate 11 0 = cc in rw q (rw p.good, of-folder refl)

pub entry-content : (v : Said) (ws : Words) (c : List ℕ) → Ok c ≡ held_of (entry_of v ws) → IsContent c
entry-content v ws c e = (held (entry_of v ws) c (entry-proper v ws) e).1

-- any other entry
module _ (p : Profile) (word : List ℕ) (ws : Words) (w : List ℕ) (s : Reader) where
  abbrev Line : List ℕ → Result Reader ℕ → Type 0
  Line after r = Takes p (λ most. entry_line p most word ws) w s after r

  pub entry-shut : s.depth ≡ 0 → Line w (Err 11)
  unfolding entry_line
  entry-shut e = record { does = λ t g h. go t h }
    where
      go : (t : State) → Reads p w s t → Did p (entry_line p (most_rows (length w)) word ws t) w (Err 11)
      go (before d) h = (refl, omega arith)
      go (inside f q d) h = shut-inside e h
      go (closed f) h = (refl, omega arith)

  -- inside the root
  module _ (within : s.depth ≡ 0 → ⊥) where
    entry-inside : (after : List ℕ) (r : Result Reader ℕ) → ((f : Forest) (q : TreePath) (d : Said) → Inside p (most_rows (length w)) f q → Open p w s f q d
        → Did p (cond (is_name word) (entered p (most_rows (length w)) (name_of word) (entry_of d ws) f q d) (stops 8)) after r) → Line after r
    unfolding entry_line
    entry-inside after r k = record { does = λ t g h. go t g h }
      where
        go : (t : State) → GoodState p (most_rows (length w)) t → Reads p w s t → Did p (entry_line p (most_rows (length w)) word ws t) after r
        go (before d) g h = absurd (within h.shut)
        go (inside f q d) g h = k f q d g h
        go (closed f) g h = absurd (within h.shut)

    pub entry-nameless : false ≡ is_name word → Line w (Err 8)
    entry-nameless e = entry-inside w (Err 8) (λ f q d g h. rw (← e) (refl, omega arith))

    -- a name
    module _ (named : true ≡ is_name word) where
      entry_named : (after : List ℕ) (r : Result Reader ℕ) → ((f : Forest) (q : TreePath) (d : Said) → Inside p (most_rows (length w)) f q → Open p w s f q d
          → Did p (entered p (most_rows (length w)) (name_of word) (entry_of (said_of s.default) ws) f q d) after r) → Line after r
      entry_named after r k = entry-inside after r (λ f q d g o. rw (← named, o.default) (k f q _ g (rw o.default at o)))

      pub entry-bad : (n : ℕ) → Err n ≡ held_of (entry_of (said_of s.default) ws) → Line w (Err n)
      entry-bad n e =
          let q = by-fault (entry_of (said_of s.default) ws) n e in
          let b = (rw q at (entry-proper (said_of s.default) ws)).fault in
          entry_named w (Err n) (λ f a d g o. rw q (refl, omega (arith, b.0)))

      pub entry-put : (after : List ℕ) (r : Result Reader ℕ) (c : List ℕ) → Ok c ≡ held_of (entry_of (said_of s.default) ws)
          → Places p (name_of word) c w s after r → Line after r
      entry-put after r c e u =
          entry_named after r (λ f q d g o. rw (held (entry_of (said_of s.default) ws) c (entry-proper (said_of s.default) ws) e).0 (u.does f q d g o))

pub ready-deep : (p : Profile) (w : List ℕ) (s : Reader) → Ready p w s → s.depth ≤ 17
ready-deep p w s r = go r.state r.good r.reads
  where
    go : (t : State) → GoodState p (most_rows (length w)) t → Reads p w s t → s.depth ≤ 17
    go (before d) g h = let e = h.shut in omega arith
    go (inside f q v) g h = let e = h.deep in let d = g.deep in omega arith
    go (closed f) g h = let e = h.shut in omega arith

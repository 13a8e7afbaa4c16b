-- What putting an entry in comes to, by where its name goes: 14, 13, 3, or the state with the entry.
use Rattle.std.proofs.Common.{Option, Some, None}
use mathlib.Core.Path.{◌≡◌, refl, sym, ap, ◌∙◌}
use mathlib.Core.List.{List, [], ◌∷◌, ◌++◌}
use mathlib.Core.Bool.{Bool, true, false, cond}
use native.Mathlib.Decide.{ℕ_discrete}
use native.Mathlib.Omega.{arith}
use lib.Dec.{ltb}
use lib.ListN.{length, take, drop, get_or, replicate, length-append, length-drop}
use Prim.Native.Nat.{ℕ, suc, ◌+◌, ◌*◌, ◌-◌, ◌≤◌, ◌<◌}
use borrow.Author.Tests.{le-leb, lt-leb, ltb-true}
use Rattle.tree.specs.Name.{Name}
use Rattle.tree.specs.Forest.{Content, TreePath, Forest, Forest.end, Node, Node.absent, Node.file, Node.folder, at, kids, size}
use Rattle.tree.specs.Key.{key, fold, fold_path, put_in}
use Rattle.tree.specs.declared.Profile.{Profile}
use Rattle.table_row.specs.Tree.{file_row}
use Rattle.table_row.specs.Keyed.{keyed}
use Rattle.table_stands.specs.Around.{row_in}
use Rattle.table_slot.specs.Insert.{inserted, spot_of}
use Rattle.tree.proofs.Never.{never}
use Rattle.tree.proofs.Spots.{path-append}
use Rattle.table_slot.proofs.Grown.{file-words, folder-words}
use Rattle.table_slot.proofs.Spots.{spot_at}
use Rattle.listing.specs.Entries.{Said}
use Rattle.listing.specs.Reading.{State, State.before, State.inside, State.closed, Step.goes, Step.stops, at_key, is_absent, most_rows, opened, placed}
use Rattle.listing.specs.Accepted.{GoodState, Inside, IsFolder}
use Rattle.listing_reader.specs.declared.Reader.{Reader}
use Rattle.std.specs.Prelude.{Result, Ok, Err}
use Rattle.listing_reader.specs.State.{Open, Reads, Ready}
use Rattle.listing_reader.specs.Does.{Did, IsContent, IsContent.of-folder, IsContent.of-file, entered, node_of}
use Rattle.listing_reader.proofs.Put.{found, here, within, file-in, folder-in}
use Rattle.listing_reader.proofs.Rows.{last_within}

-- a folder is open
pub record Opened (p : Profile) (w : List ℕ) (s : Reader) : Type 0 where
  pub tree : Forest
  pub path : TreePath
  pub default : Said
  pub good : Inside p (most_rows (length w)) tree path
  pub reads : Open p w s tree path default

pub opened-ready : (p : Profile) (w : List ℕ) (s : Reader) → Ready p w s → 0 < s.depth → Opened p w s
opened-ready p w s r h = go r.state r.good r.reads
  where
    go : (t : State) → GoodState p (most_rows (length w)) t → Reads p w s t → Opened p w s
    go (before d) g o = absurd (let z = o.shut in omega arith)
    go (inside f q v) g o = record { tree = f; path = q; default = v; good = g; reads = o }
    go (closed f) g o = absurd (let z = o.shut in omega arith)

-- the places that the code reads
pub record InUse (w : List ℕ) (s : Reader) : Type 0 where
  pub deep : s.depth ≤ 17
  pub rows : 20 * s.count ≤ length w
  pub few : s.count ≤ 4096
  pub row : get_or s.folders (s.depth - 1) 0 < s.count
  pub last : s.last < s.count
  pub places : length s.folders ≡ 17

most-rows : (n : ℕ) → (most_rows n ≤ 4096) × (20 * most_rows n ≤ n)
most-rows n = (omega arith, omega arith)

pub in_use : (p : Profile) (w : List ℕ) (s : Reader) → Opened p w s → InUse w s
in_use p w s o = go (at_key p o.tree o.path) refl o.good.here
  where
    go : (x : Node) → at_key p o.tree o.path ≡ x → IsFolder x → InUse w s
    go absent e u = absurd u
    go (file c) e u = absurd u
    go (folder k) e u =
        let m = most-rows (length w) in
        let d = o.reads.deep in
        let n : s.depth - 1 ≡ length o.path = omega arith in
        let c = o.reads.filled.rows in
        let r = o.good.fit.room in
        let i = within p _ w s o.tree o.path o.default o.good o.reads k e in
        let l = last_within _ k s.last (rw e at o.reads.last) in
        let b = o.good.deep in
        let a = o.reads.filled.rows in
        record {
          deep = omega arith;
          rows = omega (arith, m.1);
          few = omega (arith, m.0);
          row = rw (n, here p _ w s o.tree o.path o.default o.good o.reads k e) (omega arith);
          last = omega arith;
          places = o.reads.wide;
        }

pub less-deep : (w : List ℕ) (s : Reader) → InUse w s → (s.depth ≡ 17 → ⊥) → s.depth < 17
less-deep w s k h = go (ℕ_discrete s.depth 17)
  where
    go : Dec (s.depth ≡ 17) → s.depth < 17
    go (yes e) = absurd (h e)
    go (no e) = let d = k.deep in omega arith

pub row_fits : (n : ℕ) (w : List ℕ) → true ≡ ltb n (most_rows (length w)) → (20 * (n + 1) ≤ length w) × (n < 4096)
row_fits n w e = let h = ltb-true n (most_rows (length w)) (sym e) in let m = most-rows (length w) in (omega (arith, m.1), omega (arith, m.0))

-- an entry of that name and content, put into the folder last opened
module _ (p : Profile) (most : ℕ) (n : Name) (x : Node) (f : Forest) (q : TreePath) (d : Said) where
  placed-deep : 16 ≤ length q → placed p most n x f q d ≡ stops 14
  unfolding placed
  placed-deep h = rw (le-leb 16 (length q) h)

  placed_by : (u v : Bool) → length q < 16 → is_absent (at (folder (fold p f)) (fold_path p q ++ (key p n ∷ []))) ≡ u → ltb (suc (size f)) most ≡ v
      → placed p most n x f q d ≡ cond u (cond v (goes (opened n x (kids (put_in p (q ++ (n ∷ [])) x (folder f))) q d)) (stops 3)) (stops 13)
  unfolding placed
  placed_by u v h a b = rw (lt-leb 16 (length q) h, path-append p q (n ∷ []), a, b)

absent-free : (x : Node) (j i : ℕ) → spot_at x j ≡ Some i → (x ≡ absent) × (j ≡ i)
absent-free absent j i e = (refl, cc)
absent-free (file c) j i e = never (cc)
absent-free (folder k) j i e = never (cc)

there-taken : (x : Node) (j : ℕ) → spot_at x j ≡ None → is_absent x ≡ false
there-taken absent j e = never (cc)
there-taken (file c) j e = refl
there-taken (folder k) j e = refl

module _ (p : Profile) (w : List ℕ) (s : Reader) (n : Name) (c : Content) (f : Forest) (q : TreePath) (d : Said) (g : Inside p (most_rows (length w)) f q) (h : Open p w s f q d) (after : List ℕ) where
  abbrev Due : Result Reader ℕ → Type 0
  Due r = Did p (placed p (most_rows (length w)) n (node_of c) f q d) after r

  pub did-deep : s.depth ≡ 17 → Due (Err 14)
  did-deep z =
      let u = h.deep in
      rw (placed-deep p (most_rows (length w)) n (node_of c) f q d (omega arith)) (refl, omega arith)

  -- not so deep
  module _ (shallow : s.depth ≡ 17 → ⊥) where
    less : length q < 16
    less = go (ℕ_discrete (length q) 16)
      where
        go : Dec (length q ≡ 16) → length q < 16
        go (yes e) = absurd (shallow (h.deep ∙ ap suc e))
        go (no e) = let z = g.deep in omega arith

    abbrev F : Node
    F = folder (fold p f)

    abbrev keys : TreePath
    keys = fold_path p q ++ (key p n ∷ [])

    abbrev spot : Option ℕ
    spot = spot_of (keyed p (take (20 * s.count) w)) (get_or s.folders (s.depth - 1) 0) s.last (key p n)

    spot_is : spot ≡ spot_at (at F keys) (row_in F keys)
    spot_is = go (at_key p f q) refl g.here
      where
        go : (x : Node) → at_key p f q ≡ x → IsFolder x → spot ≡ spot_at (at F keys) (row_in F keys)
        go absent e u = absurd u
        go (file z) e u = absurd u
        go (folder k) e u =
            let i : s.depth - 1 ≡ length q = let z = h.deep in omega arith in
            rw i (found p (most_rows (length w)) w s f q d g h k e n)

    pub did-taken : None ≡ spot → Due (Err 13)
    did-taken t =
        rw (placed_by p (most_rows (length w)) n (node_of c) f q d false _ less (there-taken (at F keys) _ (sym (t ∙ spot_is))) refl) (refl, omega arith)

    module _ (i : ℕ) (free : Some i ≡ spot) where
      gone : (at F keys ≡ absent) × (row_in F keys ≡ i)
      gone = absent-free _ _ i (sym (free ∙ spot_is))

      by-room : (v : Bool) → v ≡ ltb s.count (most_rows (length w)) → placed p (most_rows (length w)) n (node_of c) f q d
          ≡ cond v (goes (opened n (node_of c) (kids (put_in p (q ++ (n ∷ [])) (node_of c) (folder f))) q d)) (stops 3)
      by-room v e =
          placed_by p (most_rows (length w)) n (node_of c) f q d true v less (rw gone.0) (rw (← h.filled.rows) (sym e))

      pub did-full : false ≡ ltb s.count (most_rows (length w)) → Due (Err 3)
      did-full v = rw (by-room false v) (refl, omega arith)

      -- the row that is put in
      row-long : IsContent c → length n ≡ 8 → length (file_row s.depth n c) ≡ 20
      row-long (of-folder z) eight = rw (length-append n (drop 1 c), z) (omega arith)
      row-long (of-file u) eight = let l = u.eleven in rw (length-append n (drop 1 c), length-drop 1 c) (omega arith)

      module _ (k : Forest) (e : at_key p f q ≡ folder k) (eight : length n ≡ 8) (room : s.count < most_rows (length w)) where
        fits : 20 * s.count + 20 ≤ length w
        fits = omega (arith, (most-rows (length w)).1)

        put-in : IsContent c → Reads p (inserted w (20 * s.count) (20 * i) (file_row s.depth n c)) (entered s i (get_or c 0 0))
            (opened n (node_of c) (kids (put_in p (q ++ (n ∷ [])) (node_of c) (folder f))) q d)
        unfolding entered size fold
        put-in (of-folder z) =
            let l = row-long (of-folder z) eight in
            rw (z, ← gone.1)
            (folder-in p (most_rows (length w)) w s f q d g h k e n (folder end) (file_row s.depth n (replicate 11 0)) tt refl refl (rw h.deep (folder-words (suc (length q)) n))
            (rw z at l) gone.0 fits _ refl refl refl refl refl less)
        put-in (of-file u) =
            let l = row-long (of-file u) eight in
            rw (u.kind, ← gone.1)
            (file-in p (most_rows (length w)) w s f q d g h k e n (file c) (s.depth ∷ 1 ∷ (n ++ drop 1 c)) tt refl refl
            (rw h.deep (file-words (suc (length q)) n c ∙ rw u.kind)) l gone.0 fits _ refl refl refl refl refl)

      pub did-put : IsContent c → length n ≡ 8 → true ≡ ltb s.count (most_rows (length w))
          → after ≡ inserted w (20 * s.count) (20 * i) (file_row s.depth n c) → Due (Ok (entered s i (get_or c 0 0)))
      did-put x eight v b = rw (by-room true v, b) (go (at_key p f q) refl g.here)
        where
          go : (y : Node) → at_key p f q ≡ y → IsFolder y → Reads p (inserted w (20 * s.count) (20 * i) (file_row s.depth n c)) (entered s i (get_or c 0 0))
              (opened n (node_of c) (kids (put_in p (q ++ (n ∷ [])) (node_of c) (folder f))) q d)
          go absent e u = absurd u
          go (file z) e u = absurd u
          go (folder k) e u = put-in k e eight (ltb-true _ _ (sym v)) x

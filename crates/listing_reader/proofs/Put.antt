-- An entry put into the folder last opened: the table that it leaves, and the state that the struct then stands for. Its row
-- is counted in the tree of keys.
use mathlib.Core.Path.{◌≡◌, sym, ap, ◌∙◌}
use mathlib.Core.List.{List, [], ◌∷◌, ◌++◌}
use native.Mathlib.Decide.{ℕ_discrete}
use native.Mathlib.Omega.{arith}
use lib.ListN.{length, take, drop, get_or, set, length-set, length-append, length-map}
use lib.Seq.{take-length, take-append-le, drop-drop, get_or-set_same, get_or-set_other}
use Prim.Native.Nat.{ℕ, suc, ◌+◌, ◌*◌, ◌≤◌, ◌<◌}
use Rattle.tree.specs.Name.{Name}
use Rattle.tree.specs.Forest.{TreePath, Forest, Node, Node.absent, Node.folder, Present, at, kids, size}
use Rattle.tree.specs.Put.{put, Reaches}
use Rattle.tree.specs.Key.{key, fold, fold_node, fold_path, put_in}
use Rattle.tree.specs.declared.Profile.{Profile}
use Rattle.table_row.specs.Table.{Row, flat}
use Rattle.table_row.specs.Tree.{node_rows, root_name}
use Rattle.table_row.specs.Keyed.{keyed}
use Rattle.table_stands.specs.Stands.{Holds}
use Rattle.table_stands.specs.Around.{row_in}
use Rattle.table_slot.specs.Insert.{Last.none as none_yet, inserted, spot_of}
use Rattle.listing.specs.Entries.{Said}
use Rattle.listing.specs.Reading.{at_key}
use Rattle.listing.specs.Accepted.{Inside}
use Rattle.tree.proofs.Forest.{sorted-at}
use Rattle.tree.proofs.Put.{put-folder}
use Rattle.tree.proofs.Size.{size-put, row_count}
use Rattle.tree.proofs.Folds.{formed-fold, size-fold}
use Rattle.tree.proofs.Spots.{path-append, fold-put-last}
use Rattle.table_row.proofs.Keyed.{table-keyed}
use Rattle.listing.proofs.Parent.{parent-last}
use Rattle.table_stands.proofs.Put.{row-entry}
use Rattle.table_stands.proofs.Subtree.{holds-table}
use Rattle.table_slot.proofs.Grown.{inserted-rest, length_inserted, last-put, put-row, spot-entry}
use Rattle.table_slot.proofs.Spots.{spot_at}
use Rattle.listing_reader.specs.declared.Reader.{Reader}
use Rattle.listing_reader.specs.State.{zeroed, Filled, Open}
use Rattle.listing_reader.proofs.State.{all-keys}
use Rattle.listing_reader.proofs.Rows.{at-parent, before-size, row_stays, rows-within}

-- the folder last opened, k among keys, in a table w of which the first rows are in use
module _ (p : Profile) (most : ℕ) (w : List ℕ) (s : Reader) (f : Forest) (q : TreePath) (v : Said) (g : Inside p most f q) (h : Open p w s f q v) (k : Forest) (e : at_key p f q ≡ folder k) where
  abbrev Q : TreePath
  Q = fold_path p q

  abbrev F : Node
  F = folder (fold p f)

  pub H : Holds (keyed p (take (20 * s.count) w)) 0 root_name F
  H = rw (h.filled.used, table-keyed p f g.fit.good.within) (holds-table (fold p f) (formed-fold p f g.fit.good))

  pub here : get_or s.folders (length q) 0 ≡ row_in F Q
  here = h.folders (length q) (omega arith) ∙ ap (row_in F) (all-keys p q)

  pub within : row_in F Q + suc (size k) ≤ s.count
  within = let i = rw e at (rows-within Q F (rw e tt)) in let c = h.filled.rows in let z = size-fold p f in omega arith

  pub found : (n : Name) → spot_of (keyed p (take (20 * s.count) w)) (get_or s.folders (length q) 0) s.last (key p n) ≡ spot_at (at F (Q ++ (key p n ∷ []))) (row_in F (Q ++ (key p n ∷ [])))
  found n = rw here (spot-entry Q (key p n) k (keyed p (take (20 * s.count) w)) 0 root_name F H e s.last (rw e at h.last))

  -- an entry more, with no names beneath it
  module _ (n : Name) (x : Node) (row : Row) (there : Present x) (one : row_count x ≡ 1) (plain : fold_node p x ≡ x) (words : flat (node_rows (suc (length q)) n x) ≡ row) (long : length row ≡ 20) (none : at F (Q ++ (key p n ∷ [])) ≡ absent) (room : 20 * s.count + 20 ≤ length w) where
    abbrev path : TreePath
    path = q ++ (n ∷ [])

    abbrev keys : TreePath
    keys = Q ++ (key p n ∷ [])

    abbrev grown : Forest
    grown = kids (put_in p path x (folder f))

    abbrev after : List ℕ
    after = inserted w (20 * s.count) (20 * row_in F keys) row

    are-keys : fold_path p path ≡ keys
    are-keys = path-append p q (n ∷ [])

    is-folder : folder (fold p grown) ≡ put keys x F
    is-folder = ap folder (fold-put-last p q n x f) ∙ rw (are-keys, plain) (put-folder Q (key p n) x (fold p f))

    open_above : Reaches keys F
    open_above = parent-last Q (key p n) F g.here

    size-grown : size grown ≡ suc (size f)
    size-grown =
        omega (arith, size-put keys x F g.fit.good.sorted open_above, one, ap row_count none, ap row_count is-folder, size-fold p f, size-fold p grown)

    stays : (j : ℕ) → row_in (folder (fold p grown)) (take j keys) ≡ row_in F (take j keys)
    stays j = rw is-folder (row_stays keys j x F there g.fit.good.sorted open_above)

    low : 20 * row_in F keys ≤ 20 * s.count
    low = let i = within in let r = row-entry (key p n) k Q F e in let b = before-size (key p n) k in omega arith

    filled : (count : ℕ) → count ≡ s.count + 1 → Filled after count grown
    filled count c =
        let z : 20 * count ≡ 20 * s.count + 20 = omega arith in
        let v = size-grown in
        let u = h.filled.rows in
        let l = length_inserted w (20 * s.count) (20 * row_in F keys) row low room long in
        record {
          rows = omega arith;
          used = rw z (put-row p q n f x w (20 * s.count) row g.fit.good h.filled.used open_above none words long low room);
          rest = rw (z, l, inserted-rest w (20 * s.count) (20 * row_in F keys) row low room long)
              (sym (drop-drop 20 (20 * s.count) w) ∙ ap (drop 20) h.filled.rest ∙ drop-drop 20 (20 * s.count) (zeroed (length w)));
        }

    -- a folder's path is a part of the new entry's
    part : (j : ℕ) → j ≤ length q → take j keys ≡ take j Q
    part j l = take-append-le j Q (key p n ∷ []) (let z = length-map q (key p) in omega arith)

    above : (j : ℕ) → j ≤ length q → row_in (folder (fold p grown)) (take j Q) ≡ row_in F (take j Q)
    above j l = rw (← part j l) (stays j)

    at_path : row_in (folder (fold p grown)) keys ≡ row_in F keys
    at_path = rw (take-length keys) at (stays (length keys))

    own : row_in (folder (fold p grown)) Q ≡ row_in F Q
    own = rw (all-keys p q) at (above (length q) (omega arith))

    pub file-in : (r : Reader) → r.default ≡ s.default → r.folders ≡ s.folders → r.depth ≡ s.depth → r.last ≡ row_in F keys
        → r.count ≡ s.count + 1 → Open p after r grown q v
    file-in r a b c d u = record {
      wide = rw b h.wide;
      filled = filled r.count u;
      deep = c ∙ h.deep;
      default = rw a h.default;
      folders = λ j l. rw (b, above j l) (h.folders j l);
      last = rw (d, own, is-folder, at-parent Q (key p n) x F k g.fit.good.sorted e, row-entry (key p n) k Q F e)
          (last-put (row_in F Q) (key p n) x k there (rw e at (sorted-at Q F g.fit.good.sorted)));
    }

    more-folders : length q < 16 → (j : ℕ) → j ≤ suc (length q)
        → get_or (set s.folders (suc (length q)) (row_in F keys)) j 0 ≡ row_in F (take j keys)
    more-folders less j l = go (ℕ_discrete j (suc (length q)))
      where
        go : Dec (j ≡ suc (length q)) → get_or (set s.folders (suc (length q)) (row_in F keys)) j 0 ≡ row_in F (take j keys)
        go (yes u) =
            let y = h.wide in
            let z : length keys ≡ suc (length q) = omega (arith, length-append Q (key p n ∷ []), length-map q (key p)) in
            rw (u, get_or-set_same s.folders (suc (length q)) (row_in F keys) 0 (omega arith), ← z, take-length keys)
        go (no u) =
            rw (get_or-set_other s.folders (suc (length q)) j (row_in F keys) 0 u, part j (omega arith)) (h.folders j (omega arith))

    pub folder-in : (r : Reader) → r.default ≡ s.default → r.folders ≡ set s.folders s.depth (row_in F keys) → r.depth ≡ s.depth + 1 → r.last ≡ row_in F keys
        → r.count ≡ s.count + 1 → length q < 16 → Open p after r grown path v
    folder-in r a b c d u less =
        let l : length path ≡ suc (length q) = omega (arith, length-append q (n ∷ [])) in
        let deep = h.deep in
        record {
          wide = rw b (length-set s.folders _ _ ∙ h.wide);
          filled = filled r.count u;
          deep = omega arith;
          default = rw a h.default;
          folders = λ j i. rw (b, deep, are-keys, stays j) (more-folders less j (omega arith));
          last = rw (d, are-keys, at_path) none_yet;
        }

-- Another default, the folder last opened closed, the root opened.
use mathlib.Core.Path.{◌≡◌, refl, sym, ap, ◌∙◌}
use mathlib.Core.List.{List, [], ◌∷◌, ◌++◌, map}
use native.Mathlib.Omega.{arith}
use lib.ListN.{length, take, drop, get_or, set, replicate, length-map, length-set, length-replicate, replicate-append-replicate}
use lib.Seq.{take-take, get_or-set_same, take_at, take-length, length-take-le}
use Prim.Native.Nat.{ℕ, zero, suc, ◌+◌, ◌-◌, ◌≤◌, ◌<◌}
use Rattle.tree.specs.Name.{Name}
use Rattle.tree.specs.Forest.{TreePath, Forest, Forest.end, Node, Node.absent, Node.file, Node.folder, at, kids, size, find}
use Rattle.tree.specs.Key.{key, fold, fold_path}
use Rattle.tree.specs.declared.Profile.{Profile}
use Rattle.tree.proofs.Spots.{path-append}
use Rattle.table_row.specs.Table.{flat}
use Rattle.table_row.specs.Tree.{node_rows, rows_of, table}
use Rattle.table_stands.specs.Around.{row_in}
use Rattle.table_slot.specs.Insert.{Last, Last.entry as entry, Last.none as nothing}
use Rattle.listing.specs.Entries.{Said, Said.none}
use Rattle.listing.specs.Reading.{State, State.before, State.inside, State.closed, front, with_default, close}
use Rattle.listing.specs.Accepted.{Inside, IsFolder}
use Rattle.listing.proofs.Kept.{split-last, there-of}
use Rattle.listing.proofs.Parent.{folder-above}
use Rattle.table_stands.proofs.Put.{row-entry, at_entry}
use Rattle.std.specs.Prelude.{Option, None}
use Rattle.listing_keywords.specs.declared.Kind.{Kind}
use Rattle.listing_keywords.specs.Entries.{said_of}
use Rattle.listing_reader.specs.declared.Reader.{Reader}
use Rattle.listing_reader.specs.State.{zeroed, Filled, Waits, Open, Reads}

map-take : {A B : Type 0} (f : A → B) (n : ℕ) (l : List A) → map f (take n l) ≡ take n (map f l)
map-take f zero [] = refl
map-take f zero (x ∷ l) = refl
map-take f (suc n) [] = refl
map-take f (suc n) (x ∷ l) = ap (λ (y : List _). f x ∷ y) (map-take f n l)

pub all-keys : (p : Profile) (q : TreePath) → take (length q) (fold_path p q) ≡ fold_path p q
all-keys p q = ap (λ (n : ℕ). take n (fold_path p q)) (sym (length-map q (key p))) ∙ take-length (fold_path p q)

pub set-default : (p : Profile) (w : List ℕ) (s : Reader) (v : Option Kind) (r : Reader) (t : State) → r.default ≡ v → r.folders ≡ s.folders → r.depth ≡ s.depth
    → r.last ≡ s.last → r.count ≡ s.count → Reads p w s t → Reads p w r (with_default (said_of v) t)
set-default p w s v r (before x) a b c d e h =
    record { wide = rw b h.wide; rows = e ∙ h.rows; shut = c ∙ h.shut; default = rw a; empty = h.empty }
set-default p w s v r (inside f q x) a b c d e h =
    record {
      wide = rw b h.wide;
      filled = rw e h.filled;
      deep = c ∙ h.deep;
      default = rw a;
      folders = λ i u. rw b (h.folders i u);
      last = rw d h.last;
    }
set-default p w s v r (closed f) a b c d e h = record { filled = rw e h.filled; shut = c ∙ h.shut }

pub fresh-reads : (p : Profile) (n : ℕ) (r : Reader) → r.count ≡ 0 → r.depth ≡ 0 → r.default ≡ None → r.folders ≡ replicate 17 0 → Reads p (zeroed n) r (before none)
fresh-reads p n r a b c d = record { wide = rw d; rows = a; shut = b; default = rw c; empty = rw (length-replicate {A = ℕ} n 0) }

-- the root's row is all zero
first-zeros : (n : ℕ) → 20 ≤ n → take 20 (zeroed n) ≡ zeroed 20
first-zeros n h =
    let e : 20 + (n - 20) ≡ n = omega arith in
    rw (← e, ← replicate-append-replicate {A = ℕ} 20 (n - 20) 0) (take_at (zeroed 20) (zeroed (n - 20)) 20 refl)

root-filled : (w : List ℕ) → 20 ≤ length w → w ≡ zeroed (length w) → Filled w 1 end
unfolding table node_rows rows_of flat size
root-filled w g e = record { rows = refl; used = ap (take 20) e ∙ first-zeros (length w) g; rest = ap (drop 20) e }

pub root-opens : (p : Profile) (w : List ℕ) (s : Reader) (d : Said) (r : Reader) → 20 ≤ length w → r.default ≡ s.default → r.folders ≡ set s.folders 0 0 → r.depth ≡ 1 → r.count ≡ 1
    → r.last ≡ 0 → Waits w s d → Open p w r end [] d
unfolding row_in at fold
root-opens p w s d r g a z b c l h = record {
  wide = rw z (length-set s.folders 0 0 ∙ h.wide);
  filled = rw c (root-filled w g h.empty);
  deep = b;
  default = rw a h.default;
  folders = λ k q. let e : k ≡ 0 = omega arith in rw (e, z) (get_or-set_same s.folders 0 0 0 (let u = h.wide in omega arith));
  last = rw l nothing;
}

-- the folder that was open is an entry of its parent
last-closed : (f : Forest) (q : TreePath) (m : Name) → IsFolder (at (folder f) (q ++ (m ∷ [])))
    → Last (row_in (folder f) q) (kids (at (folder f) q)) (row_in (folder f) (q ++ (m ∷ [])))
last-closed f q m h = go (at (folder f) q) refl (folder-above q m (folder f) (there-of (at (folder f) (q ++ (m ∷ []))) h))
  where
    go : (x : Node) → at (folder f) q ≡ x → IsFolder x → Last (row_in (folder f) q) (kids x) (row_in (folder f) (q ++ (m ∷ [])))
    go absent e u = absurd u
    go (file c) e u = absurd u
    go (folder k) e u =
        rw (row-entry m k q (folder f) e) (entry m (there-of (find m k) (rw (at_entry m k q (folder f) e) at h)))

module _ (p : Profile) (most : ℕ) (w : List ℕ) (s : Reader) (f : Forest) (q : TreePath) (x : Said) (g : Inside p most f q) (h : Open p w s f q x) (more : 0 < length q) where
  -- the path of keys without its last
  front-keys : fold_path p (front q) ≡ take (length q - 1) (fold_path p q)
  front-keys = map-take (key p) (length q - 1) q

  last-keys : fold_path p q ≡ fold_path p (front q) ++ (key p (get_or q (length q - 1) []) ∷ [])
  last-keys = ap (fold_path p) (split-last q more) ∙ path-append p (front q) (get_or q (length q - 1) [] ∷ [])

  closes : (r : Reader) → r.default ≡ s.default → r.folders ≡ s.folders → r.depth ≡ s.depth - 1
      → r.last ≡ get_or s.folders (s.depth - 1) 0 → r.count ≡ s.count → Open p w r f (front q) x
  closes r a b c d e =
      let k : length (front q) ≡ length q - 1 = length-take-le (length q - 1) q (omega arith) in
      let u = h.deep in
      let n : suc (length (front q)) ≡ length q = omega arith in
      let v : s.depth - 1 ≡ length q = omega arith in
      record {
        wide = rw b h.wide;
        filled = rw e h.filled;
        deep = c ∙ omega arith;
        default = rw a h.default;
        folders = λ i u. rw (b, front-keys, take-take i (length q - 1) (fold_path p q) (omega arith)) (h.folders i (omega arith));
        last = rw (d, v, h.folders (length q) (omega arith), all-keys p q)
            (rw (← last-keys) at (last-closed (fold p f) (fold_path p (front q)) (key p (get_or q (length q - 1) [])) (rw last-keys at g.here)));
      }

pub leaves : (p : Profile) (most : ℕ) (w : List ℕ) (s r : Reader) (f : Forest) (q : TreePath) (x : Said) → r.default ≡ s.default → r.folders ≡ s.folders
    → r.depth ≡ s.depth - 1 → r.last ≡ get_or s.folders (s.depth - 1) 0 → r.count ≡ s.count → Inside p most f q → Open p w s f q x → Reads p w r (close f q x)
leaves p most w s r f [] x a b c d e g h = let u = h.deep in record { filled = rw e h.filled; shut = c ∙ omega arith }
leaves p most w s r f (n ∷ q) x a b c d e g h = closes p most w s f (n ∷ q) x g h (omega arith) r a b c d e

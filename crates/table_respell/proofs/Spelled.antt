-- The rows of siblings, each spelled as its counterpart, are the rows of the siblings spelled as the folder is.
use Rattle.std.proofs.Common.{Option, Some, None}
use mathlib.Core.Path.{◌≡◌, refl, sym, ap, ◌∙◌}
use mathlib.Core.List.{List, [], ◌∷◌, ◌++◌, append_assoc, append-nil}
use native.Mathlib.Omega.{arith}
use native.Mathlib.Numerals.{sub-one}
use lib.ListN.{length, get_or, set, replicate, length-replicate, get_or-replicate, length-set}
use lib.Seq.{get_or-set_same, get_or-set_other}
use Prim.Native.Nat.{ℕ, zero, suc, ◌+◌, ◌≤◌}
use Rattle.tree.specs.Name.{Name}
use Rattle.tree.specs.Forest.{Forest, Forest.end, Forest.leaf, Forest.dir, Node, Node.folder, kids}
use Rattle.tree.specs.Rules.{NameRule, ContentRule, Within}
use Rattle.tree.specs.declared.Profile.{Profile}
use Rattle.tree.specs.declared.Profile.TheVariants.{Exact, Folded}
use Rattle.tree.specs.Key.{key, entry, respell}
use Rattle.tree.proofs.Folds.{respell-exact}
use Rattle.table_row.specs.Table.{Row, flat, depth, name}
use Rattle.table_row.specs.Tree.{file_row, folder_row, rows_of}
use Rattle.table_row.proofs.Flat.{rows-flat}
use Rattle.table_stands.proofs.Forest.{file-name, folder-name, wide-rows_of, ruled-within}
use Rattle.table_respell.specs.Respell.{counterpart, spelled, spelled_rows, respelled, Shallow}
use Rattle.table_respell.proofs.Node.{There, Opens, counter, spelled-file, spelled-folder}

-- a row of depth suc d called n
module _ (p : Profile) (w v : List ℕ) (d : ℕ) (n : Name) (opened : List (Option ℕ)) where
  abbrev noted : Option ℕ
  noted = counterpart v (get_or opened d None) (key p n)

  step : (r : Row) (rs : List Row) → depth r ≡ suc d → name r ≡ n
      → spelled_rows p w v opened (r ∷ rs) ≡ spelled w noted r ∷ spelled_rows p w v (set opened (suc d) noted) rs
  unfolding spelled_rows
  step r rs e q = rw (e, q, sub-one)

  -- the rows above stay noted
  noted-above : (i : ℕ) → i ≤ d → get_or (set opened (suc d) noted) i None ≡ get_or opened i None
  noted-above i h = get_or-set_other opened (suc d) i noted None (λ e. omega arith)

  noted_here : length opened ≡ 17 → d ≤ 15 → get_or (set opened (suc d) noted) (suc d) None ≡ noted
  noted_here e h = get_or-set_same opened (suc d) noted None (omega arith)

-- a row, what comes beneath it, and what comes after that
joined : (r : Row) (rows below mid gs rest : List Row) → rows ≡ below ++ mid → mid ≡ gs ++ rest → r ∷ rows ≡ r ∷ ((below ++ gs) ++ rest)
joined r rows below mid gs rest e q = ap (λ (z : List Row). r ∷ z) (e ∙ ap (λ (z : List Row). below ++ z) q ∙ sym (append_assoc below gs rest))

module _ (p : Profile) (w v : List ℕ) where
  -- rows rs of depth suc d and more, before the rows qs, are spelled as gs
  record Goes (d : ℕ) (opened : List (Option ℕ)) (rs gs qs : List Row) : Type 0 where
    after : List (Option ℕ)
    size : length after ≡ 17
    kept : (i : ℕ) → i ≤ d → get_or after i None ≡ get_or opened i None
    gives : spelled_rows p w v opened (rs ++ qs) ≡ gs ++ spelled_rows p w v after qs

  siblings : (j : ℕ) (k : Forest) → Within NameRule ContentRule j k → (d : ℕ) (x : Node) (opened : List (Option ℕ)) → d + j ≤ 16 → length opened ≡ 17
      → Opens p w v d x (get_or opened d None) → (qs : List Row) → Goes d opened (rows_of (suc d) k) (rows_of (suc d) (respell p (kids x) k)) qs
  unfolding Within rows_of respell
  siblings j end W d x opened h l o qs = record { after = opened; size = l; kept = λ i z. refl; gives = refl }
  siblings zero (leaf n c s) W d x opened h l o qs = absurd W
  siblings (suc j) (leaf n c s) W d x opened h l o qs =
      let f = noted p w v d n opened in
      let u = noted-above p w v d n opened in
      let C = counter p w v d x (get_or opened d None) n o in
      let G = siblings (suc j) s W.2 d x (set opened (suc d) f) h (length-set opened (suc d) f ∙ l) (rw (u d (omega arith)) o) qs in
      record {
        after = G.after;
        size = G.size;
        kept = λ i z. G.kept i z ∙ u i z;
        gives =
            step p w v d n opened (file_row (suc d) n c) (rows_of (suc d) s ++ qs) refl (file-name (suc d) n c W.0)
            ∙ rw (spelled-file w f (suc d) n c W.0.eight, C.1, G.gives);
      }
  siblings zero (dir n i s) W d x opened h l o qs = absurd W
  siblings (suc j) (dir n i s) W d x opened h l o qs =
      let f = noted p w v d n opened in
      let u = noted-above p w v d n opened in
      let C = counter p w v d x (get_or opened d None) n o in
      let y = entry p (key p n) (kids x) in
      let K = siblings j i W.1 (suc d) y (set opened (suc d) f) (omega arith) (length-set opened (suc d) f ∙ l) (rw (noted_here p w v d n opened l (omega arith)) C.0) (rows_of (suc d) s ++ qs) in
      let G = siblings (suc j) s W.2 d x K.after h K.size (rw (K.kept d (omega arith), u d (omega arith)) o) qs in
      record {
        after = G.after;
        size = G.size;
        kept = λ z a. G.kept z a ∙ K.kept z (omega arith) ∙ u z a;
        gives =
            ap (λ (rs : List Row). spelled_rows p w v opened (folder_row (suc d) n ∷ rs)) (append_assoc (rows_of (suc (suc d)) i) (rows_of (suc d) s) qs)
            ∙ step p w v d n opened (folder_row (suc d) n) (rows_of (suc (suc d)) i ++ (rows_of (suc d) s ++ qs)) refl (folder-name (suc d) n W.0)
            ∙ rw (spelled-folder w f (suc d) n W.0.eight, C.1) (joined _ _ (rows_of (suc (suc d)) (respell p (kids y) i)) _ (rows_of (suc d) (respell p (kids x) s)) _ K.gives G.gives);
      }

-- words as rows of siblings g of depth suc d, among the entries of the folder k at row f
pub respelled-rows : (p : Profile) (w v : List ℕ) (f d j : ℕ) (k g : Forest) (words : List ℕ) → There p w v d (folder k) f → Within NameRule ContentRule j g → d + j ≤ 16
    → words ≡ flat (rows_of (suc d) g) → respelled p w v f words ≡ flat (rows_of (suc d) (respell p k g))
unfolding respelled spelled_rows
respelled-rows Exact w v f d j k g words T W h e = e ∙ rw (respell-exact k g)
respelled-rows Folded w v f d j k g words T W h e =
    let r = rows-flat (rows_of (suc d) g) (wide-rows_of (suc d) g (ruled-within j g W)) in
    let a : get_or (replicate 17 (Some f)) d None ≡ Some f = get_or-replicate 17 d (Some f) None (omega arith) in
    let G = siblings Folded w v j g W d (folder k) (replicate 17 (Some f)) h (length-replicate 17 (Some f)) (f, a, T) [] in
    rw (e, r) (ap flat (ap (spelled_rows Folded w v (replicate 17 (Some f))) (sym (append-nil (rows_of (suc d) g))) ∙ G.gives ∙ append-nil (rows_of (suc d) (respell Folded k g))))

shallow-append : (rs qs : List Row) → Shallow rs → Shallow qs → Shallow (rs ++ qs)
unfolding Shallow
shallow-append [] qs h g = g
shallow-append (r ∷ rs) qs h g = (h.0, h.1, shallow-append rs qs h.2 g)

-- such rows are of depth 1 to 16
pub shallow-rows : (j d : ℕ) (g : Forest) → Within NameRule ContentRule j g → d + j ≤ 16 → Shallow (rows_of (suc d) g)
unfolding Within rows_of Shallow
shallow-rows j d end W h = tt
shallow-rows zero d (leaf n c s) W h = absurd W
shallow-rows (suc j) d (leaf n c s) W h = (omega arith, omega arith, shallow-rows (suc j) d s W.2 h)
shallow-rows zero d (dir n k s) W h = absurd W
shallow-rows (suc j) d (dir n k s) W h = (omega arith, omega arith, shallow-append (rows_of (suc (suc d)) k) (rows_of (suc d) s) (shallow-rows j (suc d) k W.1 (omega arith)) (shallow-rows (suc j) d s W.2 h))

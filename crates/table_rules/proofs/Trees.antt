-- The rows of a well-formed tree are good.
use mathlib.Core.Path.{◌≡◌, refl, ◌∙◌}
use mathlib.Core.List.{List, [], ◌∷◌, ◌++◌, reverse_aux}
use mathlib.Core.Bool.{Bool, true, false, cond}
use native.Mathlib.Omega.{arith}
use lib.Dec.{eqb}
use lib.Seq.{drop_at}
use Prim.Native.Nat.{ℕ, zero, suc, ◌+◌, ◌≤◌, ◌<◌}
use Rattle.tree.specs.Name.{Name}
use Rattle.tree.specs.Forest.{Content, Forest, Forest.end, Forest.leaf, Forest.dir, Node.folder, Above, Sorted}
use Rattle.tree.specs.Rules.{zeros, NameRule, ContentRule, Within, WellFormed}
use Rattle.table_row.specs.Table.{Row, depth, kind, name}
use Rattle.table_row.specs.Tree.{file_row, folder_row, rows_of, node_rows, root_name}
use Rattle.tree.proofs.Order.{compare_refl, compare-below, compare-above}
use Rattle.table_row.proofs.Tree.{name-folder, name-file}
use Rattle.table_rules.specs.Rules.{deepest, kind_rule}
use Rattle.table_rules.proofs.Plain.{ascends, ok_row}
use Rattle.table_rules.proofs.Good.{Good, good-append, follows-ok}

-- a tree's rows are of a good kind
module _ (d : ℕ) {n : Name} (N : NameRule n) where
  kind-folder : kind_rule (folder_row d n) ≡ true
  unfolding kind_rule zeros
  kind-folder = rw (drop_at n (0 ∷ 0 ∷ 0 ∷ 0 ∷ 0 ∷ 0 ∷ 0 ∷ 0 ∷ 0 ∷ 0 ∷ []) 8 N.eight)

  kind-file : {c : Content} → ContentRule c → kind_rule (file_row d n c) ≡ true
  unfolding kind_rule
  kind-file C = rw C.kind

-- the nearest row lets depth d follow
unfoldable Reaches : ℕ → List Row → Type 0
Reaches d [] = ⊥
Reaches d (p ∷ ps) = d ≤ deepest p

depth-deepest : (p : Row) → depth p ≤ deepest p
depth-deepest p = go (eqb (kind p) 0)
  where
    go : (b : Bool) → depth p ≤ cond b (depth p + 1) (depth p)
    go true = omega arith
    go false = omega arith

-- the first sibling's name may come next
unfoldable Starts : ℕ → Forest → List Row → Type 0
Starts d end ps = Unit {0}
Starts d (leaf n c s) ps = ascends d n ps ≡ true
Starts d (dir n k s) ps = ascends d n ps ≡ true

starts-above : (d : ℕ) (n : Name) (s : Forest) (r : Row) (ps : List Row) → depth r ≡ d → name r ≡ n → Above n s → Starts d s (r ∷ ps)
unfolding Above Starts ascends
starts-above d n end r ps e f h = tt
starts-above d n (leaf m c s) r ps e f h = rw (e, f, compare_refl, h.0)
starts-above d n (dir m k s) r ps e f h = rw (e, f, compare_refl, h.0)

starts-beneath : (d : ℕ) (k : Forest) (r : Row) (ps : List Row) → depth r < d → Starts d k (r ∷ ps)
unfolding Starts ascends
starts-beneath d end r ps h = tt
starts-beneath d (leaf n c s) r ps h = rw (compare-below (depth r) d h)
starts-beneath d (dir n k s) r ps h = rw (compare-below (depth r) d h)

-- rows deeper than d, turned onto those before them, change nothing at depth d
turn-append : (rs qs ps : List Row) → reverse_aux (rs ++ qs) ps ≡ reverse_aux qs (reverse_aux rs ps)
turn-append [] qs ps = refl
turn-append (r ∷ rs) qs ps = turn-append rs qs (r ∷ ps)

ascends-over : (d : ℕ) (m : Name) (r : Row) (ps : List Row) → d < depth r → ascends d m (r ∷ ps) ≡ ascends d m ps
unfolding ascends
ascends-over d m r ps h = rw (compare-above (depth r) d h)

ascends-skip : (d e : ℕ) (f : Forest) (m : Name) (ps : List Row) → d < e → ascends d m (reverse_aux (rows_of e f) ps) ≡ ascends d m ps
unfolding rows_of
ascends-skip d e end m ps h = refl
ascends-skip d e (leaf n c s) m ps h = ascends-skip d e s m (file_row e n c ∷ ps) h ∙ ascends-over d m (file_row e n c) ps h
ascends-skip d e (dir n k s) m ps h =
    rw (turn-append (rows_of (suc e) k) (rows_of e s) (folder_row e n ∷ ps))
    (ascends-skip d e s m (reverse_aux (rows_of (suc e) k) (folder_row e n ∷ ps)) h
    ∙ ascends-skip d (suc e) k m (folder_row e n ∷ ps) (omega arith)
    ∙ ascends-over d m (folder_row e n) ps h)

starts-skip : (d e : ℕ) (f s : Forest) (ps : List Row) → d < e → Starts d s ps → Starts d s (reverse_aux (rows_of e f) ps)
unfolding Starts
starts-skip d e f end ps h g = tt
starts-skip d e f (leaf n c s) ps h g = ascends-skip d e f n ps h ∙ g
starts-skip d e f (dir n k s) ps h g = ascends-skip d e f n ps h ∙ g

reaches-skip : (d e : ℕ) (f : Forest) (ps : List Row) → d < e → Reaches d ps → Reaches d (reverse_aux (rows_of e f) ps)
unfolding rows_of Reaches
reaches-skip d e end ps h g = g
reaches-skip d e (leaf n c s) ps h g = reaches-skip d e s (file_row e n c ∷ ps) h (omega (arith, depth-deepest (file_row e n c)))
reaches-skip d e (dir n k s) ps h g =
    rw (turn-append (rows_of (suc e) k) (rows_of e s) (folder_row e n ∷ ps))
    (reaches-skip d e s (reverse_aux (rows_of (suc e) k) (folder_row e n ∷ ps)) h
    (reaches-skip d (suc e) k (folder_row e n ∷ ps) (omega arith) (omega (arith, depth-deepest (folder_row e n)))))

rows-good : (f : Forest) (d k : ℕ) (ps : List Row) → d + k ≡ 17 → 1 ≤ d → Within NameRule ContentRule k f → Sorted f → Reaches d ps → Starts d f ps → Good ps (rows_of d f)
unfolding rows_of Good Within Sorted Reaches Starts
rows-good end d k ps e h w s r a = tt
rows-good (leaf n c t) d zero ps e h w s r a = absurd w
rows-good (leaf n c t) d (suc k) [] e h w s r a = absurd r
rows-good (leaf n c t) d (suc k) (p ∷ ps) e h w s r a =
    let q = name-file d w.0 c in (
      follows-ok p ps (file_row d n c) (record { low = h; high = omega arith; step = r; named = rw q w.0.good; kinds = kind-file d w.0 w.1; order = rw q a }),
      rows-good t d (suc k) (file_row d n c ∷ p ∷ ps) e h w.2 s.1 (depth-deepest (file_row d n c)) (starts-above d n t (file_row d n c) (p ∷ ps) refl q s.0),
    )
rows-good (dir n j t) d zero ps e h w s r a = absurd w
rows-good (dir n j t) d (suc k) [] e h w s r a = absurd r
rows-good (dir n j t) d (suc k) (p ∷ ps) e h w s r a =
    let q = name-folder d w.0 in
    let ps' = folder_row d n ∷ p ∷ ps in (
      follows-ok p ps (folder_row d n) (record { low = h; high = omega arith; step = r; named = rw q w.0.good; kinds = kind-folder d w.0; order = rw q a }),
      good-append ps' (rows_of (suc d) j) (rows_of d t)
          (rows-good j (suc d) k ps' (omega arith) (omega arith) w.1 s.1 (omega arith) (starts-beneath (suc d) j (folder_row d n) (p ∷ ps) (omega arith)))
          (rows-good t d (suc k) (reverse_aux (rows_of (suc d) j) ps') e h w.2 s.2
          (reaches-skip d (suc d) j ps' (omega arith) (depth-deepest (folder_row d n)))
          (starts-skip d (suc d) j t ps' (omega arith) (starts-above d n t (folder_row d n) (p ∷ ps) refl q s.0))),
    )

-- the rows of a whole tree, the root's first
pub table-good : (f : Forest) → WellFormed f → Good [] (node_rows 0 root_name (folder f))
unfolding node_rows Good ok_row zeros Reaches
table-good f W =
    (refl, rows-good f 1 16 (folder_row 0 root_name ∷ []) refl (omega arith) W.within W.sorted (omega arith) (starts-beneath 1 f (folder_row 0 root_name) [] (omega arith)))

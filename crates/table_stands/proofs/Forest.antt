-- The rows of a forest: how many there are, how deep they stand, and that each has its name and its twenty words.
use mathlib.Core.Path.{◌≡◌, refl, ap}
use mathlib.Core.List.{List, [], ◌∷◌, ◌++◌, append_assoc}
use native.Mathlib.Omega.{arith}
use lib.ListN.{length, drop, length-append, length-drop}
use lib.Seq.{take_at}
use Prim.Native.Nat.{ℕ, zero, suc, ◌+◌, ◌<◌}
use borrow.Author.Tests.{lt-ltb, le-ltb}
use Rattle.tree.specs.Name.{Name}
use Rattle.tree.specs.Forest.{Content, Forest, Forest.end, Forest.leaf, Forest.dir, Node, Node.absent, Node.file, Node.folder, size}
use Rattle.tree.specs.Rules.{NameRule, ContentRule, Within}
use Rattle.tree.proofs.Size.{row_count}
use Rattle.table_row.specs.Table.{Row, name}
use Rattle.table_row.specs.Tree.{file_row, folder_row, rows_of, node_rows}
use Rattle.table_find.specs.Subtree.{run}
use Rattle.table_row.proofs.Flat.{Whole, whole_append}
use Rattle.table_row.proofs.Tree.{length-rows}
use Rattle.table_stands.specs.Stands.{Ended, Ruled, RuledNode}

pub length-node_rows : (d : ℕ) (n : Name) (x : Node) → length (node_rows d n x) ≡ row_count x
unfolding node_rows
length-node_rows d n absent = refl
length-node_rows d n (file c) = refl
length-node_rows d n (folder k) = ap suc (length-rows (suc d) k)

-- depths
pub ended-up : (d : ℕ) (rs : List Row) → Ended d rs → Ended (suc d) rs
ended-up d [] h = tt
ended-up d (r ∷ rs) h = omega arith

pub ended-rows : (d : ℕ) (f : Forest) (rs : List Row) → Ended d rs → Ended d (rows_of d f ++ rs)
unfolding rows_of
ended-rows d end rs h = h
ended-rows d (leaf n c s) rs h = omega arith
ended-rows d (dir n k s) rs h = omega arith

pub run-ended : (d : ℕ) (rs : List Row) → Ended d rs → run d rs ≡ 0
unfolding run
run-ended d [] h = refl
run-ended d (r ∷ rs) h = rw (le-ltb _ _ h)

-- deeper rows belong to the run
pub run-rows : (d e : ℕ) (f : Forest) (rs : List Row) → d < e → run d (rows_of e f ++ rs) ≡ size f + run d rs
unfolding run rows_of size
run-rows d e end rs h = omega arith
run-rows d e (leaf n c s) rs h = rw (lt-ltb d e h) (let k = run-rows d e s rs h in omega arith)
run-rows d e (dir n k s) rs h =
    rw (lt-ltb d e h, append_assoc (rows_of (suc e) k) (rows_of e s) rs)
    (let a = run-rows d (suc e) k (rows_of e s ++ rs) (omega arith) in let b = run-rows d e s rs h in omega arith)

-- rows have their names
pub file-name : (d : ℕ) (n : Name) (c : Content) → NameRule n → name (file_row d n c) ≡ n
file-name d n c h = take_at n (drop 1 c) 8 h.eight

pub folder-name : (d : ℕ) (n : Name) → NameRule n → name (folder_row d n) ≡ n
folder-name d n h = take_at n (0 ∷ 0 ∷ 0 ∷ 0 ∷ 0 ∷ 0 ∷ 0 ∷ 0 ∷ 0 ∷ 0 ∷ []) 8 h.eight

-- and twenty words
wide-file : (d : ℕ) (n : Name) (c : Content) → length n ≡ 8 → ContentRule c → length (file_row d n c) ≡ 20
wide-file d n c h k = simp (length-append, length-drop) (let e = k.eleven in omega arith)

wide-folder : (d : ℕ) (n : Name) → length n ≡ 8 → length (folder_row d n) ≡ 20
wide-folder d n h = simp length-append (omega arith)

pub wide-rows_of : (d : ℕ) (f : Forest) → Ruled f → Whole (rows_of d f)
unfolding rows_of Ruled Whole
wide-rows_of d end h = tt
wide-rows_of d (leaf n c s) h = (wide-file d n c h.0.eight h.1, wide-rows_of d s h.2)
wide-rows_of d (dir n k s) h = (wide-folder d n h.0.eight, whole_append (rows_of (suc d) k) (rows_of d s) (wide-rows_of (suc d) k h.1) (wide-rows_of d s h.2))

pub wide-node_rows : (d : ℕ) (n : Name) (x : Node) → length n ≡ 8 → RuledNode x → Whole (node_rows d n x)
unfolding node_rows Whole
wide-node_rows d n absent e h = tt
wide-node_rows d n (file c) e h = (wide-file d n c e h, tt)
wide-node_rows d n (folder k) e h = (wide-folder d n e, wide-rows_of (suc d) k h)

-- a checked tree is ruled
pub ruled-within : (d : ℕ) (f : Forest) → Within NameRule ContentRule d f → Ruled f
unfolding Within Ruled
ruled-within d end h = tt
ruled-within zero (leaf n c s) h = absurd h
ruled-within (suc d) (leaf n c s) h = (h.0, h.1, ruled-within (suc d) s h.2)
ruled-within zero (dir n k s) h = absurd h
ruled-within (suc d) (dir n k s) h = (h.0, ruled-within d k h.1, ruled-within (suc d) s h.2)

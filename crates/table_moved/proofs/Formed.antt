-- The result of a move is a table again: the moved tree of trees that are well formed in a profile is too, and its table passes.
use Rattle.std.proofs.Common.{Ok}
use mathlib.Core.Path.{◌≡◌}
use mathlib.Core.List.{List, [], ◌∷◌}
use mathlib.Core.Bool.{true}
use native.Mathlib.Omega.{arith}
use lib.ListN.{length, take, length-take}
use Prim.Native.Nat.{ℕ, zero, suc, ◌/◌, ◌≤◌}
use Rattle.tree.specs.Name.{Name}
use Rattle.tree.specs.Rules.{Words32, good_name, NameRule, AllNames}
use Rattle.tree.specs.declared.Profile.{Profile}
use Rattle.tree.specs.Key.{FormedIn}
use Rattle.settle.specs.Spelled.{moved_in}
use Rattle.table_row.specs.Tree.{table, tree_of}
use Rattle.table_rules.specs.Keyed.{Passes}
use Rattle.tree.proofs.Same.{and-true}
use Rattle.table_row.proofs.Tree.{length-table, tree-table}
use Rattle.settle.proofs.Spelled.{formed-moved}
use Rattle.table_rules.proofs.Faults.{room-parts}
use Rattle.table_rules.proofs.Passed.{passed-formed, table-passes}
use Rattle.table_moved.specs.Path.{Eights, path_of, slots, path_rule}
use Rattle.table_moved.specs.Move.{moved_words, move_due}
use Rattle.table_moved.proofs.Due.{path-depth, path-slots, Passed, move-passed}

-- the names of a path whose slots are good
names-ruled : (n : ℕ) (ms : List Name) → Eights ms → slots n ms ≡ true → AllNames NameRule (take n ms)
unfolding Eights slots AllNames
names-ruled zero ms h e = tt
names-ruled (suc n) [] h e = tt
names-ruled (suc n) (m ∷ ms) h e =
    let g = and-true (good_name m) (slots n ms) e in
    (record { eight = h.0; small = h.1; good = g.0 }, names-ruled n ms h.2 g.1)

-- a path that passed keeps the rules
pub path-ruled : (names : List Name) (depth : ℕ) → Eights names → path_rule names depth ≡ true → AllNames NameRule (path_of names depth) × (length (path_of names depth) ≤ 16)
path-ruled names depth n8 h =
    let d = path-depth names depth h in
    (names-ruled depth names n8 (path-slots names depth h), omega (arith, length-take depth names))

-- what an accepted move leaves: a table that passes again, of the moved tree, which is well formed in the profile
pub record Leaves (p : Profile) (target source : List ℕ) (names : List Name) (depth : ℕ) : Type 0 where
  pub formed : FormedIn p (moved_in p (path_of names depth) (tree_of source) (tree_of target))
  pub tree : tree_of (moved_words p target source names depth) ≡ moved_in p (path_of names depth) (tree_of source) (tree_of target)
  pub passes : Passes p (moved_words p target source names depth)

pub leaves : (p : Profile) (target source : List ℕ) (names : List Name) (depth : ℕ) (lent : List ℕ) (a : ℕ) → Words32 target → Words32 source → Eights names
    → move_due p target source names depth lent ≡ Ok a → Leaves p target source names depth
leaves p target source names depth lent a t32 s32 n8 e =
    let P : Passed p target source names depth lent = move-passed p target source names depth lent a e in
    let n = path-ruled names depth n8 P.path in
    let W = formed-moved p (path_of names depth) (tree_of source) (tree_of target) n.0 n.1 (passed-formed p source P.source-passes s32) (passed-formed p target P.target-passes t32) in
    let f = moved_in p (path_of names depth) (tree_of source) (tree_of target) in
    let r = room-parts (length (table f) / 20) (length lent) P.room in
    record { formed = W; tree = tree-table f W.within; passes = table-passes p f W (omega (arith, length-table f W.within, r.0)) }

-- Accepted calls of make_move, one after the other, leave the tables of the trees that the moves leave.
use Rattle.std.proofs.Common.{Ok}
use mathlib.Core.Path.{◌≡◌, ap, subst, ◌∙◌}
use mathlib.Core.List.{List, [], ◌∷◌}
use native.Mathlib.Omega.{arith}
use lib.ListN.{length, drop}
use lib.Seq.{take_at}
use Prim.Native.Nat.{ℕ, suc, ◌*◌, ◌/◌}
use Rattle.tree.specs.Forest.{TreePath, Forest, size}
use Rattle.tree.specs.declared.Profile.{Profile}
use Rattle.settle.specs.Decision.{Decision.agreed, Decision.left_gets, Decision.right_gets, Decision.clash}
use Rattle.settle.specs.Results.{Line.line, Lines}
use Rattle.settle.specs.Resume.{Sides}
use Rattle.settle.specs.Spelled.{moved_in, after_in}
use Rattle.table_row.specs.Buffer.{over}
use Rattle.table_row.specs.Tree.{table}
use Rattle.table_moved.specs.Move.{moved_words, move_due}
use Rattle.settle.proofs.Spelled.{formed-moved}
use Rattle.table_row.proofs.Tree.{length-table}
use Rattle.table_rules.proofs.Faults.{first-last, room-parts}
use Rattle.table_moved.proofs.Due.{move-passed}
use Rattle.table_moved.proofs.Formed.{path-ruled}
use Rattle.demands.specs.Demand3.{Made, Tables, AllCarried}
use Rattle.demands.proofs.Tab.{Tab, tab-tree}

-- what an accepted call leaves
pub made-tab : (p : Profile) (q : TreePath) (target source result : List ℕ) (t s : Forest) → Made p q target source result → Tab p target t → Tab p source s
    → Tab p result (moved_in p q s t)
unfolding move_due over
made-tab p q target source result t s M T S =
    let w = moved_words p target source M.names M.depth in
    let last = Ok (length w / 20) in
    let answered : move_due p target source M.names M.depth M.room ≡ last = first-last _ last M.accepted in
    let P = move-passed p target source M.names M.depth M.room _ answered in
    let room = room-parts (length w / 20) (length M.room) P.room in
    let ruled = path-ruled M.names M.depth M.slots P.path in
    let formed = formed-moved p q s t (rw M.path at ruled.0) (rw M.path at ruled.1) S.formed T.formed in
    let words : w ≡ table (moved_in p q s t) = rw (tab-tree p source s S, tab-tree p target t T, M.path) in
    let size_is : length w ≡ 20 * suc (size (moved_in p q s t)) = ap length words ∙ length-table (moved_in p q s t) formed.within in
    let all : length w ≡ 20 * (length w / 20) = omega arith in
    record {
      is = M.table-left ∙ rw answered (take_at w (drop (length w) M.room) (20 * (length w / 20)) all) ∙ words;
      formed = formed;
      rows = omega (arith, room.0);
    }

-- the two sides' tables are those of the two trees
pub record Both (p : Profile) (t : Tables) (s : Sides) : Type 0 where
  pub left : Tab p t.left s.left
  pub right : Tab p t.right s.right

pub carried-all : (p : Profile) (ms : Lines) (s t : Tables) (u : Sides) → AllCarried p ms s t → Both p s u → Both p t (after_in p ms u)
unfolding AllCarried after_in
carried-all p [] s t u h B = subst (λ (x : Tables). Both p x u) h B
carried-all p (line q agreed ∷ ms) s t u (v, c, h) B = absurd c
carried-all p (line q clash ∷ ms) s t u (v, c, h) B = absurd c
carried-all p (line q left_gets ∷ ms) s t u (v, c, h) B =
    carried-all p ms v t _ h (record {
      left = made-tab p q s.left s.right v.left u.left u.right c.0 B.left B.right;
      right = rw c.1 B.right;
    })
carried-all p (line q right_gets ∷ ms) s t u (v, c, h) B =
    carried-all p ms v t _ h (record {
      left = rw c.1 B.left;
      right = made-tab p q s.right s.left v.right u.right u.left c.0 B.right B.left;
    })

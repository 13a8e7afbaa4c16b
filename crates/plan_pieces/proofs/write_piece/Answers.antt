-- `write_piece` copies what is taken and names what is moved.
use Rattle.plan_cursor.specs.declared.Decision.TheVariants.{LeftGets, RightGets}
use Rattle.plan_results.proofs.Pieces.{piece-length, moved-room, moved_named}
use native.Mathlib.Omega.{arith}
use Rattle.plan_pieces.proofs.write_piece.Goals as goal

pub copy_source-e-requires : goal.copy_source-e-requires
copy_source-e-requires c =
    let a = c.args in
    rw c.takes-s.ensures (omega (arith, piece-length a.tree a.t.o.now a.t.l.now a.t.r.now a.t.three a.d, c.requires))

pub name_moved-requires : goal.name_moved-requires
name_moved-requires c =
    let a = c.args in
    let x = rw c.takes-s.ensures at c.copy_source-e.ensures in
    moved-room a.tree a.t.o.now a.t.l.now a.t.r.now a.t.three a.d x c.requires c.copy_source-e.auto.out

pub name_moved-requires-in-RightGets : goal.name_moved-requires-in-RightGets
name_moved-requires-in-RightGets c =
    let a = c.args in
    let x = rw c.takes-s.ensures at c.copy_source-e.ensures in
    moved-room a.tree a.t.o.now a.t.l.now a.t.r.now a.t.three a.d x c.requires c.copy_source-e.auto.out

pub returns-in-Agreed : goal.returns-in-Agreed
returns-in-Agreed c =
    rw c.in-Agreed.is (rw (c.takes-s.ensures, c.in-Agreed.is) at c.copy_source-e.ensures)

pub returns-in-LeftGets : goal.returns-in-LeftGets
returns-in-LeftGets c =
    let a = c.args in
    let h = c.in-LeftGets.h in
    let x = rw (c.takes-s.ensures, c.in-LeftGets.is) at c.copy_source-e.ensures in
    rw c.in-LeftGets.is (moved_named a.tree a.t.o.now a.t.l.now a.t.r.now a.t.three (LeftGets h) x h (omega arith) c.name_moved.ensures)

pub returns-in-RightGets : goal.returns-in-RightGets
returns-in-RightGets c =
    let a = c.args in
    let h = c.in-RightGets.h in
    let x = rw (c.takes-s.ensures, c.in-RightGets.is) at c.copy_source-e.ensures in
    rw c.in-RightGets.is (moved_named a.tree a.t.o.now a.t.l.now a.t.r.now a.t.three (RightGets h) x h (omega arith) c.name_moved-in-RightGets.ensures)

pub returns-in-Clash : goal.returns-in-Clash
returns-in-Clash c =
    rw c.in-Clash.is (rw (c.takes-s.ensures, c.in-Clash.is) at c.copy_source-e.ensures)
